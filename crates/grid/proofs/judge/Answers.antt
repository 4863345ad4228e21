use mathlib.Core.Path.{◌≡◌, refl, ap, ◌∙◌}
use mathlib.Core.Bool.{true}
use mathlib.Core.List.{List}
use Prim.Native.Nat.{ℕ}
use borrow.Author.Tests.{eq-eqb, ne_eqb}
use Rattle.refusals.specs.Rows.{first}
use Rattle.lists.proofs.Tests.{failed, passed}
use Rattle.lists.specs.Tests.{any}
use Rattle.space.specs.Space.{Pos}
use Rattle.octants.specs.Judge.{is_graded}
use Rattle.octree.specs.Parts.{roots_of}
use Rattle.octree.specs.declared.Roots.{Roots}
use Rattle.plan.specs.Vertices.{dims_of}
use Rattle.refusals.specs.Causes.{each_rows, answer_rows}
use Rattle.grid.specs.Step.{graded_rows, split_rows}
use Rattle.grid.proofs.judge.Goals as goal

-- there is nothing to judge where there are no levels
flat_graded : (d : Pos) (l : ℕ) (s : List ℕ) → l ≡ 0 → is_graded d l s ≡ true
unfolding is_graded any
flat_graded d l s e = rw e refl

pub returns-then-split-p : goal.returns-then-split-p
unfolding split_rows each_rows answer_rows graded_rows first
returns-then-split-p c = rw (ne_eqb _ _ c.if-split-p.true) refl

pub returns-then-not-all_at_most : goal.returns-then-not-all_at_most
unfolding split_rows each_rows answer_rows graded_rows first
returns-then-not-all_at_most c = rw (eq-eqb _ _ c.if-split-p.false, failed c.all_at_most.ensures c.if-not-all_at_most.true) refl

pub returns-then-p-eq0 : goal.returns-then-p-eq0
unfolding split_rows each_rows answer_rows graded_rows first
returns-then-p-eq0 c = rw (eq-eqb _ _ c.if-split-p.false, passed c.all_at_most.ensures c.if-not-all_at_most.false, flat_graded (dims_of c.args.p) _ _ c.if-p-eq0.true) refl

pub returns-then-not-is_graded : goal.returns-then-not-is_graded
unfolding split_rows each_rows answer_rows graded_rows first
returns-then-not-is_graded c =
    let g = c.is_graded.ensures ∙ ap (λ (d : Roots). is_graded (roots_of d) d.levels c.args.split.now) c.roots.ensures in
    rw (eq-eqb _ _ c.if-split-p.false, passed c.all_at_most.ensures c.if-not-all_at_most.false, failed g c.if-not-is_graded.true) refl

pub returns : goal.returns
unfolding split_rows each_rows answer_rows graded_rows first
returns c =
    let g = c.is_graded.ensures ∙ ap (λ (d : Roots). is_graded (roots_of d) d.levels c.args.split.now) c.roots.ensures in
    rw (eq-eqb _ _ c.if-split-p.false, passed c.all_at_most.ensures c.if-not-all_at_most.false, passed g c.if-not-is_graded.false) refl
