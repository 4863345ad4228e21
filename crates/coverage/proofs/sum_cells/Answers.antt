use mathlib.Core.Path.{ap, ◌∙◌}
use mathlib.Core.Bool.{cond}
use Prim.Native.Nat.{ℕ, ◌<◌}
use native.Mathlib.Omega.{arith}
use lib.Dec.{eqb}
use lib.ListN.{get_or}
use Rattle.mesh.specs.Mesh.{cells_of}
use Rattle.coverage.proofs.Summing.{grow_turn, grow_over, grow_done, over_part, over_all, both_fit, room, no_room}
use Rattle.coverage.proofs.sum_cells.Goals as goal

pub returns-in_err-all : goal.returns-in_err-all
returns-in_err-all c =
    rw c.from_residual.ensures
    (over_all _ _ (grow_over c.loop-i.invariant.1 (omega (arith, c.loop-i-test.true, c.requires.marks)) c.sixfold-six.ensures (no_room _ _ c.in_err-all.ensures)))

pub returns-in_err-part : goal.returns-in_err-part
returns-in_err-part c =
    rw c.from_residual-in_err-part.ensures
    (over_part _ _
    (grow_over c.loop-i.invariant.0 (omega (arith, c.loop-i-test.true, c.requires.marks))
    (c.part_of.ensures ∙ ap (λ (n : ℕ). cond (eqb (get_or c.args.marks.now c.loop-i.i 0) 1) n 0) c.sixfold-six.ensures) (no_room _ _ c.in_err-part.ensures)))

pub loop-i-preserved : goal.loop-i-preserved
loop-i-preserved c =
    let h : c.loop-i.i < cells_of c.args.cells.now = omega (arith, c.loop-i-test.true, c.requires.marks) in
    let p = c.in_ok-part.ensures in
    let a = c.in_ok-all.ensures in
    rw (p.1, a.1) (
      grow_turn c.loop-i.invariant.0 h (c.part_of.ensures ∙ ap (λ (n : ℕ). cond (eqb (get_or c.args.marks.now c.loop-i.i 0) 1) n 0) c.sixfold-six.ensures) (room _ _ p.0),
      grow_turn c.loop-i.invariant.1 h c.sixfold-six.ensures (room _ _ a.0),
    )

pub returns : goal.returns
returns c =
    let i = c.loop-i.invariant in
    both_fit (grow_done i.0 (omega (arith, c.loop-i-test.false, c.requires.marks))) (grow_done i.1 (omega (arith, c.loop-i-test.false, c.requires.marks))) i.0.fit i.1.fit
