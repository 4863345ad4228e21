use Rattle.lists.proofs.Tests.{failed, passed}
use mathlib.Core.Path.{sym, subst, ◌∙◌, ap}
use borrow.Author.Tests.{lt-leb, le-leb}
use Rattle.plan.specs.Step.{axes_of, plan_of}
use Rattle.plan.specs.Parts.{Small}
use Rattle.plan.specs.declared.Scale.{Scale}
use Rattle.plan.proofs.Axes.{scale_small}
use Rattle.plan.proofs.Plan.new.Goals as goal

pub returns-then-not-is_size : goal.returns-then-not-is_size
unfolding plan_of
returns-then-not-is_size c = simp (failed c.is_size.ensures c.if-not-is_size.true)

pub returns-then-not-is_box : goal.returns-then-not-is_box
unfolding plan_of
returns-then-not-is_box c = simp (passed c.is_size.ensures c.if-not-is_size.false, failed c.is_box.ensures c.if-not-is_box.true)

pub returns-then-levels-gt-LEVELS : goal.returns-then-levels-gt-LEVELS
unfolding plan_of
returns-then-levels-gt-LEVELS c = simp (passed c.is_size.ensures c.if-not-is_size.false, passed c.is_box.ensures c.if-not-is_box.false, lt-leb _ _ c.if-levels-gt-LEVELS.true)

pub over-requires : goal.over-requires
over-requires c =
    let a = c.args in
    record {
      small = subst (λ (s : Scale). Small s) (sym c.scaled.ensures) (scale_small a.c a.levels c.if-levels-gt-LEVELS.false);
      levels_le_most_levels = c.if-levels-gt-LEVELS.false;
    }

pub returns : goal.returns
unfolding plan_of
returns c =
    let a = c.args in
    simp (passed c.is_size.ensures c.if-not-is_size.false, passed c.is_box.ensures c.if-not-is_box.false, le-leb _ _ c.if-levels-gt-LEVELS.false)
    (c.over.ensures ∙ ap (λ (s : Scale). axes_of s a.b a.c a.levels) c.scaled.ensures)
