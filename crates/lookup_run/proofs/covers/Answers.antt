use mathlib.Core.Path.{ap, ◌∙◌}
use native.Mathlib.Omega.{arith}
use Rattle.octree.specs.Parts.{level_at}
use Rattle.octree.specs.declared.Level.{Level}
use Rattle.lookup_run.proofs.Roots.{roots_few}
use Rattle.lookup_run.proofs.covers.Goals as goal

pub level_at-requires : goal.level_at-requires
level_at-requires c = (
  roots_few _ _ _
      (c.is_few.ensures c.if-not-is_few.false)
      (c.is_few-2.ensures c.if-not-is_few-2.false)
      (c.is_few-3.ensures c.if-not-is_few-3.false),
  omega (arith, c.if-d-gt5.false),
)

pub returns : goal.returns
unfolding level_at
returns c = λ h.
    record {
      roots =
          roots_few _ _ _
          (c.is_few.ensures c.if-not-is_few.false)
          (c.is_few-2.ensures c.if-not-is_few-2.false)
          (c.is_few-3.ensures c.if-not-is_few-3.false);
      levels = omega (arith, c.if-d-gt5.false);
      octants = c.if-s-level_at.false ∙ ap (λ (v : Level). v.start) c.level_at.ensures;
    }
