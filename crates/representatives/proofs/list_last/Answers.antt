use mathlib.Core.Path.{refl, ◌∙◌}
use native.Mathlib.Omega.{arith}
use Rattle.representatives.proofs.Listing.{listing_start, listing_step, storable, listing_done}
use Rattle.representatives.proofs.list_last.Goals as goal

pub loop-i-init : goal.loop-i-init
loop-i-init c = (refl, refl, listing_start _ _ _ _ _ _ _)

pub list_at-k-requires : goal.list_at-k-requires
list_at-k-requires c = storable _ _ _ _ _ _ _ _ _ _ _ c.loop-i.invariant.2 c.requires c.loop-i-test.true c.is_last-last.ensures

pub loop-i-preserved : goal.loop-i-preserved
loop-i-preserved c = (
  c.list_at-k.auto.numbers ∙ c.loop-i.invariant.0,
  c.list_at-k.auto.centroids ∙ c.loop-i.invariant.1,
  listing_step _ _ _ _ _ _ _ _ _ _ _ c.loop-i.invariant.2 c.is_last-last.ensures c.list_at-k.ensures,
)

pub returns : goal.returns
returns c = listing_done _ _ _ _ _ _ _ _ _ _ _ c.loop-i.invariant.2 c.requires (omega (arith, c.loop-i.auto.i-end, c.loop-i-test.false))
