use mathlib.Core.Path.{refl, sym, ◌∙◌}
use native.Mathlib.Omega.{arith}
use Rattle.lists.proofs.Listing.{filling_done, list_is}
use Rattle.refine.proofs.copy.Goals as goal

pub returns : goal.returns
returns c =
    let w = c.loop-i.invariant in
    filling_done _ w (omega (arith, w.long)) ∙ list_is _ _ _ (sym c.requires) (λ k h. refl)
