-- The cells' vertices under a naming, four to a cell. Assumes nothing.
use mathlib.Core.Path.{◌≡◌, refl, ap}
use mathlib.Core.List.{List, [], ◌∷◌, ◌++◌}
use Prim.Native.Nat.{ℕ, ◌*◌}
use native.Mathlib.Omega.{arith}
use lib.ListN.{length}
use Rattle.space.specs.Space.{Pos}
use Rattle.octree_cells.specs.Cells.{Cell, flat}

module _ (f : Pos → ℕ) where
  pub flat_none : flat f [] ≡ []
  unfolding flat
  flat_none = refl

  pub flat_append : (a b : List Cell) → flat f (a ++ b) ≡ flat f a ++ flat f b
  unfolding flat
  flat_append [] b = refl
  flat_append (c ∷ a) b = ap (λ (t : List ℕ). f c.c0 ∷ f c.c1 ∷ f c.c2 ∷ f c.c3 ∷ t) (flat_append a b)

  pub flat_length : (cs : List Cell) → length (flat f cs) ≡ 4 * length cs
  unfolding flat
  flat_length [] = refl
  flat_length (c ∷ cs) = omega (arith, flat_length cs)
