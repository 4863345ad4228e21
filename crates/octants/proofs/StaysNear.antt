-- The balance stays near: every octant that a least refinement splits meets a crossed octant of its own level. Assumes nothing.
use mathlib.Core.Bool.{false≢true}
use mathlib.Core.Logic.{⊎_elim}
use Prim.Native.Nat.{ℕ, zero, suc, ◌+◌, ◌/◌, ◌≤◌, ◌<◌}
use native.Mathlib.Nat.{le_refl, mul-le-mul_right, le_of_mul-le-mul_right}
use native.Mathlib.Omega.{arith}
use lib.Pow.{pow_pos}
use Rattle.space.specs.Space.{Pos}
use Rattle.lists.proofs.Bools.{or_cases}
use Rattle.octants.specs.Oct.{Tree, Meet, width, parent, itself, higher, Crossed, counts, near, balanced, raw, refined}
use Rattle.octants.specs.Demand.{LeastRefinement, NearCrossed, StaysNear, RootsAway}
use Rattle.octants.proofs.Axis1.{Close}
use Rattle.octants.proofs.Near.{near_some}
use Rattle.octants.proofs.Least.{parent_inside}
use Rattle.octants.proofs.Demand.{crossed_raw, refined_least}

-- on one axis: two of a level meet where they are one apart at most
abbrev Beside : ℕ → ℕ → Type 0
Beside a b = (a ≤ b + 1) × (b ≤ a + 1)

beside : (m a b : ℕ) → Meet m a m b → Beside a b
beside m a b h = (le_of_mul-le-mul_right h.0 (omega (arith, pow_pos m)), le_of_mul-le-mul_right h.1 (omega (arith, pow_pos m)))

meet : (m a b : ℕ) → Beside a b → Meet m a m b
meet m a b h = (mul-le-mul_right (width m) h.0, mul-le-mul_right (width m) h.1)

-- what touches an octant of the level below that meets b is within one width of b's parent
up : (m a y b : ℕ) → Close a y → Meet m y m b → Meet (suc m) a (suc m) (b / 2)
up m a y b c h = meet (suc m) a (b / 2) (go (beside m y b h))
  where
    go : Beside y b → Beside a (b / 2)
    go g = omega arith

module _ (l : ℕ) (d : Pos) (c : Tree) where
  itself_near : (m : ℕ) (x : Pos) → Crossed l d c m x → NearCrossed l d c m x
  itself_near m x h = record { other = x; crossed = h; touch = λ a. meet m (x a) (x a) (omega arith) }

  parent_crossed : (m : ℕ) (x : Pos) → m < l → Crossed l d c m x → Crossed l d c (suc m) (parent x)
  parent_crossed m x f h = record { split = omega arith; fits = f; inside = parent_inside l d m x f h.inside; all = λ n y g o. h.all n y g (higher o) }

  pub refined_near : StaysNear l d c (refined l d c)
  unfolding balanced
  refined_near zero x f p h = absurd (false≢true h)
  refined_near (suc zero) x f p h = itself_near 1 x (crossed_raw l d c 1 x (le_refl 1) f p h)
  refined_near (suc (suc m)) x f p h = ⊎_elim
      (λ r. itself_near (suc (suc m)) x (crossed_raw l d c (suc (suc m)) x (omega arith) f p r))
      (λ r.
      let y = near_some (counts l d (suc m)) (refined l d c (suc m)) x r in
      let n = refined_near (suc m) y.0 (omega arith) y.1 y.2 in
      record {
        other = parent n.other;
        crossed = parent_crossed (suc m) n.other f n.crossed;
        touch = λ a. up (suc m) (x a) (y.0 a) (n.other a) (y.3 a) (n.touch a);
      })
      (or_cases (raw l c (suc (suc m)) x) (near (counts l d (suc m)) (refined l d c (suc m)) x) h)

  module _ (t : Tree) where
    -- a least refinement splits no more than the refinement does
    pub least_near : LeastRefinement l d c t → StaysNear l d c t
    least_near h m x f p s =
        let r = refined_least l d c in
        refined_near m x f p (h.least (refined l d c) r.octree r.crossed r.graded m x f p s)

    -- where every crossed root keeps two roots away from the border, no root at the border is split
    pub near_border : StaysNear l d c t → RootsAway 2 l d c → RootsAway 1 l d t
    near_border h k x p s a = go (beside l (x a) (n.other a) (n.touch a)) (k n.other n.crossed.inside (n.crossed.all l n.other (le_refl l) itself) a)
      where
        n : NearCrossed l d c l x
        n = h l x (le_refl l) p s

        go : {z : ℕ} → Beside (x a) z → (2 ≤ z) × (z + 2 < d a) → (1 ≤ x a) × (x a + 1 < d a)
        go g q = omega arith
