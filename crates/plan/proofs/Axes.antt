-- What a scale and an axis are bounded by. Assumes nothing.
use mathlib.Core.Path.{◌≡◌, refl, subst}
use mathlib.Core.Bool.{Bool, true, false, cond}
use Prim.Native.Nat.{ℕ, ◌≤◌}
use native.Mathlib.Nat.{le_trans, le-max_left, mul-le-mul_left}
use native.Mathlib.Omega.{arith}
use borrow.Author.Tests.{leb-true}
use lib.Dec.{leb, eqb, lit≤}
use Rattle.std.specs.Prelude.{Some, None}
use lib.Pow.{pow_mono}
use lib.Ieee.{Float, neg}
use lib.Ieee.Scale.{finite}
use Rattle.lists.proofs.Bools.{and_left, and_right}
use Rattle.float32.specs.Ceiling.{ceil_to}
use Rattle.float32.specs.Operations.{◌+f◌, ◌/f◌}
use Rattle.space.specs.Space.{pos}
use Rattle.space.specs.Levels.{most_levels}
use Rattle.space.proofs.Space.{on_all}
use Rattle.plan.specs.Step.{most_lattice, lattice_scale, octree_scale, scale_of, origin_of, extent_of, dim_of, far_of, fits_on, all_finite, stretch_of}
use Rattle.plan.specs.Parts.{Small, Few}
use Rattle.plan.specs.declared.Scale.{Scale}
use Rattle.plan.specs.declared.Stretch.{Stretch}

pub scale_small : (c : Float) (levels : ℕ) → levels ≤ most_levels → Small (scale_of c levels)
unfolding scale_of
scale_small c levels h = go (eqb levels 0)
  where
    go : (b : Bool) → Small (cond b (lattice_scale c) (octree_scale c levels))
    go true = record { most_small = lit≤ tt; least_small = lit≤ tt; units_small = lit≤ tt }
    go false = record { most_small = lit≤ tt; least_small = lit≤ tt; units_small = mul-le-mul_left 2 (pow_mono h) }

-- an axis that is covered has a dimension in its bounds
pub stretch_fits : (s : Scale) (c lo hi : Float) (k : Stretch) → stretch_of s c lo hi ≡ Some k → (s.least ≤ k.count) × (k.count ≤ s.most)
unfolding stretch_of fits_on dim_of
stretch_fits s c lo hi k e = go (fits_on s c lo hi) refl e
  where
    in_bound : fits_on s c lo hi ≡ true → dim_of s c lo hi ≤ s.most
    in_bound f =
        leb-true (dim_of s c lo hi) s.most
        (and_left (leb (dim_of s c lo hi) s.most) (finite (far_of s c lo hi))
        (and_right (all_finite (lo +f neg c) (hi +f c) (origin_of s c lo) (extent_of s c lo hi)) _ f))

    go : (t : Bool) → fits_on s c lo hi ≡ t → cond t (Some (record { origin = origin_of s c lo; count = dim_of s c lo hi })) None ≡ Some k → (s.least ≤ k.count) × (k.count ≤ s.most)
    go true f g =
        let same : dim_of s c lo hi ≡ k.count = cc in
        subst (λ (k : ℕ). (s.least ≤ k) × (k ≤ s.most)) same (le-max_left s.least (ceil_to s.most (extent_of s c lo hi /f s.width)), in_bound f)
    go false f g =
        let no : ◌≡◌ {A = ℕ} 0 1 = cc in
        absurd (omega arith)

pub few_three : {nx ny nz levels : ℕ} → nx ≤ most_lattice → ny ≤ most_lattice → nz ≤ most_lattice → levels ≤ most_levels → Few nx ny nz levels
few_three {nx} {ny} {nz} x y z l = record { dims_few = on_all (λ a. pos nx ny nz a ≤ most_lattice) x y z; levels_few = l }

pub covered : (s : Scale) (c lo hi : Float) (k : Stretch) → Small s → stretch_of s c lo hi ≡ Some k → k.count ≤ most_lattice
covered s c lo hi k h e = le_trans (stretch_fits s c lo hi k e).1 h.most_small
