use mathlib.Core.Path.{◌≡◌, ◌∙◌, ap, subst}
use mathlib.Core.Bool.{Bool, true, false}
use Prim.Native.Nat.{ℕ, ◌*◌, ◌^◌, ◌≤◌, max}
use native.Mathlib.Nat.{le_trans, mul-le-mul}
use lib.Dec.{le→leb, lit≤}
use lib.Ieee.{Float, in_float}
use lib.Ieee.Scale.{finite}
use Rattle.float32.specs.Operations.{◌+f◌, ◌*f◌, ◌/f◌, whole32}
use Rattle.float32.specs.Ceiling.{ceil_to}
use Rattle.plan.specs.declared.Scale.{Scale}
use Rattle.plan.specs.Parts.{Small}
use Rattle.plan.specs.Step.{origin_of, extent_of, dim_of, fits_on, stretch_of}
use Rattle.lists.proofs.Tests.{failed, passed, above, within}
use Rattle.plan.proofs.along.Goals as goal

-- the dimension that the code worked out
dims_is : (s : Scale) (c lo hi : Float) (k r : ℕ) → k ≡ ceil_to s.most (extent_of s c lo hi /f s.width) → r ≡ max s.least k → r ≡ dim_of s c lo hi
unfolding dim_of
dims_is s c lo hi k r e f = f ∙ ap (λ (k : ℕ). max s.least k) e

-- the far corner's test, at a dimension k
abbrev far : Scale → Float → Float → ℕ → Bool
far s c lo k = finite (origin_of s c lo +f whole32 (k * s.units) *f s.half)

units_few : (s : Scale) (n : ℕ) → Small s → n ≤ s.most → n * s.units ≤ 8192
units_few s n h p = mul-le-mul (le_trans p h.most_small) h.units_small

pub returns-then-not-are_finite : goal.returns-then-not-are_finite
unfolding stretch_of fits_on
returns-then-not-are_finite c = simp (failed c.are_finite.ensures c.if-not-are_finite.true)

pub returns-then-n-most : goal.returns-then-n-most
unfolding stretch_of fits_on
returns-then-n-most c =
    let a = c.args in
    let d = dims_is a.s a.c a.lo a.hi _ _ c.ceiling.ensures c.max-n.ensures in
    simp (passed c.are_finite.ensures c.if-not-are_finite.false, above d c.if-n-most.true)

pub int_to_float-v : goal.int_to_float-v
unfolding in_float
int_to_float-v c = le→leb (c.max-n.result * c.args.s.units) (2 ^ 24) (le_trans (units_few c.args.s _ c.requires c.if-n-most.false) (lit≤ tt))

pub returns-then-not-is_finite : goal.returns-then-not-is_finite
unfolding stretch_of fits_on
returns-then-not-is_finite c =
    let a = c.args in
    let d = dims_is a.s a.c a.lo a.hi _ _ c.ceiling.ensures c.max-n.ensures in
    simp (
      passed c.are_finite.ensures c.if-not-are_finite.false,
      within d c.if-n-most.false,
      subst (λ (k : ℕ). far a.s a.c a.lo k ≡ false) d (failed c.is_finite.ensures c.if-not-is_finite.true),
    )

pub returns : goal.returns
unfolding stretch_of fits_on
returns c =
    let a = c.args in
    let d = dims_is a.s a.c a.lo a.hi _ _ c.ceiling.ensures c.max-n.ensures in
    simp (
      passed c.are_finite.ensures c.if-not-are_finite.false,
      within d c.if-n-most.false,
      subst (λ (k : ℕ). far a.s a.c a.lo k ≡ true) d (passed c.is_finite.ensures c.if-not-is_finite.false),
      d,
    )
