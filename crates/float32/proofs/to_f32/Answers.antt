use Rattle.std.proofs.Common.{◌≡◌, Bool, true, not, T, sym, refl, ◌∙◌, subst, le-ltb, lt-ltb}
use lib.Ieee.{Float, nan, inf, fin, binary32, div, of_bits, is_nan}
use lib.Ieee.Bits.{nan_bits_is, nan_bits_above}
use Rattle.float32.proofs.to_f32.Goals as goal

only_nan : (x : Float) → is_nan x ≡ true → nan ≡ x
unfolding is_nan
only_nan nan h = refl
only_nan (inf s) h = absurd (subst T (sym h) tt)
only_nan (fin s m e) h = absurd (subst T (sym h) tt)

zero_over_zero : div binary32 (of_bits binary32 0) (of_bits binary32 0) ≡ nan
unfolding div of_bits
zero_over_zero = refl

pub float_from_bits-result : goal.float_from_bits-result
float_from_bits-result c = subst (λ (b : Bool). T (not b)) (sym (nan_bits_above binary32 _ ∙ le-ltb _ _ c.if-bits-gt2139095040.false)) tt

pub returns-then-bits-gt2139095040 : goal.returns-then-bits-gt2139095040
returns-then-bits-gt2139095040 c = zero_over_zero ∙ only_nan _ (sym (nan_bits_is binary32 _) ∙ nan_bits_above binary32 _ ∙ lt-ltb _ _ c.if-bits-gt2139095040.true)
