use mathlib.Core.Bool.{Bool, true, not, true≢false}
use Rattle.std.proofs.Common.{◌≡◌, T, sym, refl, ap, ◌∙◌, subst}
use lib.Ieee.{Float, nan, inf, fin, is_nan, binary32, to_bits}
use Rattle.float32.proofs.from_f32.Goals as goal

nan_pattern : 0x7FC0_0000 ≡ to_bits binary32 nan
unfolding to_bits
nan_pattern = refl

the_nan : (x : Float) → is_nan x ≡ true → x ≡ nan
unfolding is_nan
the_nan nan h = refl
the_nan (inf s) h = absurd (true≢false (sym h))
the_nan (fin s m e) h = absurd (true≢false (sym h))

pub float_to_bits-result : goal.float_to_bits-result
float_to_bits-result c = subst (λ (b : Bool). T (not b)) (sym (sym c.is_nan.ensures.value ∙ c.if-is_nan.false)) tt

pub returns-then-is_nan : goal.returns-then-is_nan
returns-then-is_nan c = nan_pattern ∙ ap (to_bits binary32) (sym (the_nan _ (sym c.is_nan.ensures.value ∙ c.if-is_nan.true)))
