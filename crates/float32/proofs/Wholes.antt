-- Comparing with whole numbers: what `up_div` is the least of, what the code's test of a float against a whole number says, and that a float is above every
-- whole number before its whole part. Assumes nothing.
use Rattle.std.proofs.Common.{◌≡◌, ℕ, suc, ◌+◌, ◌-◌, ◌*◌, ◌/◌, ◌^◌, ◌<◌, ◌≤◌, min, Bool, true, false, not, T, ltb, leb, pos, sym, refl, ap, ◌∙◌, subst, le_trans, le_of_eq, le_refl, lt_of_le_of_lt, le_of_lt, mul-le-mul_right, suc-mul, div-lt_iff_lt-mul, mul-lt-mul_of_pos_right, mul-one, mul_right_comm, div-mul-le_self, le_of_mul-le-mul_right, arith, le-ltb, lt-ltb, le-leb, leb-false, leb-true}
use lib.Ieee.{Float, nan, inf, fin, binary32, up, down, round, lt, of_int, to_unsigned}
use lib.Ieee.Exact.{HasValue}
use lib.Ieee.Back.{round_whole}
use lib.Ieee.Fits.{down_pos}
use Rattle.float32.specs.Ceiling.{not_above, up_div}
use Rattle.float32.specs.Parts.{Tried}
use Rattle.float32.proofs.Floats.{apart, zero32}

-- ---- up_div a b is the least n with a ≤ n * b

module _ (a b n : ℕ) (B : 0 < b) where
  pub up_least : a ≤ n * b → up_div a b ≤ n
  up_least h = go (up_div a b) ((div-lt_iff_lt-mul B).1 (subst (λ (k : ℕ). a + (b - 1) < k) (sym (suc-mul n b)) (step (n * b) h)))
    where
      step : (p : ℕ) → a ≤ p → a + (b - 1) < p + b
      step p g = omega arith

      go : (u : ℕ) → u < suc n → u ≤ n
      go u g = omega arith

  pub up_covers : up_div a b ≤ n → a ≤ n * b
  up_covers h = step (n * b) (subst (λ (k : ℕ). a + (b - 1) < k) (suc-mul n b) ((div-lt_iff_lt-mul B).0 (go (up_div a b) h)))
    where
      step : (p : ℕ) → a + (b - 1) < p + b → a ≤ p
      step p g = omega arith

      go : (u : ℕ) → u ≤ n → u < suc n
      go u g = omega arith

-- ---- x > n, as the code has it

module _ (n : ℕ) where
  -- n < a / b, where n is k / d
  cross : (a b k d : ℕ) → 0 < d → k * 1 ≡ n * d → ltb (k * b) (a * d) ≡ not (leb a (n * b))
  cross a b k d D h = go (leb a (n * b)) refl
    where
      is : k * b ≡ n * b * d
      is = ap (λ (z : ℕ). z * b) (sym (mul-one k) ∙ h) ∙ mul_right_comm n d b

      go : (p : Bool) → leb a (n * b) ≡ p → ltb (k * b) (a * d) ≡ not p
      go true e = le-ltb (k * b) (a * d) (le_trans (mul-le-mul_right d (leb-true a (n * b) e)) (le_of_eq (sym is)))
      go false e = lt-ltb (k * b) (a * d) (subst (λ (z : ℕ). z < a * d) (sym is) (mul-lt-mul_of_pos_right (leb-false a (n * b) e) D))

  above_value : (x v : Float) → HasValue v false n 1 → lt v x ≡ not (not_above x n)
  unfolding lt not_above
  above_value x nan h = absurd h
  above_value x (inf s) h = absurd h
  above_value nan (fin t k d) h = refl
  above_value (inf true) (fin t k d) h = refl
  above_value (inf false) (fin t k d) h = refl
  above_value (fin s m e) (fin true k d) h = apart (sym h.0)
  above_value (fin true m e) (fin false k d) h = refl
  above_value (fin false m e) (fin false k d) h = cross (m * up e) (down e) (k * up d) (down d) (down_pos d) h.1

  above_whole : (x : Float) → n ≤ 2 ^ 24 → lt (of_int binary32 (pos n)) x ≡ not (not_above x n)
  unfolding of_int
  above_whole x l = above_value x (round binary32 false n 1) (round_whole binary32 false n l)

  -- what the test tells, failed and passed
  pub stays : (x : Float) → n ≤ 2 ^ 24 → lt (of_int binary32 (pos n)) x ≡ false → not_above x n ≡ true
  stays x l h = go (not_above x n) (sym (above_whole x l) ∙ h)
    where
      go : (b : Bool) → not b ≡ false → b ≡ true
      go true e = refl
      go false e = apart (sym e)

  pub exceeds : (x : Float) → n ≤ 2 ^ 24 → lt (of_int binary32 (pos n)) x ≡ true → not_above x n ≡ true → ⊥
  exceeds x l h e = apart (sym (ap not e) ∙ sym (above_whole x l) ∙ h)

-- an x that is not above k is not above what is more
more : (x : Float) (k n : ℕ) → k ≤ n → not_above x k ≡ true → not_above x n ≡ true
unfolding not_above
more nan k n l h = refl
more (inf s) k n l h = h
more (fin true m e) k n l h = refl
more (fin false m e) k n l h = le-leb (m * up e) (n * down e) (le_trans (leb-true (m * up e) (k * down e) h) (mul-le-mul_right (down e) l))

-- ---- where the counting starts: at the bound of an x above it, at the whole part of one above 0 and not above the bound

pub part_low : (x : Float) → lt zero32 x ≡ true → T (lt (fin true 1 (pos 0)) x)
unfolding lt
part_low nan p = apart p
part_low (inf true) p = apart p
part_low (inf false) p = tt
part_low (fin true m e) p = apart p
part_low (fin false m e) p = subst T (sym (lt-ltb 0 (1 * 1 * down e + m * up e * 1) (go (down e) (m * up e) (down_pos e)))) tt
  where
    go : (d k : ℕ) → 0 < d → 0 < 1 * 1 * d + k * 1
    go d k h = omega arith

module _ (most : ℕ) where
  pub bound_tried : (x : Float) → most ≤ 2 ^ 24 → lt (of_int binary32 (pos most)) x ≡ true → Tried most x most
  bound_tried x l h = record { within = le_refl most; before = λ k g e. exceeds most x l h (more x k most (le_of_lt g) e) }

  pub part_high : most < 2 ^ 64 → (x : Float) → lt zero32 x ≡ true → not_above x most ≡ true → T (lt x (fin false 1 (pos 64)))
  unfolding lt not_above
  part_high small nan p n = apart p
  part_high small (inf true) p n = apart p
  part_high small (inf false) p n = apart n
  part_high small (fin true m e) p n = apart p
  part_high small (fin false m e) p n =
      subst T
      (sym (lt-ltb (m * up e * 1) (1 * 2 ^ 64 * down e)
      (lt_of_le_of_lt (le_trans (le_of_eq (mul-one (m * up e))) (leb-true (m * up e) (most * down e) n)) (mul-lt-mul_of_pos_right small (down_pos e)))))
      tt

  pub part_tried : (x : Float) → lt zero32 x ≡ true → not_above x most ≡ true → Tried most x (to_unsigned 64 x)
  unfolding lt not_above to_unsigned
  part_tried nan p n = apart p
  part_tried (inf true) p n = apart p
  part_tried (inf false) p n = apart n
  part_tried (fin true m e) p n = apart p
  part_tried (fin false m e) p n = record {
    within = within (m * up e / down e) (le_of_mul-le-mul_right (le_trans (div-mul-le_self (m * up e) (down e)) (leb-true (m * up e) (most * down e) n)) (down_pos e));
    before = λ k h g. no (m * up e / down e) k h (le_of_mul-le-mul_right (le_trans (div-mul-le_self (m * up e) (down e)) (leb-true (m * up e) (k * down e) g)) (down_pos e));
  }
    where
      within : (q : ℕ) → q ≤ most → min q (2 ^ 64 - 1) ≤ most
      within q h = omega arith

      no : (q k : ℕ) → k < min q (2 ^ 64 - 1) → q ≤ k → ⊥
      no q k h g = omega arith
