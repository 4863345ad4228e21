-- Laws of decimal digits. Assumes nothing.
use mathlib.Core.Path.{◌≡◌, refl, sym, ap, ◌∙◌}
use mathlib.Core.Logic.{◌⊎◌, inl, inr}
use mathlib.Core.List.{List, [], ◌∷◌, ◌++◌}
use Prim.Native.Nat.{ℕ, zero, suc, ◌+◌, ◌*◌, ◌/◌, ◌%◌, ◌^◌, ◌≤◌, ◌<◌}
use native.Mathlib.Nat.{pow-succ', one-le-pow, pow-le-pow_right}
use native.Mathlib.Omega.{arith}
use borrow.Author.Tests.{lt-ltb, le-ltb}
use lib.ListN.{length, set, length-append}
use Rattle.lists.proofs.Cases.{lt_or}
use Rattle.lists.specs.Runs.{Stored}
use Rattle.lists.proofs.Parts.{sets_append}
use Rattle.decimal.specs.Digits.{digits_by, digits}

-- ---- enough digits are enough

pub by_low : (k n : ℕ) → n < 10 → digits_by k n ≡ (48 + n) ∷ []
unfolding digits_by
by_low zero n h = refl
by_low (suc k) n h = rw (lt-ltb n 10 h)

pub by_high : (k n : ℕ) → 10 ≤ n → digits_by (suc k) n ≡ digits_by k (n / 10) ++ ((48 + n % 10) ∷ [])
unfolding digits_by
by_high k n h = rw (le-ltb n 10 h)

pub pow_ten : (k : ℕ) → 10 ^ suc k ≡ 10 * 10 ^ k
pow_ten k = pow-succ' 10 k

by_enough : (j k n : ℕ) → n < 10 ^ suc j → n < 10 ^ suc k → digits_by j n ≡ digits_by k n
by_enough zero k n h g = by_low zero n h ∙ sym (by_low k n h)
by_enough (suc j) zero n h g = by_low (suc j) n g ∙ sym (by_low zero n g)
by_enough (suc j) (suc k) n h g = by_size (by_enough j k (n / 10) (omega (arith, pow_ten (suc j))) (omega (arith, pow_ten (suc k)))) (lt_or n 10)
  where
    by_size : digits_by j (n / 10) ≡ digits_by k (n / 10) → (n < 10) ⊎ (10 ≤ n) → digits_by (suc j) n ≡ digits_by (suc k) n
    by_size e (inl l) = by_low (suc j) n l ∙ sym (by_low (suc k) n l)
    by_size e (inr l) = by_high j n l ∙ ap (λ (s : List ℕ). s ++ ((48 + n % 10) ∷ [])) e ∙ sym (by_high k n l)

-- ---- the digits of a number

pub digits_low : (n : ℕ) → n < 10 → digits n ≡ (48 + n) ∷ []
unfolding digits
digits_low n h = by_low 19 n h

pub digits_high : (n : ℕ) → 10 ≤ n → n < 100000000000000000000 → digits n ≡ digits (n / 10) ++ ((48 + n % 10) ∷ [])
unfolding digits
digits_high n h g = by_high 18 n h ∙ ap (λ (s : List ℕ). s ++ ((48 + n % 10) ∷ [])) (by_enough 18 19 (n / 10) (omega arith) (omega arith))

-- one digit more
pub digits_more : (x d : ℕ) → 0 < x → d < 10 → 10 * x + d < 100000000000000000000 → digits (10 * x + d) ≡ digits x ++ ((48 + d) ∷ [])
digits_more x d h g l =
    let e : (10 * x + d) / 10 ≡ x = omega arith in
    let f : (10 * x + d) % 10 ≡ d = omega arith in
    digits_high (10 * x + d) (omega arith) l ∙ rw (e, f)

-- ---- how many there are

by_few : (k n : ℕ) → length (digits_by k n) ≤ suc k
unfolding digits_by
by_few zero n = omega arith
by_few (suc k) n = by_size (by_few k (n / 10)) (lt_or n 10)
  where
    by_size : length (digits_by k (n / 10)) ≤ suc k → (n < 10) ⊎ (10 ≤ n) → length (digits_by (suc k) n) ≤ suc (suc k)
    by_size f (inl l) = rw (by_low (suc k) n l) (omega arith)
    by_size f (inr l) = rw (by_high k n l, length-append) (omega arith)

-- a number below 10 to the k has at most k digits
pub digits_few : (k n : ℕ) → k ≤ 19 → n < 10 ^ suc k → length (digits n) ≤ suc k
unfolding digits
digits_few k n h l =
    rw (by_enough 19 k n (omega (arith, pow-le-pow_right {n = 10} (omega arith) {i = suc k} {j = 20} (omega arith))) l) (by_few k n)

by_one : (k n : ℕ) → 0 < length (digits_by k n)
unfolding digits_by
by_one zero n = omega arith
by_one (suc k) n = by_size (lt_or n 10)
  where
    by_size : (n < 10) ⊎ (10 ≤ n) → 0 < length (digits_by (suc k) n)
    by_size (inl l) = rw (by_low (suc k) n l) (omega arith)
    by_size (inr l) = rw (by_high k n l, length-append) (omega arith)

by_many : (j k n : ℕ) → length (digits_by j n) ≤ suc k → n < 10 ^ suc j → n < 10 ^ suc k
unfolding digits_by
by_many zero k n h l = omega (arith, pow_ten k, one-le-pow k 10 (omega arith))
by_many (suc j) zero n h l = by_size (lt_or n 10)
  where
    by_size : (n < 10) ⊎ (10 ≤ n) → n < 10
    by_size (inl g) = g
    by_size (inr g) = absurd (omega (arith, simp (by_high j n g, length-append) at h, by_one j (n / 10)))
by_many (suc j) (suc k) n h l = by_size (by_many j k (n / 10)) (lt_or n 10)
  where
    by_size : (length (digits_by j (n / 10)) ≤ suc k → n / 10 < 10 ^ suc j → n / 10 < 10 ^ suc k) → (n < 10) ⊎ (10 ≤ n) → n < 10 ^ suc (suc k)
    by_size f (inl g) = omega (arith, pow_ten (suc k), one-le-pow (suc k) 10 (omega arith))
    by_size f (inr g) =
        let e : n / 10 < 10 ^ suc k = f (omega (arith, simp (by_high j n g, length-append) at h)) (omega (arith, pow_ten (suc j))) in
        omega (arith, pow_ten (suc k))

-- and one with at most k digits is below 10 to the k
pub few_digits : (k n : ℕ) → n < 100000000000000000000 → length (digits n) ≤ suc k → n < 10 ^ suc k
unfolding digits
few_digits k n l h = by_many 19 k n h l

pub digits_one : (n : ℕ) → 0 < length (digits n)
unfolding digits
digits_one n = by_one 19 n

pub digits_room : (n : ℕ) → length (digits n) ≤ 20
unfolding digits
digits_room n = by_few 19 n

-- ---- digits stored

module _ (o : List ℕ) (at n : ℕ) where
  pub low_stored : n < 10 → Stored o at (digits n) (at + 1) (set o at (48 + n))
  low_stored h = rw (digits_low n h) record { count = refl; kept = refl }

  pub high_stored : {next : ℕ} {o1 : List ℕ} → 10 ≤ n → n < 100000000000000000000 → Stored o at (digits (n / 10)) next o1
      → Stored o at (digits n) (next + 1) (set o1 next (48 + n % 10))
  high_stored {next} {o1} h l s =
      rw (digits_high n h l) record {
        count = rw length-append (omega (arith, s.count));
        kept =
            ap (λ (k : ℕ). set o1 k (48 + n % 10)) s.count
            ∙ ap (λ (t : List ℕ). set t (at + length (digits (n / 10))) (48 + n % 10)) s.kept
            ∙ sym (sets_append (digits (n / 10)) ((48 + n % 10) ∷ []) o at);
      }

  pub high_room : 10 ≤ n → n < 100000000000000000000 → at + length (digits n) ≤ length o → at + length (digits (n / 10)) < length o
  high_room h l s = omega (arith, simp (digits_high n h l, length-append) at s)
