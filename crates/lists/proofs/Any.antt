-- Laws of "some number below n passes". Assumes nothing.
use mathlib.Core.Path.{◌≡◌, sym, ap, ◌∙◌, subst}
use mathlib.Core.Logic.{⊎_elim}
use mathlib.Core.Bool.{Bool, true, false, ◌||◌, false≢true}
use Prim.Native.Nat.{ℕ, zero, suc, ◌+◌, ◌≤◌, ◌<◌}
use native.Mathlib.Omega.{arith}
use native.Mathlib.Numerals.{add-one}
use native.Mathlib.Decide.{dec_le}
use Rattle.lists.specs.Tests.{any}
use Rattle.lists.proofs.Bools.{or_cases, or_left, or_right}

pub any_some : (n : ℕ) (f : ℕ → Bool) → any n f ≡ true → (k : ℕ) × (k < n) × (f k ≡ true)
unfolding any
any_some zero f h = absurd (false≢true h)
any_some (suc n) f h = ⊎_elim
    (λ p. let r = any_some n f p in (r.0, omega (arith, r.1), r.2))
    (λ p. (n, omega arith, p)) (or_cases (any n f) (f n) h)

pub some_any : (n : ℕ) (f : ℕ → Bool) (k : ℕ) → k < n → f k ≡ true → any n f ≡ true
unfolding any
some_any zero f k h p = absurd (omega arith)
some_any (suc n) f k h p = go (dec_le n k) (λ q. some_any n f k q p)
  where
    go : Dec (n ≤ k) → (k < n → any n f ≡ true) → any n f || f n ≡ true
    go (yes q) r =
        let e : k ≡ n = omega arith in
        or_right (any n f) (f n) (subst (λ (i : ℕ). f i ≡ true) e p)
    go (no q) r = or_left (any n f) (f n) (r (omega arith))

-- a loop that looks for a number that passes: one more that does not; one that does; none
pub any_more : (f : ℕ → Bool) (n : ℕ) → any n f ≡ false → f n ≡ false → any (n + 1) f ≡ false
unfolding any
any_more f n p q = rw (add-one, p, q)

pub any_found : (f : ℕ → Bool) (m n : ℕ) → n < m → f n ≡ true → true ≡ any m f
any_found f m n h p = sym (some_any m f n h p)

pub any_none : (f : ℕ → Bool) (m n : ℕ) → n ≤ m → m ≤ n → any n f ≡ false → false ≡ any m f
any_none f m n h k p =
    let e : n ≡ m = omega arith in
    sym p ∙ ap (λ (i : ℕ). any i f) e
