-- How many numbers pass a test. Assumes nothing.
use mathlib.Core.Path.{◌≡◌, refl, sym, ap, subst, ◌∙◌}
use mathlib.Core.Logic.{◌↔◌}
use mathlib.Core.Bool.{Bool, true, false, cond, not, ◌&&◌, true≢false}
use mathlib.Core.List.{[], ◌∷◌}
use Prim.Native.Nat.{ℕ, zero, suc, ◌+◌}
use native.Mathlib.Omega.{arith}
use lib.ListN.{length, length-append}
use Rattle.lists.specs.Tests.{bit}
use Rattle.lists.specs.Runs.{run, those}
use Rattle.lists.proofs.Passing.{those_next}

-- so many of the numbers below n have Q
pub data Many (Q : ℕ → Type 0) : ℕ → ℕ → Type 0 where
  none : Many Q 0 0
  one : {n c : ℕ} → Q n → Many Q n c → Many Q (suc n) (suc c)
  other : {n c : ℕ} → (Q n → ⊥) → Many Q n c → Many Q (suc n) c

none_pass : (test : ℕ → Bool) → length (those test 0) ≡ 0
unfolding those run
none_pass test = refl

-- one more number
pub count_more : (test : ℕ → Bool) (n : ℕ) → length (those test (suc n)) ≡ length (those test n) + bit (test n)
count_more test n =
    ap length (those_next test n) ∙ length-append (those test n) (cond (test n) (n ∷ []) []) ∙ ap (λ (k : ℕ). length (those test n) + k) (by (test n))
  where
    by : (t : Bool) → length (cond t (n ∷ []) []) ≡ bit t
    by true = refl
    by false = refl

-- as many are listed as have what the test asks for
pub many_those : (test : ℕ → Bool) (Q : ℕ → Type 0) → ((i : ℕ) → (test i ≡ true) ↔ Q i) → (n : ℕ) → Many Q n (length (those test n))
many_those test Q is zero = subst (Many Q 0) (sym (none_pass test)) none
many_those test Q is (suc n) = go (many_those test Q is n) (test n) refl
  where
    go : Many Q n (length (those test n)) → (t : Bool) → test n ≡ t → Many Q (suc n) (length (those test (suc n)))
    go ih true e =
        let more : length (those test (suc n)) ≡ suc (length (those test n)) = omega (arith, count_more test n, ap bit e) in
        subst (Many Q (suc n)) (sym more) (one ((is n).0 e) ih)
    go ih false e =
        let same : length (those test (suc n)) ≡ length (those test n) = omega (arith, count_more test n, ap bit e) in
        subst (Many Q (suc n)) (sym same) (other (λ q. true≢false (sym ((is n).1 q) ∙ e)) ih)

-- those that pass one test are those that pass another too, and those that do not
pub both_counted : (test also : ℕ → Bool) (n : ℕ)
    → length (those (λ i. test i && not (also i)) n) + length (those (λ i. test i && also i) n) ≡ length (those test n)
both_counted test also zero =
    omega (arith, none_pass (λ i. test i && not (also i)), none_pass (λ i. test i && also i), none_pass test)
both_counted test also (suc n) =
    omega (
      arith,
      both_counted test also n,
      count_more (λ i. test i && not (also i)) n,
      count_more (λ i. test i && also i) n,
      count_more test n,
      by (test n) (also n),
    )
  where
    by : (a b : Bool) → bit (a && not b) + bit (a && b) ≡ bit a
    by true true = refl
    by true false = refl
    by false b = refl
