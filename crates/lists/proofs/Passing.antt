-- The list of those that pass a test: exactly these, ascending; and what is given to each of them. Assumes nothing.
use mathlib.Core.Path.{◌≡◌, refl, sym, ap, ap₂, ◌∙◌}
use mathlib.Core.Logic.{◌⊎◌, inl, inr, ◌≢◌}
use mathlib.Core.Bool.{Bool, true, false, cond, true≢false}
use mathlib.Core.List.{List, [], ◌∷◌, ◌++◌, append-nil, append_assoc}
use Prim.Native.Nat.{ℕ, zero, suc, ◌+◌, ◌*◌, ◌≤◌, ◌<◌}
use native.Mathlib.Nat.{not-suc-le-zero, le_of_suc-le-suc, mul-zero, mul-suc}
use native.Mathlib.Numerals.{add-one}
use native.Mathlib.Omega.{arith}
use lib.ListN.{length, get_or, length-append, get_or-append}
use lib.Seq.{get_or_at, get_or-append-add}
use Rattle.lists.specs.Runs.{run, those, spread}
use Rattle.lists.proofs.Cases.{eq_or, lt_or}
use Rattle.lists.proofs.Running.{run_same, run_last}

module _ (test : ℕ → Bool) where
  pub those_next : (n : ℕ) → those test (suc n) ≡ those test n ++ cond (test n) (n ∷ []) []
  unfolding those
  those_next n = ap (λ (k : ℕ). run k (λ i. cond (test i) (i ∷ []) []) 0) (sym (add-one n)) ∙ run_last (λ i. cond (test i) (i ∷ []) []) n

  -- with one more test, the list is as it was, or has n at its end
  data Next (n : ℕ) : Type 0 where
    same : test n ≡ false → those test (suc n) ≡ those test n → Next n
    more : test n ≡ true → those test (suc n) ≡ those test n ++ (n ∷ []) → Next n

  next : (n : ℕ) → Next n
  next n = go (test n) refl
    where
      go : (t : Bool) → test n ≡ t → Next n
      go true e = more e (those_next n ∙ ap (λ (t : Bool). those test n ++ cond t (n ∷ []) []) e)
      go false e = same e (those_next n ∙ ap (λ (t : Bool). those test n ++ cond t (n ∷ []) []) e ∙ append-nil (those test n))

  pub those_pass : (n k : ℕ) → k < length (those test n) → (get_or (those test n) k 0 < n) × (test (get_or (those test n) k 0) ≡ true)
  those_pass zero k h = absurd (none k h)
    where
      none : (k : ℕ) → k < length (those test 0) → ⊥
      none k h = unfold those run in not-suc-le-zero h
  those_pass (suc n) k h = go (those_pass n k) (next n)
    where
      go : (k < length (those test n) → (get_or (those test n) k 0 < n) × (test (get_or (those test n) k 0) ≡ true)) → Next n
          → (get_or (those test (suc n)) k 0 < suc n) × (test (get_or (those test (suc n)) k 0) ≡ true)
      go ih (same e q) =
          let r = ih (omega (arith, ap length q)) in
          rw q (omega (arith, r.0), r.1)
      go ih (more e q) = by (lt_or k (length (those test n)))
        where
          by : (k < length (those test n)) ⊎ (length (those test n) ≤ k) → (get_or (those test (suc n)) k 0 < suc n) × (test (get_or (those test (suc n)) k 0) ≡ true)
          by (inl b) =
              let r = ih b in
              rw (q, get_or-append (those test n) (n ∷ []) 0 k b) (omega (arith, r.0), r.1)
          by (inr b) =
              let l : length (those test n) ≡ k = omega (arith, ap length q, length-append (those test n) (n ∷ [])) in
              rw (q, get_or_at (those test n) n [] 0 k l) (omega arith, e)

  pub those_all : (n i : ℕ) → i < n → test i ≡ true → (k : ℕ) × (k < length (those test n)) × (get_or (those test n) k 0 ≡ i)
  those_all zero i h t = absurd (not-suc-le-zero h)
  those_all (suc n) i h t = go (those_all n i) (next n) (eq_or i n)
    where
      old : those test (suc n) ≡ those test n ++ (n ∷ []) → (k : ℕ) × (k < length (those test n)) × (get_or (those test n) k 0 ≡ i)
          → (k : ℕ) × (k < length (those test (suc n))) × (get_or (those test (suc n)) k 0 ≡ i)
      old q r =
          (r.0, omega (arith, r.1, ap length q, length-append (those test n) (n ∷ [])), ap (λ (l : List ℕ). get_or l r.0 0) q ∙ get_or-append (those test n) (n ∷ []) 0 r.0 r.1 ∙ r.2)

      go : (i < n → test i ≡ true → (k : ℕ) × (k < length (those test n)) × (get_or (those test n) k 0 ≡ i)) → Next n → (i ≡ n) ⊎ (i ≢ n)
          → (k : ℕ) × (k < length (those test (suc n))) × (get_or (those test (suc n)) k 0 ≡ i)
      go ih (same e q) (inl x) = absurd (true≢false (sym t ∙ ap test x ∙ e))
      go ih (same e q) (inr x) = let r = ih (omega arith) t in (r.0, omega (arith, r.1, ap length q), ap (λ (l : List ℕ). get_or l r.0 0) q ∙ r.2)
      go ih (more e q) (inl x) =
          (length (those test n), omega (arith, ap length q, length-append (those test n) (n ∷ [])), ap (λ (l : List ℕ). get_or l (length (those test n)) 0) q ∙ get_or_at (those test n) n [] 0 (length (those test n)) refl ∙ sym x)
      go ih (more e q) (inr x) = old q (ih (omega arith) t)

  pub those_rise : (n i j : ℕ) → i < j → j < length (those test n) → get_or (those test n) i 0 < get_or (those test n) j 0
  those_rise zero i j a b = absurd (none j b)
    where
      none : (k : ℕ) → k < length (those test 0) → ⊥
      none k h = unfold those run in not-suc-le-zero h
  those_rise (suc n) i j a b = go (those_rise n i j a) (next n)
    where
      go : (j < length (those test n) → get_or (those test n) i 0 < get_or (those test n) j 0) → Next n → get_or (those test (suc n)) i 0 < get_or (those test (suc n)) j 0
      go ih (same e q) = rw q (ih (omega (arith, ap length q)))
      go ih (more e q) = by (lt_or j (length (those test n)))
        where
          by : (j < length (those test n)) ⊎ (length (those test n) ≤ j) → get_or (those test (suc n)) i 0 < get_or (those test (suc n)) j 0
          by (inl c) = rw (q, get_or-append (those test n) (n ∷ []) 0 i (omega arith), get_or-append (those test n) (n ∷ []) 0 j c) (ih c)
          by (inr c) =
              let l : length (those test n) ≡ j = omega (arith, ap length q, length-append (those test n) (n ∷ [])) in
              rw (q, get_or-append (those test n) (n ∷ []) 0 i (omega arith), get_or_at (those test n) n [] 0 j l) (those_pass n i (omega arith)).0

-- ---- a loop that counts them

pub count_next : (test : ℕ → Bool) {t : Bool} {count count' : ℕ} (i : ℕ) → count ≡ length (those test i) → t ≡ test i
    → ((t ≡ true) × (count' ≡ count + 1)) ⊎ ((t ≡ false) × (count' ≡ count)) → count' ≡ length (those test (i + 1))
count_next test {t} {count} {count'} i e q came =
    by came ∙ sym (ap (λ (k : ℕ). length (those test k)) (add-one i) ∙ ap length (those_next test i) ∙ length-append (those test i) (cond (test i) (i ∷ []) []))
  where
    by : ((t ≡ true) × (count' ≡ count + 1)) ⊎ ((t ≡ false) × (count' ≡ count)) → count' ≡ length (those test i) + length (cond (test i) (i ∷ []) [])
    by (inl c) = rw (sym q ∙ c.0) (omega (arith, c.1, e))
    by (inr c) = rw (sym q ∙ c.0) (omega (arith, c.1, e))

-- two tests that agree below n pass the same
pub those_same : (test other : ℕ → Bool) (n : ℕ) → ((i : ℕ) → i < n → test i ≡ other i) → those test n ≡ those other n
unfolding those
those_same test other n h =
    run_same n (λ i. cond (test i) (i ∷ []) []) (λ i. cond (other i) (i ∷ []) []) 0 (λ j a b. ap (λ (t : Bool). cond t (j ∷ []) []) (h j (omega arith)))

-- ---- what is given to each of them

pub spread_append : {A : Type 0} (f : ℕ → List A) (a b : List ℕ) → spread f (a ++ b) ≡ spread f a ++ spread f b
unfolding spread
spread_append f [] b = refl
spread_append f (x ∷ a) b = ap (λ (l : List _). f x ++ l) (spread_append f a b) ∙ sym (append_assoc (f x) (spread f a) (spread f b))

-- a loop that gives something to those that pass, and nothing to the others
pub spread_those : {A : Type 0} (f : ℕ → List A) (test : ℕ → Bool) (n : ℕ) → run n (λ i. cond (test i) (f i) []) 0 ≡ spread f (those test n)
unfolding spread those run
spread_those f test zero = refl
spread_those f test (suc n) =
    ap (λ (k : ℕ). run k (λ i. cond (test i) (f i) []) 0) (sym (add-one n))
    ∙ run_last (λ i. cond (test i) (f i) []) n
    ∙ ap₂ (λ (a b : List _). a ++ b) (spread_those f test n) (one (test n))
    ∙ sym (ap (spread f) (those_next test n) ∙ spread_append f (those test n) (cond (test n) (n ∷ []) []))
  where
    one : (t : Bool) → cond t (f n) [] ≡ spread f (cond t (n ∷ []) [])
    one true = sym (append-nil (f n))
    one false = refl

-- where each is given m entries: how many there are, and those of the k-th
module _ (f : ℕ → List ℕ) (m : ℕ) (long : (x : ℕ) → length (f x) ≡ m) where
  pub spread_length : (l : List ℕ) → length (spread f l) ≡ m * length l
  unfolding spread
  spread_length [] = sym (mul-zero m)
  spread_length (x ∷ l) = length-append (f x) (spread f l) ∙ omega (arith, long x, spread_length l, mul-suc m (length l))

  pub spread_at : (l : List ℕ) (k a : ℕ) → k < length l → a < m → get_or (spread f l) (m * k + a) 0 ≡ get_or (f (get_or l k 0)) a 0
  unfolding spread
  spread_at [] k a h b = absurd (not-suc-le-zero h)
  spread_at (x ∷ l) zero a h b =
      let e : m * 0 + a ≡ a = omega (arith, mul-zero m) in
      ap (λ (i : ℕ). get_or (f x ++ spread f l) i 0) e ∙ get_or-append (f x) (spread f l) 0 a (omega (arith, long x))
  spread_at (x ∷ l) (suc k) a h b =
      let e : m * suc k + a ≡ length (f x) + (m * k + a) = omega (arith, long x, mul-suc m k) in
      ap (λ (i : ℕ). get_or (f x ++ spread f l) i 0) e ∙ get_or-append-add (f x) (spread f l) (m * k + a) 0 ∙ spread_at l k a (le_of_suc-le-suc h) b
