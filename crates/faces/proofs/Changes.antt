-- How many cells the owners of a run are of. Assumes nothing.
use mathlib.Core.Path.{◌≡◌, refl, sym, ap, ap₂, subst, ◌∙◌}
use mathlib.Core.Logic.{◌⊎◌, inl, inr, ◌≢◌}
use mathlib.Core.Bool.{Bool, true, false, not, ◌||◌}
use mathlib.Core.List.{List}
use Prim.Native.Nat.{ℕ, zero, suc, ◌+◌, ◌-◌, ◌/◌, ◌≤◌, ◌<◌}
use native.Mathlib.Numerals.{add-one}
use native.Mathlib.Omega.{arith}
use borrow.Author.Tests.{eqb-true, eq-eqb, ne_eqb}
use lib.Dec.{eqb}
use lib.ListN.{get_or}
use Rattle.lists.specs.Tests.{bit}
use Rattle.lists.proofs.Cases.{eq_or}
use Rattle.lists.proofs.Bools.{or_cases, or_left, or_right}
use Rattle.lists.proofs.Listing.{length_list, list_at}
use Rattle.sorting.specs.Entries.{many}
use Rattle.passes.specs.Passes.{up_to}
use Rattle.passes.proofs.Counting.{many_ext, many_sum, many_none}
use Rattle.passes.proofs.Filing.{bit_eq, bit_ne}
use Rattle.faces.specs.Parts.{owner_at, changes}
use Rattle.faces.proofs.Buckets.{many_up}

changes_step : (W : List ℕ) (at i d : ℕ)
    → changes W at i (suc d) ≡ changes W at i d + bit (not (eqb (owner_at W at (i + suc d) / 4) (owner_at W at (i + d) / 4)))
unfolding changes
changes_step W at i d = refl

-- ---- the loop

pub record Changing (W : List ℕ) (at i j many k : ℕ) : Type 0 where
  pub on : i < k
  pub within : k ≤ j
  pub few : many ≤ k
  pub is : many ≡ changes W at i (k - 1 - i)

module _ (W : List ℕ) (at i j : ℕ) (h : i < j) where
  pub change_start : Changing W at i j 1 (i + 1)
  unfolding changes
  change_start =
      let e : i + 1 - 1 - i ≡ 0 = omega arith in
      record { on = omega arith; within = omega arith; few = omega arith; is = rw (e) refl }

  pub change_next : (many k f : ℕ) → Changing W at i j many k → k < j → f ≡ bit (not (eqb (owner_at W at k / 4) (owner_at W at (k - 1) / 4)))
      → Changing W at i j (many + f) (k + 1)
  change_next many k f p b e = record {
    on = omega (arith, p.on);
    within = omega arith;
    few = omega (arith, p.few, e, bit_most (not (eqb (owner_at W at k / 4) (owner_at W at (k - 1) / 4))));
    is = is';
  }
    where
      bit_most : (t : Bool) → bit t ≤ 1
      bit_most true = omega arith
      bit_most false = omega arith

      is' : many + f ≡ changes W at i (k + 1 - 1 - i)
      is' =
          let d : k + 1 - 1 - i ≡ suc (k - 1 - i) = omega (arith, p.on) in
          let there : i + suc (k - 1 - i) ≡ k = omega (arith, p.on) in
          let before : i + (k - 1 - i) ≡ k - 1 = omega (arith, p.on) in
          omega (
            arith,
            p.is,
            e,
            ap (changes W at i) d,
            changes_step W at i (k - 1 - i),
            ap₂ (λ (x y : ℕ). bit (not (eqb (owner_at W at x / 4) (owner_at W at y / 4)))) there before,
          )

-- ---- what is counted

-- one of the owners at i and the d places behind it is of cell q
pub hits : List ℕ → ℕ → ℕ → ℕ → ℕ → Bool
hits W at i zero q = eqb (owner_at W at i / 4) q
hits W at i (suc d) q = hits W at i d q || eqb (owner_at W at (i + suc d) / 4) q

module _ (W : List ℕ) (at i : ℕ) where
  pub hit_place : (d q : ℕ) → hits W at i d q ≡ true → (k : ℕ) × (i ≤ k) × (k ≤ i + d) × (owner_at W at k / 4 ≡ q)
  unfolding hits
  hit_place zero q h = (i, omega arith, omega arith, eqb-true (owner_at W at i / 4) q h)
  hit_place (suc d) q h = go (hit_place d q) (or_cases (hits W at i d q) (eqb (owner_at W at (i + suc d) / 4) q) h)
    where
      go : (hits W at i d q ≡ true → (k : ℕ) × (i ≤ k) × (k ≤ i + d) × (owner_at W at k / 4 ≡ q))
          → (hits W at i d q ≡ true) ⊎ (eqb (owner_at W at (i + suc d) / 4) q ≡ true)
          → (k : ℕ) × (i ≤ k) × (k ≤ i + suc d) × (owner_at W at k / 4 ≡ q)
      go ih (inl e) = let r = ih e in (r.0, r.1, omega (arith, r.2), r.3)
      go ih (inr e) = (i + suc d, omega arith, omega arith, eqb-true (owner_at W at (i + suc d) / 4) q e)

  pub place_hit : (d k : ℕ) → i ≤ k → k ≤ i + d → hits W at i d (owner_at W at k / 4) ≡ true
  unfolding hits
  place_hit zero k a b =
      let e : i ≡ k = omega arith in
      eq-eqb (owner_at W at i / 4) (owner_at W at k / 4) (ap (λ (n : ℕ). owner_at W at n / 4) e)
  place_hit (suc d) k a b = go (place_hit d k a) (eq_or (i + suc d) k)
    where
      go : (k ≤ i + d → hits W at i d (owner_at W at k / 4) ≡ true) → (i + suc d ≡ k) ⊎ (i + suc d ≢ k)
          → hits W at i d (owner_at W at k / 4) || eqb (owner_at W at (i + suc d) / 4) (owner_at W at k / 4) ≡ true
      go ih (inl e) =
          or_right (hits W at i d (owner_at W at k / 4)) (eqb (owner_at W at (i + suc d) / 4) (owner_at W at k / 4))
          (eq-eqb (owner_at W at (i + suc d) / 4) (owner_at W at k / 4) (ap (λ (n : ℕ). owner_at W at n / 4) e))
      go ih (inr n) = or_left (hits W at i d (owner_at W at k / 4)) (eqb (owner_at W at (i + suc d) / 4) (owner_at W at k / 4)) (ih (omega arith))

-- one number below m is one number
many_one : (x m : ℕ) → x < m → many (eqb x) (up_to m) ≡ 1
many_one x zero h = omega arith
many_one x (suc m) h = ap (λ (n : ℕ). many (eqb x) (up_to n)) (sym (add-one m)) ∙ go (many_one x m) (eq_or x m)
  where
    go : (x < m → many (eqb x) (up_to m) ≡ 1) → (x ≡ m) ⊎ (x ≢ m) → many (eqb x) (up_to (m + 1)) ≡ 1
    go ih (inl e) =
        omega (
          arith,
          many_up (eqb x) m,
          bit_eq x m e,
          many_none (eqb x) 0 (up_to m) (λ k b.
              let q : k < m = omega (arith, length_list (λ j. j) m) in
              ne_eqb x (get_or (up_to m) k 0) (omega (arith, list_at (λ j. j) m k q))),
        )
    go ih (inr n) = omega (arith, many_up (eqb x) m, bit_ne x m n, ih (omega arith))

or_sum : (s t : Bool) → (s ≡ true → t ≡ true → ⊥) → bit (s || t) ≡ bit s + bit t
or_sum true true h = absurd (h refl refl)
or_sum true false h = refl
or_sum false t h = omega arith

or_same : (s t : Bool) → (t ≡ true → s ≡ true) → s || t ≡ s
or_same true t h = refl
or_same false true h = sym (h refl)
or_same false false h = refl

module _ (W : List ℕ) (at i m : ℕ) where
  -- owners that rise are of as many cells as the cell changes
  pub changes_count : (d : ℕ) → ((k : ℕ) → i ≤ k → k ≤ i + d → owner_at W at k / 4 < m)
      → ((j k : ℕ) → i ≤ j → j < k → k ≤ i + d → owner_at W at j < owner_at W at k)
      → many (hits W at i d) (up_to m) ≡ changes W at i d
  unfolding hits changes
  changes_count zero inside up = many_one (owner_at W at i / 4) m (inside i (omega arith) (omega arith))
  changes_count (suc d) inside up =
      go (changes_count d (λ k a b. inside k a (omega arith)) (λ j k a b c. up j k a b (omega arith)))
      (eq_or (owner_at W at (i + suc d) / 4) (owner_at W at (i + d) / 4))
    where
      go : many (hits W at i d) (up_to m) ≡ changes W at i d
          → (owner_at W at (i + suc d) / 4 ≡ owner_at W at (i + d) / 4) ⊎ (owner_at W at (i + suc d) / 4 ≢ owner_at W at (i + d) / 4)
          → many (λ q. hits W at i d q || eqb (owner_at W at (i + suc d) / 4) q) (up_to m)
          ≡ changes W at i d + bit (not (eqb (owner_at W at (i + suc d) / 4) (owner_at W at (i + d) / 4)))
      go ih (inl e) =
          many_ext (λ q. hits W at i d q || eqb (owner_at W at (i + suc d) / 4) q) (hits W at i d) 0 (up_to m)
          (λ k b. or_same (hits W at i d (get_or (up_to m) k 0)) (eqb (owner_at W at (i + suc d) / 4) (get_or (up_to m) k 0)) (λ h.
          subst (λ (q : ℕ). hits W at i d q ≡ true) (sym e ∙ eqb-true (owner_at W at (i + suc d) / 4) (get_or (up_to m) k 0) h)
          (place_hit W at i d (i + d) (omega arith) (omega arith))))
          ∙ ih
          ∙ omega (arith, ap (λ (t : Bool). bit (not t)) (eq-eqb (owner_at W at (i + suc d) / 4) (owner_at W at (i + d) / 4) e))
      go ih (inr n) =
          many_sum (hits W at i d) (eqb (owner_at W at (i + suc d) / 4)) (λ q. hits W at i d q || eqb (owner_at W at (i + suc d) / 4) q) (up_to m)
          (λ q. or_sum (hits W at i d q) (eqb (owner_at W at (i + suc d) / 4) q) (λ h g. never q (hit_place W at i d q h) (eqb-true (owner_at W at (i + suc d) / 4) q g)))
          ∙ omega (
            arith,
            ih,
            many_one (owner_at W at (i + suc d) / 4) m (inside (i + suc d) (omega arith) (omega arith)),
            ap (λ (t : Bool). bit (not t)) (ne_eqb (owner_at W at (i + suc d) / 4) (owner_at W at (i + d) / 4) n),
          )
        where
          never : (q : ℕ) → (k : ℕ) × (i ≤ k) × (k ≤ i + d) × (owner_at W at k / 4 ≡ q) → owner_at W at (i + suc d) / 4 ≡ q → ⊥
          never q r e = last (eq_or r.0 (i + d))
            where
              last : (r.0 ≡ i + d) ⊎ (r.0 ≢ i + d) → ⊥
              last (inl z) = n (e ∙ sym r.3 ∙ ap (λ (x : ℕ). owner_at W at x / 4) z)
              last (inr z) =
                  omega (
                    arith,
                    e,
                    r.3,
                    up r.0 (i + d) r.1 (omega (arith, r.2)) (omega arith),
                    up (i + d) (i + suc d) (omega arith) (omega arith) (omega arith),
                  )

-- tables with the same owners
pub changes_same : (W W' : List ℕ) (at i d : ℕ) → ((k : ℕ) → i ≤ k → k ≤ i + d → owner_at W at k ≡ owner_at W' at k) → changes W at i d ≡ changes W' at i d
unfolding changes
changes_same W W' at i zero h = refl
changes_same W W' at i (suc d) h =
    omega (
      arith,
      changes_same W W' at i d (λ k a b. h k a (omega arith)),
      ap₂ (λ (x y : ℕ). bit (not (eqb (x / 4) (y / 4)))) (h (i + suc d) (omega arith) (omega arith)) (h (i + d) (omega arith) (omega arith)),
    )
