-- Laws of the points used. Assumes nothing.
use mathlib.Core.Path.{◌≡◌, refl, sym, ap, subst, ◌∙◌}
use mathlib.Core.Logic.{◌⊎◌, inl, inr, ◌≢◌}
use mathlib.Core.List.{List, [], ◌∷◌, ◌++◌}
use Prim.Native.Nat.{ℕ, zero, suc, ◌+◌, ◌≤◌, ◌<◌}
use native.Mathlib.Nat.{not-suc-le-zero, le_of_suc-le-suc}
use native.Mathlib.Omega.{arith}
use lib.ListN.{length, get_or, set, take, length-map, length-append, get_or-append}
use lib.Seq.{take-suc, take-length, get_or_at}
use Rattle.lists.specs.Appearance.{place, noted, seen_of, numbers_of, Table}
use Rattle.lists.proofs.Cases.{lt_or}
use Rattle.lists.proofs.Appearing.{place_old, place_own, noted_old, noted_new, length_noted, place_kept, place_noted, number_at, table_new}
use Rattle.lists.proofs.Listing.{map_at}
use Rattle.marked.specs.Used.{first_uses, used_of, renumbered}
use Rattle.marked.specs.Parts.{NotedIn, Distinct}

pub uses_append : (A B s : List ℕ) → first_uses s (A ++ B) ≡ first_uses (first_uses s A) B
unfolding first_uses
uses_append [] B s = refl
uses_append (v ∷ A) B s = uses_append A B (noted v s)

-- what is used keeps its place
pub uses_kept : (x : ℕ) (F s : List ℕ) → place x s < length s → (place x (first_uses s F) ≡ place x s) × (length s ≤ length (first_uses s F))
unfolding first_uses
uses_kept x [] s h = (refl, omega arith)
uses_kept x (v ∷ F) s h =
    let k = place_kept x v s h in
    let r = uses_kept x F (noted v s) (omega (arith, k)) in
    (r.0 ∙ k.0, omega (arith, k.1, r.1))

-- and what a list names is used
pub uses_here : (F s : List ℕ) (q : ℕ) → q < length F → place (get_or F q 0) (first_uses s F) < length (first_uses s F)
unfolding first_uses
uses_here [] s q h = absurd (not-suc-le-zero h)
uses_here (v ∷ F) s zero h =
    let k = place_noted v s in
    let r = uses_kept v F (noted v s) (omega (arith, k)) in
    omega (arith, k, r)
uses_here (v ∷ F) s (suc q) h = uses_here F (noted v s) q (le_of_suc-le-suc h)

-- ---- no point is used twice

distinct_noted : (v : ℕ) (s : List ℕ) → Distinct s → Distinct (noted v s)
distinct_noted v s d = go (lt_or (place v s) (length s))
  where
    go : (place v s < length s) ⊎ (length s ≤ place v s) → Distinct (noted v s)
    go (inl h) = subst Distinct (sym (noted_old v s h)) d
    go (inr h) = subst Distinct (sym (noted_new v s h)) (record { own = own' })
      where
        own' : (k : ℕ) → k < length (s ++ (v ∷ [])) → place (get_or (s ++ (v ∷ [])) k 0) (s ++ (v ∷ [])) ≡ k
        own' k b = by (lt_or k (length s))
          where
            by : (k < length s) ⊎ (length s ≤ k) → place (get_or (s ++ (v ∷ [])) k 0) (s ++ (v ∷ [])) ≡ k
            by (inl q) =
                ap (λ (x : ℕ). place x (s ++ (v ∷ []))) (get_or-append s (v ∷ []) 0 k q)
                ∙ place_old (get_or s k 0) v s (omega (arith, d.own k q)) ∙ d.own k q
            by (inr q) =
                let e : length s ≡ k = omega (arith, length-append s (v ∷ [])) in
                ap (λ (x : ℕ). place x (s ++ (v ∷ []))) (get_or_at s v [] 0 k e) ∙ place_own v s h ∙ e

pub distinct_uses : (F s : List ℕ) → Distinct s → Distinct (first_uses s F)
unfolding first_uses
distinct_uses [] s d = d
distinct_uses (v ∷ F) s d = distinct_uses F (noted v s) (distinct_noted v s d)

pub distinct_none : Distinct []
distinct_none = record { own = λ k h. absurd (not-suc-le-zero h) }

-- ---- numbers by first use are numbers by first appearance

pub renumbered_length : (F : List ℕ) → length (renumbered F) ≡ length F
unfolding renumbered
renumbered_length F = length-map F (λ v. place v (used_of F))

used_to : (F : List ℕ) (n : ℕ) → n ≤ length F → seen_of (λ i. get_or F i 0) n ≡ used_of (take n F)
unfolding seen_of used_of first_uses
used_to F zero h = refl
used_to F (suc n) h =
    ap (noted (get_or F n 0)) (used_to F n (omega arith))
    ∙ sym (ap (first_uses []) (take-suc F n 0 (omega arith)) ∙ uses_append (take n F) (get_or F n 0 ∷ []) [])

pub used_seen : (F : List ℕ) → used_of F ≡ seen_of (λ i. get_or F i 0) (length F)
used_seen F = sym (used_to F (length F) (omega arith) ∙ ap used_of (take-length F))

pub renumbered_at : (F : List ℕ) (k : ℕ) → k < length F → get_or (renumbered F) k 0 ≡ get_or (numbers_of (λ i. get_or F i 0) (length F)) k 0
unfolding renumbered
renumbered_at F k h =
    map_at (λ v. place v (used_of F)) F 0 0 k h ∙ ap (place (get_or F k 0)) (used_seen F) ∙ sym (number_at (λ i. get_or F i 0) (length F) k h)

-- each place among those seen is that of one of them
pub seen_from : (g : ℕ → ℕ) (n v : ℕ) → v < length (seen_of g n) → (j : ℕ) × (j < n) × (place (g j) (seen_of g n) ≡ v)
unfolding seen_of
seen_from g zero v h = absurd (not-suc-le-zero h)
seen_from g (suc n) v h = go (seen_from g n v) h (lt_or (place (g n) (seen_of g n)) (length (seen_of g n)))
  where
    go : (v < length (seen_of g n) → (j : ℕ) × (j < n) × (place (g j) (seen_of g n) ≡ v)) → v < length (noted (g n) (seen_of g n))
        → (place (g n) (seen_of g n) < length (seen_of g n)) ⊎ (length (seen_of g n) ≤ place (g n) (seen_of g n))
        → (j : ℕ) × (j < suc n) × (place (g j) (noted (g n) (seen_of g n)) ≡ v)
    go ih b (inl q) =
        let r = ih (omega (arith, ap length (noted_old (g n) (seen_of g n) q))) in
        (r.0, omega (arith, r.1), ap (place (g r.0)) (noted_old (g n) (seen_of g n) q) ∙ r.2)
    go ih b (inr q) = by (lt_or v (length (seen_of g n)))
      where
        by : (v < length (seen_of g n)) ⊎ (length (seen_of g n) ≤ v) → (j : ℕ) × (j < suc n) × (place (g j) (noted (g n) (seen_of g n)) ≡ v)
        by (inl a) =
            let r = ih a in
            (r.0, omega (arith, r.1), ap (place (g r.0)) (noted_new (g n) (seen_of g n) q) ∙ place_old (g r.0) (g n) (seen_of g n) (omega (arith, r.2)) ∙ r.2)
        by (inr a) =
            let e : length (seen_of g n) ≡ v = omega (arith, length_noted (g n) (seen_of g n) q) in
            (n, omega arith, ap (place (g n)) (noted_new (g n) (seen_of g n) q) ∙ place_own (g n) (seen_of g n) q ∙ e)

-- ---- one point is noted

module _ (T : List ℕ) (v count : ℕ) (h : v < length T) where
  pub noted_there : get_or T v 0 ≢ 0 → NotedIn T T v count count
  noted_there d = record {
    numbered = λ s t e.
        let old : place v s < length s = there s t in
        (subst (Table T) (sym (noted_old v s old)) t, e ∙ sym (ap length (noted_old v s old)));
    few = omega arith;
  }
    where
      there : (s : List ℕ) → Table T s → place v s < length s
      there s t = go (lt_or (place v s) (length s))
        where
          go : (place v s < length s) ⊎ (length s ≤ place v s) → place v s < length s
          go (inl q) = q
          go (inr q) = absurd (d (t.free v q))

  pub noted_next : get_or T v 0 ≡ 0 → NotedIn T (set T v (count + 1)) v count (count + 1)
  noted_next z = record {
    numbered = λ s t e.
        let new : length s ≤ place v s = absent s t in
        let n : count + 1 ≡ suc (length s) = omega arith in (
          subst (Table (set T v (count + 1))) (sym (noted_new v s new)) (subst (λ (k : ℕ). Table (set T v k) (s ++ (v ∷ []))) (sym n) (table_new T s v h new t)),
          n ∙ sym (length_noted v s new),
        );
    few = omega arith;
  }
    where
      absent : (s : List ℕ) → Table T s → length s ≤ place v s
      absent s t = go (lt_or (place v s) (length s))
        where
          go : (place v s < length s) ⊎ (length s ≤ place v s) → length s ≤ place v s
          go (inl q) = absurd (omega (arith, t.given v q))
          go (inr q) = q

-- an entry that is not 0 stands in the table
pub entry_in : (T : List ℕ) (v : ℕ) → 0 < get_or T v 0 → v < length T
entry_in [] v h = absurd (not-suc-le-zero h)
entry_in (x ∷ T) zero h = omega arith
entry_in (x ∷ T) (suc v) h = omega (arith, entry_in T v h)
