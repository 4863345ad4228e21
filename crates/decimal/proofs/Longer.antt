-- A part of a file where more bytes follow: what is found stays, and what departs departs. Assumes nothing.
use mathlib.Core.Path.{◌≡◌, refl}
use mathlib.Core.Logic.{◌≢◌, ◌⊎◌, inl, inr}
use mathlib.Core.Bool.{Bool, true, false}
use mathlib.Core.List.{List, [], ◌∷◌, ◌++◌}
use Prim.Native.Nat.{ℕ, zero, suc, ◌+◌, ◌-◌, ◌*◌, ◌/◌, ◌≤◌, ◌<◌}
use native.Mathlib.Omega.{arith}
use borrow.Author.Tests.{lt-ltb, le-ltb, eq-eqb, ne_eqb}
use lib.ListN.{length, get_or, length-append, get_or-append}
use Rattle.lists.proofs.Cases.{lt_or, eq_or}
use Rattle.decimal.specs.Text.{text_at, on_place}
use Rattle.decimal.specs.Digits.{digits, is_digit, none_at, number_at, more_at, count_at, on_count}
use Rattle.decimal.specs.declared.Counted.{Counted}
use Rattle.refusals.specs.declared.Refusal.{Refusal}
use Rattle.refusals.specs.declared.Refusal.TheVariants.{Cut, Text}
use Rattle.std.specs.Prelude.{Result, Ok, Err}
use Rattle.decimal.proofs.Counts.{more_ends}

-- c starts with b
pub record Leads (b c : List ℕ) : Type 0 where
  pub less : length b ≤ length c
  pub bytes : (i : ℕ) → i < length b → get_or c i 0 ≡ get_or b i 0

pub leads : (b r : List ℕ) → Leads b (b ++ r)
leads b r = record { less = omega (arith, length-append b r); bytes = λ i h. get_or-append b r 0 i h }

pub itself : (b : List ℕ) → Leads b b
itself b = record { less = omega arith; bytes = λ i h. refl }

-- ---- what the same part of a longer file is

-- a part is cut off, or departs from its text and then in the longer file too
unfoldable pub Halts : {A : Type 0} → (Refusal → A) → Refusal → A → Type 0
Halts stop k a = (k ≡ Cut) ⊎ ((k ≡ Text) × (a ≡ stop Text))

unfoldable pub Stays : Result ℕ Refusal → Result ℕ Refusal → Type 0
Stays (Ok q) p = p ≡ Ok q
Stays (Err k) p = Halts Err k p

-- a count that ends with the file may go on in the longer one
unfoldable pub StaysCount : ℕ → Result Counted Refusal → Result Counted Refusal → Type 0
StaysCount size (Ok r) c = r.next < size → c ≡ Ok r
StaysCount size (Err k) c = Halts Err k c

-- ---- parts one behind another

module _ {A : Type 0} (stop : Refusal → A) (Kept : A → A → Type 0) (cut : (a : A) → Kept (stop Cut) a) (off : Kept (stop Text) (stop Text)) where
  pub place_on : (p p' : Result ℕ Refusal) (f f' : ℕ → A) → Stays p p' → ((q : ℕ) → p ≡ Ok q → Kept (f q) (f' q)) → Kept (on_place p stop f) (on_place p' stop f')
  unfolding Stays Halts on_place
  place_on (Ok q) p' f f' s h = rw s (h q refl)
  place_on (Err k) p' f f' (inl e) h = rw e (cut _)
  place_on (Err k) p' f f' (inr (e, d)) h = rw (e, d) off

  pub count_on : (size : ℕ) (c c' : Result Counted Refusal) (f f' : ℕ → ℕ → A) → StaysCount size c c' → ((v q : ℕ) → q < size → Kept (f v q) (f' v q))
      → ((v q : ℕ) → size ≤ q → f v q ≡ stop Cut) → Kept (on_count c stop f) (on_count c' stop f')
  unfolding StaysCount Halts on_count
  count_on size (Ok r) c' f f' s h e = by_end (lt_or r.next size)
    where
      by_end : (r.next < size) ⊎ (size ≤ r.next) → Kept (f r.value r.next) (on_count c' stop f')
      by_end (inl l) = rw (s l) (h r.value r.next l)
      by_end (inr l) = rw (e r.value r.next l) (cut _)
  count_on size (Err k) c' f f' (inl d) h e = rw d (cut _)
  count_on size (Err k) c' f f' (inr (d, g)) h e = rw (d, g) off

-- ---- texts, numbers and counts

module _ (b c : List ℕ) (g : Leads b c) where
  within : {i : ℕ} → i < length b → i < length c
  within h = omega (arith, g.less)

  pub text_stays : (t : List ℕ) (at : ℕ) → Stays (text_at t b at) (text_at t c at)
  unfolding text_at Stays Halts
  text_stays [] at = refl
  text_stays (x ∷ t) at = by_tests (text_stays t (suc at)) (lt_or at (length b)) (eq_or (get_or b at 0) x)
    where
      by_tests : Stays (text_at t b (suc at)) (text_at t c (suc at)) → (at < length b) ⊎ (length b ≤ at) → (get_or b at 0 ≡ x) ⊎ (get_or b at 0 ≢ x)
          → Stays (text_at (x ∷ t) b at) (text_at (x ∷ t) c at)
      by_tests s (inl l) (inl e) = rw (lt-ltb at (length b) l, lt-ltb at (length c) (within l), g.bytes at l, eq-eqb _ _ e) s
      by_tests s (inl l) (inr e) = rw (lt-ltb at (length b) l, lt-ltb at (length c) (within l), g.bytes at l, ne_eqb _ _ e) (inr (refl, refl))
      by_tests s (inr l) e = rw (le-ltb at (length b) l) (inl refl)

  none_stays : (at : ℕ) → Stays (none_at b at) (none_at c at)
  unfolding none_at Stays Halts
  none_stays at = by_end (lt_or at (length b))
    where
      by_end : (at < length b) ⊎ (length b ≤ at) → Stays (none_at b at) (none_at c at)
      by_end (inl l) = rw (lt-ltb at (length b) l, lt-ltb at (length c) (within l)) (inr (refl, refl))
      by_end (inr l) = rw (le-ltb at (length b) l) (inl refl)

  cut_stays : (p : Result ℕ Refusal) → Stays (Err Cut) p
  unfolding Stays Halts
  cut_stays p = inl refl

  off_stays : Stays (Err Text) (Err Text)
  unfolding Stays Halts
  off_stays = inr (refl, refl)

  -- the next part behind one that is there
  pub next_stays : (p p' : Result ℕ Refusal) (f f' : ℕ → Result ℕ Refusal) → Stays p p' → ((q : ℕ) → p ≡ Ok q → Stays (f q) (f' q)) → Stays (on_place p Err f) (on_place p' Err f')
  next_stays = place_on Err Stays cut_stays off_stays

  pub number_stays : (n at : ℕ) → Stays (number_at n b at) (number_at n c at)
  unfolding number_at
  number_stays n at = by_size (lt_or n 10000000000)
    where
      by_size : (n < 10000000000) ⊎ (10000000000 ≤ n) → Stays (number_at n b at) (number_at n c at)
      by_size (inl l) = rw (lt-ltb n 10000000000 l) (text_stays (digits n) at)
      by_size (inr l) = rw (le-ltb n 10000000000 l) (next_stays _ _ _ _ (text_stays (digits (n / 10)) at) (λ q e. none_stays q))

  more_stays : (k at x : ℕ) → StaysCount (length b) (Ok (more_at k b at x)) (Ok (more_at k c at x))
  unfolding more_at StaysCount
  more_stays zero at x = λ h. refl
  more_stays (suc k) at x = by_byte (more_stays k (suc at) (10 * x + (get_or b at 0 - 48))) (lt_or at (length b)) (is_digit (get_or b at 0)) refl
    where
      by_byte : StaysCount (length b) (Ok (more_at k b (suc at) (10 * x + (get_or b at 0 - 48)))) (Ok (more_at k c (suc at) (10 * x + (get_or b at 0 - 48)))) → (at < length b) ⊎ (length b ≤ at) → (t : Bool) → is_digit (get_or b at 0) ≡ t
          → StaysCount (length b) (Ok (more_at (suc k) b at x)) (Ok (more_at (suc k) c at x))
      by_byte s (inl l) true e = rw (g.bytes at l, e) s
      by_byte s (inl l) false e = rw (g.bytes at l, e) (λ h. refl)
      by_byte s (inr l) t e = rw (more_ends b at x (suc k) l) (λ h. absurd (omega arith))

  pub count_stays : (at : ℕ) → StaysCount (length b) (count_at b at) (count_at c at)
  unfolding count_at StaysCount Halts
  count_stays at = by_tests (lt_or at (length b)) (is_digit (get_or b at 0)) refl (eq_or (get_or b at 0) 48)
    where
      by_tests : (at < length b) ⊎ (length b ≤ at) → (t : Bool) → is_digit (get_or b at 0) ≡ t → (get_or b at 0 ≡ 48) ⊎ (get_or b at 0 ≢ 48)
          → StaysCount (length b) (count_at b at) (count_at c at)
      by_tests (inl l) false e z = rw (lt-ltb at (length b) l, lt-ltb at (length c) (within l), g.bytes at l, e) (inr (refl, refl))
      by_tests (inl l) true e (inl z) = rw (lt-ltb at (length b) l, lt-ltb at (length c) (within l), g.bytes at l, z) (λ h. refl)
      by_tests (inl l) true e (inr z) = rw (lt-ltb at (length b) l, lt-ltb at (length c) (within l), g.bytes at l, e, ne_eqb _ _ z) (more_stays 9 (suc at) (get_or b at 0 - 48))
      by_tests (inr l) t e z = rw (le-ltb at (length b) l) (inl refl)
