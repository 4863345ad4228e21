-- A file is read from the front: what its first bytes decide, no byte behind them changes. Assumes nothing.
use mathlib.Core.Path.{◌≡◌, refl, sym, ap, subst, ◌∙◌}
use mathlib.Core.Logic.{◌≢◌, ◌⊎◌, inl, inr}
use mathlib.Core.List.{List, [], ◌∷◌, ◌++◌, append-nil}
use Prim.Native.Nat.{ℕ, zero, suc, ◌+◌, ◌*◌, ◌≤◌, ◌<◌}
use native.Mathlib.Omega.{arith}
use borrow.Author.Tests.{lt-ltb, le-ltb, eq-eqb, ne_eqb}
use lib.ListN.{length, get_or, take, drop, length-append, take-append-drop}
use lib.Seq.{take-suc, take-length}
use Rattle.lists.proofs.Cases.{lt_or, eq_or}
use Rattle.decimal.specs.Text.{text_of, text_at, on_place}
use Rattle.decimal.specs.Digits.{on_count}
use Rattle.decimal.proofs.Longer.{Leads, leads, Halts, Stays, StaysCount, place_on, count_on, text_stays, next_stays, number_stays, count_stays}
use Rattle.std.specs.Prelude.{Result, Ok, Err}
use Rattle.refusals.specs.declared.Refusal.{Refusal}
use Rattle.refusals.specs.declared.Refusal.TheVariants.{Cut, Trailing, Text}
use Rattle.vtk_layout.specs.Texts.{feed, space, version_line, dataset_lines, float_line, cells_word, types_word, data_word, scalar_lines}
use Rattle.vtk_layout.specs.Layout.{title_at, block_at, line_at, section_at, counted_at, head_of, end_at, numbers_on, types_on, cells_on, points_on, located_of}
use Rattle.vtk_layout.specs.declared.Layout.{Layout}

-- ---- the outcome of a file, and of one with a byte more or several

-- 12 stays, and a file that is found is one with bytes behind its end
unfoldable Ends : {A : Type 0} → (Refusal → A) → Refusal → A → Type 0
Ends stop k a = Halts stop k a ⊎ ((k ≡ Trailing) × (a ≡ stop Trailing))

unfoldable EndStays : Result ℕ Refusal → Result ℕ Refusal → Type 0
EndStays (Ok q) p = p ≡ Err Trailing
EndStays (Err k) p = Ends Err k p

unfoldable Later : Result Layout Refusal → Result Layout Refusal → Type 0
Later (Ok f) l = l ≡ Err Trailing
Later (Err k) l = Ends Err k l

later_cut : (l : Result Layout Refusal) → Later (Err Cut) l
unfolding Later Ends Halts
later_cut l = inl (inl refl)

later_off : Later (Err Text) (Err Text)
unfolding Later Ends Halts
later_off = inl (inr (refl, refl))

-- behind the end of the file no text starts
text_cut : (x : ℕ) (t b : List ℕ) (at : ℕ) → length b ≤ at → text_at (x ∷ t) b at ≡ Err Cut
unfolding text_at
text_cut x t b at h = rw (le-ltb at (length b) h)

module _ (b c : List ℕ) (g : Leads b c) (more : length b < length c) where
  within : {i : ℕ} → i < length b → i < length c
  within h = omega arith

  title_stays : (k at : ℕ) → Stays (title_at k b at) (title_at k c at)
  unfolding title_at Stays Halts
  title_stays zero at = text_stays b c g feed at
  title_stays (suc k) at = by_tests (title_stays k (suc at)) (lt_or at (length b)) (eq_or (get_or b at 0) 10)
    where
      by_tests : Stays (title_at k b (suc at)) (title_at k c (suc at)) → (at < length b) ⊎ (length b ≤ at) → (get_or b at 0 ≡ 10) ⊎ (get_or b at 0 ≢ 10)
          → Stays (title_at (suc k) b at) (title_at (suc k) c at)
      by_tests s (inl l) (inl e) = rw (lt-ltb at (length b) l, lt-ltb at (length c) (within l), g.bytes at l, eq-eqb _ _ e) refl
      by_tests s (inl l) (inr e) = rw (lt-ltb at (length b) l, lt-ltb at (length c) (within l), g.bytes at l, ne_eqb _ _ e) s
      by_tests s (inr l) e = rw (le-ltb at (length b) l) (inl refl)

  block_stays : (size at : ℕ) → Stays (block_at size b at) (block_at size c at)
  unfolding block_at Stays Halts
  block_stays size at = by_end (lt_or (length b) (at + size))
    where
      by_end : (length b < at + size) ⊎ (at + size ≤ length b) → Stays (block_at size b at) (block_at size c at)
      by_end (inl l) = rw (lt-ltb (length b) (at + size) l) (inl refl)
      by_end (inr l) = rw (le-ltb (length b) (at + size) l, le-ltb (length c) (at + size) (omega arith)) refl

  pub line_stays : (t : List ℕ) (size at : ℕ) → Stays (line_at t size b at) (line_at t size c at)
  unfolding line_at
  line_stays t size at = next_stays b c g _ _ _ _ (text_stays b c g t at) (λ q e. block_stays size q)

  pub section_stays : (before : List ℕ) (n : ℕ) (after : List ℕ) (size at : ℕ) → Stays (section_at before n after size b at) (section_at before n after size c at)
  unfolding section_at
  section_stays before n after size at =
      next_stays b c g _ _ _ _ (text_stays b c g before at) (λ q e. next_stays b c g _ _ _ _ (number_stays b c g n q) (λ z f. line_stays after size z))

  pub counted_stays : (t : List ℕ) (at : ℕ) → StaysCount (length b) (counted_at t b at) (counted_at t c at)
  unfolding counted_at StaysCount Halts
  counted_stays t at =
      place_on Err (StaysCount (length b)) (λ a. inl refl) (inr (refl, refl)) _ _ _ _ (text_stays b c g t at) (λ q e. count_stays b c g q)

  pub head_stays : StaysCount (length b) (head_of b) (head_of c)
  unfolding head_of StaysCount Halts
  head_stays =
      place_on Err (StaysCount (length b)) (λ a. inl refl) (inr (refl, refl)) _ _ _ _ (text_stays b c g version_line 0)
      (λ q e. place_on Err (StaysCount (length b)) (λ a. inl refl) (inr (refl, refl)) _ _ _ _ (title_stays 255 q) (λ z f. counted_stays dataset_lines z))

  end_stays : (at : ℕ) → EndStays (end_at b at) (end_at c at)
  unfolding end_at feed text_at on_place EndStays Ends Halts text_of
  end_stays at = by_tests (lt_or at (length b)) (eq_or (get_or b at 0) 10) (lt_or (suc at) (length b))
    where
      by_tests : (at < length b) ⊎ (length b ≤ at) → (get_or b at 0 ≡ 10) ⊎ (get_or b at 0 ≢ 10) → (suc at < length b) ⊎ (length b ≤ suc at) → EndStays (end_at b at) (end_at c at)
      by_tests (inl l) (inl e) (inl h) =
          rw (lt-ltb at (length b) l, lt-ltb at (length c) (within l), g.bytes at l, eq-eqb _ _ e, lt-ltb (suc at) (length b) h, lt-ltb (suc at) (length c) (within h)) (inr (refl, refl))
      by_tests (inl l) (inl e) (inr h) =
          rw (lt-ltb at (length b) l, lt-ltb at (length c) (within l), g.bytes at l, eq-eqb _ _ e, le-ltb (suc at) (length b) h, lt-ltb (suc at) (length c) (omega arith)) refl
      by_tests (inl l) (inr e) h = rw (lt-ltb at (length b) l, lt-ltb at (length c) (within l), g.bytes at l, ne_eqb _ _ e) (inl (inr (refl, refl)))
      by_tests (inr l) e h = rw (le-ltb at (length b) l) (inl (inl refl))

  -- from each block's header on
  end_on : (p p' : Result ℕ Refusal) (f f' : ℕ → Result Layout Refusal) → EndStays p p' → ((q : ℕ) → Later (f q) (Err Trailing)) → Later (on_place p Err f) (on_place p' Err f')
  unfolding EndStays Later Ends Halts on_place
  end_on (Ok q) p' f f' s h = rw s (h q)
  end_on (Err k) p' f f' (inl (inl e)) h = inl (inl e)
  end_on (Err k) p' f f' (inl (inr (e, d))) h = rw d (inl (inr (e, refl)))
  end_on (Err k) p' f f' (inr (e, d)) h = rw d (inr (e, refl))

  part_on : (p p' : Result ℕ Refusal) (f f' : ℕ → Result Layout Refusal) → Stays p p' → ((q : ℕ) → p ≡ Ok q → Later (f q) (f' q)) → Later (on_place p Err f) (on_place p' Err f')
  part_on = place_on Err Later later_cut later_off

  numbers_later : (p n points cells types : ℕ) → Later (numbers_on b p n points cells types) (numbers_on c p n points cells types)
  unfolding numbers_on Later
  numbers_later p n points cells types =
      part_on _ _ _ _ (section_stays data_word n scalar_lines (4 * n) (types + 4 * n)) (λ q e. end_on _ _ _ _ (end_stays (q + 4 * n)) (λ z. refl))

  cells_later : (p n points at : ℕ) → Later (cells_on b p n points at) (cells_on c p n points at)
  unfolding cells_on types_on
  cells_later p n points at =
      part_on _ _ _ _ (section_stays space (5 * n) feed (20 * n) at)
      (λ q e. part_on _ _ _ _ (section_stays types_word n feed (4 * n) (q + 20 * n)) (λ z f. numbers_later p n points q z))

  cells_cut : (p n points at : ℕ) → length b ≤ at → cells_on b p n points at ≡ Err Cut
  unfolding cells_on section_at on_place space text_of
  cells_cut p n points at h = rw (text_cut 32 [] b at h)

  points_later : (p at : ℕ) → Later (points_on b p at) (points_on c p at)
  unfolding points_on
  points_later p at =
      part_on _ _ _ _ (line_stays float_line (12 * p) at)
      (λ q e. count_on Err Later later_cut later_off (length b) _ _ _ _ (counted_stays cells_word (q + 12 * p)) (λ n z h. cells_later p n q z) (λ n z h. cells_cut p n q z h))

  points_cut : (p at : ℕ) → length b ≤ at → points_on b p at ≡ Err Cut
  unfolding points_on line_at on_place float_line text_of
  points_cut p at h = rw (text_cut 32 _ b at h)

  located_later : Later (located_of b) (located_of c)
  unfolding located_of
  located_later = count_on Err Later later_cut later_off (length b) _ _ _ _ head_stays (λ p q h. points_later p q) points_cut

-- ---- what it says

-- a file with a byte more or several
module _ (b : List ℕ) (x : ℕ) (r : List ℕ) where
  later : Later (located_of b) (located_of (b ++ (x ∷ r)))
  later = located_later b (b ++ (x ∷ r)) (leads b (x ∷ r)) (omega (arith, length-append b (x ∷ r)))

  by_number : {A : Type 0} (k : Refusal) → located_of b ≡ Err k → (k ≡ Cut → A) → (k ≡ Trailing → located_of (b ++ (x ∷ r)) ≡ Err Trailing → A)
      → (k ≡ Text → located_of (b ++ (x ∷ r)) ≡ Err Text → A) → A
  unfolding Later Ends Halts
  by_number {A} k e cut ends departs = go (subst (λ (l : Result Layout Refusal). Later l (located_of (b ++ (x ∷ r)))) e later)
    where
      go : Later (Err k) (located_of (b ++ (x ∷ r))) → A
      go (inl (inl d)) = cut d
      go (inl (inr (d, f))) = departs d f
      go (inr (d, f)) = ends d f

  -- a file that is found, or has bytes behind its end: 12
  pub found_more : (l : Layout) → located_of b ≡ Ok l → located_of (b ++ (x ∷ r)) ≡ Err Trailing
  unfolding Later
  found_more l e = subst (λ (l : Result Layout Refusal). Later l (located_of (b ++ (x ∷ r)))) e later

  pub ended_more : located_of b ≡ Err Trailing → located_of (b ++ (x ∷ r)) ≡ Err Trailing
  ended_more e = by_number Trailing e (λ d. cc) (λ d f. f) (λ d f. cc)

  -- one that departs
  pub departed_more : located_of b ≡ Err Text → located_of (b ++ (x ∷ r)) ≡ Err Text
  departed_more e = by_number Text e (λ d. cc) (λ d f. cc) (λ d f. f)

-- the numbers that a layout is refused with
pub located_stops : (b : List ℕ) (k : Refusal) → located_of b ≡ Err k → (k ≡ Cut) ⊎ ((k ≡ Trailing) ⊎ (k ≡ Text))
located_stops b k e = by_number b 0 [] k e inl (λ d f. inr (inl d)) (λ d f. inr (inr d))

-- the first byte that departs: what stands before it is a file cut short, and behind it any bytes may follow
pub record Departs (b : List ℕ) : Type 0 where
  pub at : ℕ
  pub inside : at < length b
  pub before : located_of (take at b) ≡ Err Cut
  pub behind : (r : List ℕ) → located_of (take (suc at) b ++ r) ≡ Err Text

pub stop_is : {j k : Refusal} → ◌≡◌ {A = Result Layout Refusal} (Err j) (Err k) → j ≡ k
stop_is e = cc

never : {j k : Refusal} → (j ≡ k → ⊥) → ◌≡◌ {A = Result Layout Refusal} (Err j) (Err k) → ⊥
never d e = d (stop_is e)

pub found_never : {l : Layout} {k : Refusal} → Ok l ≡ Err k → ⊥
found_never e = cc

empty_cut : located_of [] ≡ Err Cut
unfolding located_of head_of version_line text_at on_place on_count text_of
empty_cut = refl

module _ (b : List ℕ) where
  departs_by : (k : ℕ) → k ≤ length b → located_of (take k b) ≡ Err Text → Departs b
  departs_by zero h e = absurd (never (λ q. cc) (sym empty_cut ∙ e))
  departs_by (suc k) h e = by_part (departs_by k (omega arith)) (located_of (take k b)) refl
    where
      all : (r : List ℕ) → located_of (take (suc k) b ++ r) ≡ Err Text
      all [] = ap located_of (append-nil (take (suc k) b)) ∙ e
      all (x ∷ r) = departed_more (take (suc k) b) x r e

      next : take (suc k) b ≡ take k b ++ (get_or b k 0 ∷ [])
      next = take-suc b k 0 h

      no_end : located_of (take k b ++ (get_or b k 0 ∷ [])) ≡ Err Trailing → ⊥
      no_end f = never (λ q. cc) (sym f ∙ ap located_of (sym next) ∙ e)

      by_part : (located_of (take k b) ≡ Err Text → Departs b) → (l : Result Layout Refusal) → located_of (take k b) ≡ l → Departs b
      by_part go (Ok l) d = absurd (no_end (found_more (take k b) (get_or b k 0) [] l d))
      by_part go (Err j) d =
          by_number (take k b) (get_or b k 0) [] j d (λ q. record { at = k; inside = h; before = d ∙ ap Err q; behind = all }) (λ q f. absurd (no_end f)) (λ q f. go (d ∙ ap Err q))

  -- 14 exactly where there is a first byte that departs
  pub first_departs : located_of b ≡ Err Text → Departs b
  first_departs e = departs_by (length b) (omega arith) (ap located_of (take-length b) ∙ e)

  pub departs_stops : Departs b → located_of b ≡ Err Text
  departs_stops d = ap located_of (sym (take-append-drop (suc d.at) b)) ∙ d.behind (drop (suc d.at) b)

-- a file that is cut short, and one that is found: each part of it from the front is cut short
module _ (b : List ℕ) (x : ℕ) (r : List ℕ) where
  by_whole : {l : Result Layout Refusal} → located_of (b ++ (x ∷ r)) ≡ l → (l ≡ Err Trailing → ⊥) → (l ≡ Err Text → ⊥) → located_of b ≡ Err Cut
  by_whole {l} e no_end no-departure = by_part (located_of b) refl
    where
      by_part : (k : Result Layout Refusal) → located_of b ≡ k → located_of b ≡ Err Cut
      by_part (Ok l) d = absurd (no_end (sym e ∙ found_more b x r l d))
      by_part (Err j) d =
          by_number b x r j d (λ q. d ∙ ap Err q) (λ q f. absurd (no_end (sym e ∙ f))) (λ q f. absurd (no-departure (sym e ∙ f)))

  pub cut_front : located_of (b ++ (x ∷ r)) ≡ Err Cut → located_of b ≡ Err Cut
  cut_front e = by_whole e (never (λ q. cc)) (never (λ q. cc))

  pub found_front : (l : Layout) → located_of (b ++ (x ∷ r)) ≡ Ok l → located_of b ≡ Err Cut
  found_front l e = by_whole e found_never found_never
