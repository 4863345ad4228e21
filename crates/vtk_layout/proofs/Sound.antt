-- A file whose layout is found has exactly this layout; and where bytes follow its end, what stands before them is such a file. Assumes nothing.
use mathlib.Core.Path.{◌≡◌, refl, sym, ap, ap₂, subst, ◌∙◌}
use mathlib.Core.Logic.{◌≢◌, ◌⊎◌, inl, inr}
use mathlib.Core.Bool.{true, cond}
use mathlib.Core.List.{List, [], ◌∷◌, ◌++◌, append_assoc}
use Prim.Native.Nat.{ℕ, zero, suc, ◌+◌, ◌*◌, ◌≤◌, ◌<◌}
use native.Mathlib.Numerals.{add-one}
use native.Mathlib.Omega.{arith}
use borrow.Author.Tests.{lt-ltb, le-ltb, le-leb}
use lib.Dec.{ltb}
use lib.ListN.{length, get_or, take, drop, length-append, length-drop, take-append-drop, drop_of_length-le}
use lib.Seq.{drop-cons, drop-drop, take_at, length-take-le}
use Rattle.lists.proofs.Cases.{lt_or, eq_or}
use Rattle.decimal.specs.Text.{text_of, text_at, on_place}
use Rattle.decimal.specs.Digits.{digits, number_at, count_at, read}
use Rattle.decimal.proofs.Texts.{text_found, number_found, either_way, never_at}
use Rattle.decimal.proofs.Counts.{count_found, never_read, count_either_way}
use Rattle.decimal.proofs.Longer.{Leads, leads, itself, Halts, Stays, StaysCount, text_stays}
use Rattle.std.specs.Prelude.{Result, Ok, Err}
use Rattle.decimal.specs.declared.Counted.{Counted}
use Rattle.refusals.specs.declared.Refusal.{Refusal}
use Rattle.refusals.specs.declared.Refusal.TheVariants.{Cut, Trailing}
use Rattle.vtk_layout.proofs.Parts.{title_feed, title_ends, title_next, no_feed_lem, block_in, line_in, section_in, section_small, head_small}
use Rattle.vtk_layout.proofs.There.{Whole, standing_whole, stands}
use Rattle.vtk_layout.proofs.Front.{line_stays, section_stays, counted_stays, head_stays, found_more}
use Rattle.vtk_layout.specs.Texts.{feed, space, version_line, dataset_lines, float_line, cells_word, types_word, data_word, scalar_lines}
use Rattle.vtk_layout.specs.Layout.{no_feed, is_title, written, title_at, block_at, line_at, section_at, counted_at, head_of, end_at, numbers_on, types_on, cells_on, points_on, located_of}
use Rattle.vtk_layout.specs.Parts.{Laid}
use Rattle.vtk_layout.specs.declared.Layout.{Layout}

-- ---- the parts that are there

pub record TitleHere (k : ℕ) (b : List ℕ) (at next : ℕ) : Type 0 where
  pub title : List ℕ
  pub short : length title ≤ k
  pub plain : no_feed title ≡ true
  pub bytes : drop at b ≡ title ++ (feed ++ drop next b)

pub title_found : (k : ℕ) (b : List ℕ) (at next : ℕ) → title_at k b at ≡ Ok next → TitleHere k b at next
unfolding title_at no_feed feed text_of
title_found zero b at next e = record { title = []; short = omega arith; plain = refl; bytes = (text_found feed b at next e).bytes }
title_found (suc k) b at next e = by_tests (title_found k b (suc at) next) (lt_or at (length b)) (eq_or (get_or b at 0) 10)
  where
    ends : at < length b → get_or b at 0 ≡ 10 → TitleHere (suc k) b at next
    ends l y =
        let d : Ok (at + 1) ≡ Ok next = sym (title_feed b at (suc k) (omega arith) l y) ∙ e in
        let n : at + 1 ≡ next = cc in
        let m : suc at ≡ next = sym (add-one at) ∙ n in
        record { title = []; short = omega arith; plain = refl; bytes = drop-cons b at 0 l ∙ ap₂ (λ (x z : ℕ). x ∷ drop z b) y m }

    by_tests : (title_at k b (suc at) ≡ Ok next → TitleHere k b (suc at) next) → (at < length b) ⊎ (length b ≤ at) → (get_or b at 0 ≡ 10) ⊎ (get_or b at 0 ≢ 10) → TitleHere (suc k) b at next
    by_tests go (inl l) (inl y) = ends l y
    by_tests go (inl l) (inr y) =
        let r : TitleHere k b (suc at) next = go (sym (title_next k b at l y) ∙ e) in
        record {
          title = get_or b at 0 ∷ r.title;
          short = omega (arith, r.short);
          plain = no_feed_lem (get_or b at 0) r.title y r.plain;
          bytes = drop-cons b at 0 l ∙ ap (λ (s : List ℕ). get_or b at 0 ∷ s) r.bytes;
        }
    by_tests go (inr l) y = absurd (never_at Cut next (sym (title_ends b at (suc k) (omega arith) l) ∙ e))

block_split : (b : List ℕ) (at size : ℕ) → drop at b ≡ take size (drop at b) ++ drop (at + size) b
block_split b at size = sym (take-append-drop size (drop at b)) ∙ ap (λ (s : List ℕ). take size (drop at b) ++ s) (drop-drop size at b)

pub line_found : (t : List ℕ) (size : ℕ) (b : List ℕ) (at block : ℕ) → line_at t size b at ≡ Ok block
    → drop at b ≡ t ++ (take size (drop block b) ++ drop (block + size) b)
unfolding line_at
line_found t size b at block =
    either_way (text_at t b at) Err (block_at size b) (λ r. r ≡ Ok block → drop at b ≡ t ++ (take size (drop block b) ++ drop (block + size) b))
    (λ k d f. absurd (never_at k block f))
    (λ q d f. (text_found t b at q d).bytes ∙ ap (λ (s : List ℕ). t ++ s) (ap (λ (k : ℕ). drop k b) (block_in size b q block f).0 ∙ block_split b block size))

section_found : (before : List ℕ) (n : ℕ) (after : List ℕ) (size : ℕ) (b : List ℕ) (at block : ℕ) → section_at before n after size b at ≡ Ok block
    → drop at b ≡ before ++ (digits n ++ (after ++ (take size (drop block b) ++ drop (block + size) b)))
unfolding section_at
section_found before n after size b at block =
    either_way (text_at before b at) Err _ (λ r. r ≡ Ok block → drop at b ≡ before ++ (digits n ++ (after ++ (take size (drop block b) ++ drop (block + size) b))))
    (λ k d f. absurd (never_at k block f))
    (λ q d. either_way (number_at n b q) Err (line_at after size b) (λ r. r ≡ Ok block → drop at b ≡ before ++ (digits n ++ (after ++ (take size (drop block b) ++ drop (block + size) b))))
    (λ k d f. absurd (never_at k block f))
    (λ z e f. (text_found before b at q d).bytes ∙ ap (λ (s : List ℕ). before ++ s) ((number_found n b q z e).bytes ∙ ap (λ (s : List ℕ). digits n ++ s) (line_found after size b z block f))))

pub counted_found : (t b : List ℕ) (at v next : ℕ) → counted_at t b at ≡ Ok (read v next) → drop at b ≡ t ++ (digits v ++ drop next b)
unfolding counted_at
counted_found t b at v next =
    either_way (text_at t b at) Err (count_at b) (λ r. r ≡ Ok (read v next) → drop at b ≡ t ++ (digits v ++ drop next b))
    (λ k d f. absurd (never_read k v next f))
    (λ q d f. (text_found t b at q d).bytes ∙ ap (λ (s : List ℕ). t ++ s) (count_found b q v next f).bytes)

pub record HeadHere (b : List ℕ) (v next : ℕ) : Type 0 where
  pub title : List ℕ
  pub plain : is_title title ≡ true
  pub bytes : b ≡ version_line ++ (title ++ (feed ++ (dataset_lines ++ (digits v ++ drop next b))))

pub head_found : (b : List ℕ) (v next : ℕ) → head_of b ≡ Ok (read v next) → HeadHere b v next
unfolding head_of
head_found b v next =
    either_way (text_at version_line b 0) Err _ (λ r. r ≡ Ok (read v next) → HeadHere b v next) (λ k d f. absurd (never_read k v next f))
    (λ q d. either_way (title_at 255 b q) Err (counted_at dataset_lines b) (λ r. r ≡ Ok (read v next) → HeadHere b v next) (λ k d f. absurd (never_read k v next f))
    (λ z e f. here q z d (title_found 255 b q z e) (counted_found dataset_lines b z v next f)))
  where
    here : (q z : ℕ) → text_at version_line b 0 ≡ Ok q → TitleHere 255 b q z → drop z b ≡ dataset_lines ++ (digits v ++ drop next b) → HeadHere b v next
    here q z d t c = record {
      title = t.title;
      plain = rw (le-leb (length t.title) 255 t.short) t.plain;
      bytes = (text_found version_line b 0 q d).bytes ∙ ap (λ (s : List ℕ). version_line ++ s) (t.bytes ∙ ap (λ (s : List ℕ). t.title ++ (feed ++ s)) c);
    }

end_found : (b : List ℕ) (at q : ℕ) → end_at b at ≡ Ok q → drop at b ≡ feed
unfolding end_at feed text_of
end_found b at q =
    either_way (text_at feed b at) Err _ (λ r. r ≡ Ok q → drop at b ≡ feed) (λ k d f. absurd (never_at k q f))
    (λ z d f. last z d f (lt_or z (length b)))
  where
    last : (z : ℕ) → text_at feed b at ≡ Ok z → cond (ltb z (length b)) (Err Trailing) (Ok z) ≡ Ok q → (z < length b) ⊎ (length b ≤ z) → drop at b ≡ feed
    last z d f (inl l) = absurd (never_at Trailing q (rw (lt-ltb z (length b) l) at f))
    last z d f (inr l) = (text_found feed b at z d).bytes ∙ ap (λ (s : List ℕ). feed ++ s) (drop_of_length-le b l)

-- the last line feed is there, and bytes follow it
record Past (b : List ℕ) (at : ℕ) : Type 0 where
  next : ℕ
  feed_here : text_at feed b at ≡ Ok next
  inside : next < length b

-- no part but the end stops with 12
low : {p : Result ℕ Refusal} (p' : Result ℕ Refusal) {k : Refusal} → Stays p p' → p ≡ Err k → k ≡ Trailing → ⊥
unfolding Stays Halts
low {p} p' {k} s e d = go (subst (λ (q : Result ℕ Refusal). Stays q p') e s)
  where
    go : Stays (Err k) p' → ⊥
    go (inl f) = cc
    go (inr (f, g)) = cc

low_count : (size : ℕ) {c : Result Counted Refusal} (c' : Result Counted Refusal) {k : Refusal} → StaysCount size c c' → c ≡ Err k → k ≡ Trailing → ⊥
unfolding StaysCount Halts
low_count size {c} c' {k} s e d = go (subst (λ (q : Result Counted Refusal). StaysCount size q c') e s)
  where
    go : StaysCount size (Err k) c' → ⊥
    go (inl f) = cc
    go (inr (f, g)) = cc

end_past : (b : List ℕ) (at : ℕ) (k : Refusal) → end_at b at ≡ Err k → k ≡ Trailing → Past b at
unfolding end_at
end_past b at k e h =
    either_way (text_at feed b at) Err _ (λ r. r ≡ Err k → Past b at)
    (λ j d f. absurd (low (text_at feed b at) (text_stays b b (itself b) feed at) (d ∙ f) h)) (λ z d f. last z d f (lt_or z (length b))) e
  where
    last : (z : ℕ) → text_at feed b at ≡ Ok z → cond (ltb z (length b)) (Err Trailing) (Ok z) ≡ Err k → (z < length b) ⊎ (length b ≤ z) → Past b at
    last z d f (inl l) = record { next = z; feed_here = d; inside = l }
    last z d f (inr l) = absurd (never_at k z (sym (rw (le-ltb z (length b) l) at f)))

-- ---- the whole

-- texts one behind another, and what follows them
unfoldable pub joined : List (List ℕ) → List ℕ → List ℕ
joined [] r = r
joined (t ∷ ts) r = t ++ joined ts r

pub joined_on : (ts : List (List ℕ)) (r s : List ℕ) → joined ts r ++ s ≡ joined ts (r ++ s)
unfolding joined
joined_on [] r s = refl
joined_on (t ∷ ts) r s = append_assoc t (joined ts r) s ∙ ap (λ (l : List ℕ). t ++ l) (joined_on ts r s)

-- all but the last line feed
pieces : List ℕ → ℕ → ℕ → List ℕ → List ℕ → List ℕ → List ℕ → List (List ℕ)
pieces title p n P C T N =
    version_line ∷ title ∷ feed ∷ dataset_lines ∷ digits p ∷ float_line ∷ P ∷ cells_word ∷ digits n ∷ space ∷ digits (5 * n) ∷ feed ∷ C ∷ types_word
    ∷ digits n ∷ feed ∷ T ∷ data_word ∷ digits n ∷ scalar_lines ∷ N ∷ []

written_joined : (title : List ℕ) (p n : ℕ) (P C T N : List ℕ) → joined (pieces title p n P C T N) feed ≡ written title p n P C T N
unfolding joined pieces written
written_joined title p n P C T N = refl

-- the bytes up to a place are a whole file, and others follow
pub record Behind (b : List ℕ) : Type 0 where
  pub end : ℕ
  pub inside : end < length b
  pub whole : Whole (take end b)

module _ (b : List ℕ) where
  -- every part but the end is there
  record All (l : Layout) : Type 0 where
    title : List ℕ
    plain : is_title title ≡ true
    few_points : l.p < 10000000000
    few_words : 5 * l.n < 10000000000
    points_in_lem : l.points + 12 * l.p ≤ length b
    cells_in_lem : l.cells + 20 * l.n ≤ length b
    types_in_lem : l.types + 4 * l.n ≤ length b
    numbers_in_lem : l.numbers + 4 * l.n ≤ length b
    bytes : b ≡ joined (pieces title l.p l.n (take (12 * l.p) (drop l.points b)) (take (20 * l.n) (drop l.cells b))
        (take (4 * l.n) (drop l.types b)) (take (4 * l.n) (drop l.numbers b))) (drop (l.numbers + 4 * l.n) b)

  all : (p q points n z cells types numbers : ℕ) → head_of b ≡ Ok (read p q) → line_at float_line (12 * p) b q ≡ Ok points
      → counted_at cells_word b (points + 12 * p) ≡ Ok (read n z) → section_at space (5 * n) feed (20 * n) b z ≡ Ok cells
      → section_at types_word n feed (4 * n) b (cells + 20 * n) ≡ Ok types → section_at data_word n scalar_lines (4 * n) b (types + 4 * n) ≡ Ok numbers
      → All (record { p = p; n = n; points = points; cells = cells; types = types; numbers = numbers })
  unfolding joined pieces
  all p q points n z cells types numbers h l c s t d =
      let hh = head_found b p q h in
      record {
        title = hh.title;
        plain = hh.plain;
        few_points = head_small b p q h;
        few_words = section_small space (5 * n) feed (20 * n) b z cells s;
        points_in_lem = line_in float_line (12 * p) b q points l;
        cells_in_lem = section_in space (5 * n) feed (20 * n) b z cells s;
        types_in_lem = section_in types_word n feed (4 * n) b (cells + 20 * n) types t;
        numbers_in_lem = section_in data_word n scalar_lines (4 * n) b (types + 4 * n) numbers d;
        bytes =
            hh.bytes
            ∙ ap (λ (r : List ℕ). version_line ++ (hh.title ++ (feed ++ (dataset_lines ++ (digits p ++ r)))))
            (line_found float_line (12 * p) b q points l
            ∙ ap (λ (r : List ℕ). float_line ++ (take (12 * p) (drop points b) ++ r))
            (counted_found cells_word b (points + 12 * p) n z c
            ∙ ap (λ (r : List ℕ). cells_word ++ (digits n ++ r))
            (section_found space (5 * n) feed (20 * n) b z cells s
            ∙ ap (λ (r : List ℕ). space ++ (digits (5 * n) ++ (feed ++ (take (20 * n) (drop cells b) ++ r))))
            (section_found types_word n feed (4 * n) b (cells + 20 * n) types t
            ∙ ap (λ (r : List ℕ). types_word ++ (digits n ++ (feed ++ (take (4 * n) (drop types b) ++ r))))
            (section_found data_word n scalar_lines (4 * n) b (types + 4 * n) numbers d)))));
      }

  -- a layout stops before the end, with another number than 12, or at its end
  module _ (Q : Result Layout Refusal → Type 0) (stops : (k : Refusal) → (k ≡ Trailing → ⊥) → Q (Err k))
      (ends : (l : Layout) → All l → Q (on_place (end_at b (l.numbers + 4 * l.n)) Err (λ q. Ok l))) where
    walk : Q (located_of b)
    unfolding located_of points_on cells_on types_on numbers_on
    walk =
        let c : List ℕ = b ++ (0 ∷ []) in
        let g : Leads b c = leads b (0 ∷ []) in
        let m : length b < length c = omega (arith, length-append b (0 ∷ [])) in
        count_either_way (head_of b) Err _ Q (λ k d. stops k (low_count (length b) (head_of c) (head_stays b c g m) d))
        (λ p q h. either_way (line_at float_line (12 * p) b q) Err _ Q (λ k d. stops k (low (line_at float_line (12 * p) c q) (line_stays b c g m float_line (12 * p) q) d))
        (λ points l. count_either_way (counted_at cells_word b (points + 12 * p)) Err _ Q (λ k d. stops k (low_count (length b) (counted_at cells_word c (points + 12 * p)) (counted_stays b c g m cells_word (points + 12 * p)) d))
        (λ n z i. either_way (section_at space (5 * n) feed (20 * n) b z) Err _ Q (λ k d. stops k (low (section_at space (5 * n) feed (20 * n) c z) (section_stays b c g m space (5 * n) feed (20 * n) z) d))
        (λ cells s. either_way (section_at types_word n feed (4 * n) b (cells + 20 * n)) Err _ Q
        (λ k d. stops k (low (section_at types_word n feed (4 * n) c (cells + 20 * n)) (section_stays b c g m types_word n feed (4 * n) (cells + 20 * n)) d))
        (λ types t. either_way (section_at data_word n scalar_lines (4 * n) b (types + 4 * n)) Err _ Q
        (λ k d. stops k (low (section_at data_word n scalar_lines (4 * n) c (types + 4 * n)) (section_stays b c g m data_word n scalar_lines (4 * n) (types + 4 * n)) d))
        (λ numbers d. ends (record { p = p; n = n; points = points; cells = cells; types = types; numbers = numbers })
        (all p q points n z cells types numbers h l i s t d)))))))

  -- found: the end is the end of the file
  Sound : Result Layout Refusal → Type 0
  Sound (Ok l) = Laid b l
  Sound (Err k) = ◌≡◌ {A = ℕ} 0 0

  laid : (l : Layout) (q : ℕ) → All l → end_at b (l.numbers + 4 * l.n) ≡ Ok q → Laid b l
  laid l q a e = record {
    title = a.title;
    plain = a.plain;
    points_in_lem = a.points_in_lem;
    cells_in_lem = a.cells_in_lem;
    types_in_lem = a.types_in_lem;
    numbers_in_lem = a.numbers_in_lem;
    bytes = a.bytes ∙ ap (joined (pieces a.title l.p l.n _ _ _ _)) (end_found b (l.numbers + 4 * l.n) q e) ∙ written_joined a.title l.p l.n _ _ _ _;
  }

  sound : Sound (located_of b)
  unfolding Sound
  sound =
      walk Sound (λ k d. refl)
      (λ l a. either_way (end_at b (l.numbers + 4 * l.n)) Err (λ q. Ok l) Sound (λ k d. refl) (λ q e. laid l q a e))

  pub located_laid : (l : Layout) → located_of b ≡ Ok l → Laid b l
  unfolding Sound
  located_laid l e = subst Sound e sound

  -- 12: it is not
  Passing : Result Layout Refusal → Type 0
  Passing (Ok l) = ◌≡◌ {A = ℕ} 0 0
  Passing (Err k) = k ≡ Trailing → Behind b

  module _ (l : Layout) (a : All l) (h : Past b (l.numbers + 4 * l.n)) where
    P : List ℕ
    P = take (12 * l.p) (drop l.points b)

    C : List ℕ
    C = take (20 * l.n) (drop l.cells b)

    T : List ℕ
    T = take (4 * l.n) (drop l.types b)

    N : List ℕ
    N = take (4 * l.n) (drop l.numbers b)

    front_is : b ≡ written a.title l.p l.n P C T N ++ drop h.next b
    unfolding P C T N
    front_is =
        a.bytes ∙ ap (joined (pieces a.title l.p l.n P C T N)) (text_found feed b (l.numbers + 4 * l.n) h.next h.feed_here).bytes
        ∙ sym (joined_on (pieces a.title l.p l.n P C T N) feed (drop h.next b))
        ∙ ap (λ (s : List ℕ). s ++ drop h.next b) (written_joined a.title l.p l.n P C T N)

    long : length (written a.title l.p l.n P C T N) ≡ h.next
    long =
        omega (arith, h.inside, ap length front_is, length-append (written a.title l.p l.n P C T N) (drop h.next b), length-drop h.next b)

    whole_front : take h.next b ≡ written a.title l.p l.n P C T N
    whole_front = ap (take h.next) front_is ∙ take_at (written a.title l.p l.n P C T N) (drop h.next b) h.next long

    block : (at size : ℕ) → at + size ≤ length b → length (take size (drop at b)) ≡ size
    block at size f = length-take-le size (drop at b) (omega (arith, length-drop at b))

    behind : Behind b
    unfolding P C T N
    behind =
        let s =
        stands a.title l.p l.n P C T N (take h.next b) a.plain a.few_points a.few_words (block l.points (12 * l.p) a.points_in_lem)
        (block l.cells (20 * l.n) a.cells_in_lem) (block l.types (4 * l.n) a.types_in_lem) (block l.numbers (4 * l.n) a.numbers_in_lem) whole_front in
        record { end = h.next; inside = h.inside; whole = standing_whole (take h.next b) l.p l.n P C T N s }

  passing : Passing (located_of b)
  unfolding Passing
  passing =
      walk Passing (λ k d e. absurd (d e))
      (λ l a. either_way (end_at b (l.numbers + 4 * l.n)) Err (λ q. Ok l) Passing
      (λ k d e. behind l a (end_past b (l.numbers + 4 * l.n) k d e)) (λ q e. refl))

  pub ended_behind : located_of b ≡ Err Trailing → Behind b
  unfolding Passing
  ended_behind e = subst Passing e passing refl

  pub behind_ends : Behind b → located_of b ≡ Err Trailing
  behind_ends h =
      ap located_of (sym (take-append-drop h.end b) ∙ ap (λ (s : List ℕ). take h.end b ++ s) (drop-cons b h.end 0 h.inside))
      ∙ found_more (take h.end b) (get_or b h.end 0) (drop (suc h.end) b) h.whole.layout h.whole.found
