-- A file that ends too soon: bytes put behind it complete it, where its cells are few enough for the number of their words. Assumes nothing.
use mathlib.Core.Path.{◌≡◌, refl, sym, ap, ◌∙◌}
use mathlib.Core.Logic.{◌≢◌, ◌⊎◌, inl, inr}
use mathlib.Core.Bool.{Bool, true, false, cond}
use mathlib.Core.List.{List, [], ◌∷◌, ◌++◌, append-nil}
use Prim.Native.Nat.{ℕ, zero, suc, ◌+◌, ◌-◌, ◌*◌, ◌≤◌, ◌<◌}
use native.Mathlib.Omega.{arith}
use borrow.Author.Tests.{lt-ltb, eq-eqb, ne_eqb, le-leb}
use lib.Dec.{eqb, ltb}
use lib.ListN.{length, get_or, take, drop, replicate, length-append, length-drop, length-replicate, drop_of_length-le}
use lib.Seq.{drop-cons, length-take-le}
use Rattle.lists.proofs.Cases.{lt_or, eq_or}
use Rattle.decimal.specs.Text.{text_of, text_at, on_place}
use Rattle.decimal.specs.Digits.{digits, number_at, count_at, on_count, read}
use Rattle.decimal.proofs.Texts.{Missing, text_cut, text_found, number_low, either_way, never_at, other_stop, went}
use Rattle.decimal.proofs.Counts.{count_cut, count_went, count_either_way}
use Rattle.std.specs.Prelude.{Result, Ok, Err}
use Rattle.decimal.specs.declared.Counted.{Counted}
use Rattle.refusals.specs.declared.Refusal.{Refusal}
use Rattle.refusals.specs.declared.Refusal.TheVariants.{Cut, Trailing, Text}
use Rattle.vtk_layout.specs.declared.Layout.{Layout}
use Rattle.vtk_layout.specs.Texts.{feed, space, version_line, dataset_lines, float_line, cells_word, types_word, data_word, scalar_lines}
use Rattle.vtk_layout.specs.Layout.{no_feed, is_title, written, title_at, block_at, line_at, section_at, counted_at, head_of, end_at, numbers_on, types_on, cells_on, points_on, located_of}
use Rattle.vtk_layout.proofs.Parts.{title_feed, title_next, no_feed_lem, block_there, line_in, head_small}
use Rattle.vtk_layout.proofs.There.{Whole, standing_whole, stands}
use Rattle.vtk_layout.proofs.Front.{stop_is, found_never, found_front}
use Rattle.vtk_layout.proofs.Sound.{TitleHere, title_found, line_found, counted_found, head_found, joined, joined_on}

-- ---- bytes that go on to what is right

-- s is the front of right bytes
record Can (s : List ℕ) (Q : List ℕ → Type 0) : Type 0 where
  rest : List ℕ
  right : Q (s ++ rest)

-- a text, a block of so many bytes, and what follows
record Part (t : List ℕ) (size : ℕ) (Q : List ℕ → Type 0) (s : List ℕ) : Type 0 where
  block : List ℕ
  long : length block ≡ size
  more : List ℕ
  bytes : s ≡ t ++ (block ++ more)
  right : Q more

-- a text, a count below a bound, and what follows
record Told (t : List ℕ) (bound : ℕ) (Q : ℕ → List ℕ → Type 0) (s : List ℕ) : Type 0 where
  v : ℕ
  few : v < bound
  more : List ℕ
  bytes : s ≡ t ++ (digits v ++ more)
  right : Q v more

any : (t : List ℕ) (size : ℕ) (Q : List ℕ → Type 0) → Can [] Q → Can [] (Part t size Q)
any t size Q c = record {
  rest = t ++ (replicate size 0 ++ c.rest);
  right = record { block = replicate size 0; long = length-replicate size 0; more = c.rest; bytes = refl; right = c.right };
}

any_told : (t : List ℕ) (bound : ℕ) (Q : ℕ → List ℕ → Type 0) → 0 < bound → Can [] (Q 0) → Can [] (Told t bound Q)
any_told t bound Q h c = record {
  rest = t ++ (digits 0 ++ c.rest);
  right = record { v = 0; few = h; more = c.rest; bytes = refl; right = c.right };
}

count_stop_is : {j k : Refusal} → ◌≡◌ {A = Result Counted Refusal} (Err j) (Err k) → j ≡ k
count_stop_is e = cc

-- ---- a text and a block

filled : (s : List ℕ) (size : ℕ) → length s ≤ size → length (s ++ replicate (size - length s) 0) ≡ size
filled s size h = omega (arith, length-append s (replicate (size - length s) 0), length-replicate {A = ℕ} (size - length s) 0)

module _ (t : List ℕ) (size : ℕ) (Q : List ℕ → Type 0) (b : List ℕ) (at : ℕ) where
  in_text : Can [] Q → Missing t (drop at b) → Can (drop at b) (Part t size Q)
  unfolding joined
  in_text c m = record {
    rest = m.rest ++ (replicate size 0 ++ c.rest);
    right = record {
      block = replicate size 0;
      long = length-replicate size 0;
      more = c.rest;
      bytes = sym (joined_on (drop at b ∷ []) m.rest (replicate size 0 ++ c.rest)) ∙ ap (λ (s : List ℕ). s ++ (replicate size 0 ++ c.rest)) (sym m.whole);
      right = c.right;
    };
  }

  in_block : Can [] Q → (q : ℕ) → text_at t b at ≡ Ok q → length b < q + size → Can (drop at b) (Part t size Q)
  unfolding joined
  in_block c q d l = record {
    rest = replicate (size - length (drop q b)) 0 ++ c.rest;
    right = record {
      block = drop q b ++ replicate (size - length (drop q b)) 0;
      long = filled (drop q b) size (omega (arith, length-drop q b));
      more = c.rest;
      bytes =
          ap (λ (s : List ℕ). s ++ (replicate (size - length (drop q b)) 0 ++ c.rest)) (text_found t b at q d).bytes
          ∙ joined_on (t ∷ []) (drop q b) (replicate (size - length (drop q b)) 0 ++ c.rest)
          ∙ ap (λ (s : List ℕ). t ++ s) (sym (joined_on (drop q b ∷ []) (replicate (size - length (drop q b)) 0) c.rest));
      right = c.right;
    };
  }

  line_cut : Can [] Q → line_at t size b at ≡ Err Cut → Can (drop at b) (Part t size Q)
  unfolding line_at
  line_cut c =
      either_way (text_at t b at) Err (block_at size b) (λ r. r ≡ Err Cut → Can (drop at b) (Part t size Q)) (λ k d f. in_text c (text_cut t b at (d ∙ f)))
      (λ q d f. by_end q d f (lt_or (length b) (q + size)))
    where
      by_end : (q : ℕ) → text_at t b at ≡ Ok q → block_at size b q ≡ Err Cut → (length b < q + size) ⊎ (q + size ≤ length b) → Can (drop at b) (Part t size Q)
      by_end q d f (inl l) = in_block c q d l
      by_end q d f (inr l) = absurd (never_at Cut q (sym f ∙ block_there size b q l))

  line_on : (block : ℕ) → line_at t size b at ≡ Ok block → Can (drop (block + size) b) Q → Can (drop at b) (Part t size Q)
  unfolding joined
  line_on block e c = record {
    rest = c.rest;
    right = record {
      block = take size (drop block b);
      long = length-take-le size (drop block b) (omega (arith, length-drop block b, line_in t size b at block e));
      more = drop (block + size) b ++ c.rest;
      bytes =
          ap (λ (s : List ℕ). s ++ c.rest) (line_found t size b at block e)
          ∙ joined_on (t ∷ take size (drop block b) ∷ []) (drop (block + size) b) c.rest;
      right = c.right;
    };
  }

  -- cut in the text or in the block, or behind them
  part_can : (f : ℕ → Result Layout Refusal) → Can [] Q → ((block : ℕ) → line_at t size b at ≡ Ok block → f block ≡ Err Cut → Can (drop (block + size) b) Q)
      → on_place (line_at t size b at) Err f ≡ Err Cut → Can (drop at b) (Part t size Q)
  part_can f c go =
      either_way (line_at t size b at) Err f (λ r. r ≡ Err Cut → Can (drop at b) (Part t size Q))
      (λ k d e. line_cut c (d ∙ ap Err (stop_is e))) (λ block d e. line_on block d (go block d e))

-- ---- header lines with a number are one text

line_joined : (t u : List ℕ) (size : ℕ) (b : List ℕ) (at : ℕ) → line_at (t ++ u) size b at ≡ on_place (text_at t b at) Err (line_at u size b)
unfolding line_at text_at on_place
line_joined [] u size b at = refl
line_joined (x ∷ t) u size b at = by_tests (text_at (t ++ u) b (suc at)) (text_at t b (suc at)) (line_joined t u size b (suc at)) (ltb at (length b)) (eqb (get_or b at 0) x)
  where
    by_tests : (p q : Result ℕ Refusal) → on_place p Err (block_at size b) ≡ on_place q Err (line_at u size b) → (c d : Bool)
        → on_place (cond c (cond d p (Err Text)) (Err Cut)) Err (block_at size b) ≡ on_place (cond c (cond d q (Err Text)) (Err Cut)) Err (line_at u size b)
    by_tests p q h true true = h
    by_tests p q h true false = refl
    by_tests p q h false d = refl

section_line : (before : List ℕ) (n : ℕ) (after : List ℕ) (size : ℕ) (b : List ℕ) (at : ℕ) → n < 10000000000
    → line_at (before ++ (digits n ++ after)) size b at ≡ section_at before n after size b at
unfolding section_at on_place
section_line before n after size b at h = line_joined before (digits n ++ after) size b at ∙ by_text (text_at before b at)
  where
    inner : (q : ℕ) → line_at (digits n ++ after) size b q ≡ on_place (number_at n b q) Err (line_at after size b)
    inner q = line_joined (digits n) after size b q ∙ ap (λ (p : Result ℕ Refusal). on_place p Err (line_at after size b)) (sym (number_low n b q h))

    by_text : (p : Result ℕ Refusal) → on_place p Err (line_at (digits n ++ after) size b) ≡ on_place p Err (λ q. on_place (number_at n b q) Err (line_at after size b))
    by_text (Ok q) = inner q
    by_text (Err k) = refl

section_can : (before : List ℕ) (n : ℕ) (after : List ℕ) (size : ℕ) (Q : List ℕ → Type 0) (b : List ℕ) (at : ℕ) (f : ℕ → Result Layout Refusal) → n < 10000000000 → Can [] Q
    → ((block : ℕ) → f block ≡ Err Cut → Can (drop (block + size) b) Q) → on_place (section_at before n after size b at) Err f ≡ Err Cut
    → Can (drop at b) (Part (before ++ (digits n ++ after)) size Q)
section_can before n after size Q b at f h c go e =
    part_can (before ++ (digits n ++ after)) size Q b at f c (λ block d. go block) (ap (λ (p : Result ℕ Refusal). on_place p Err f) (section_line before n after size b at h) ∙ e)

-- ---- a text and a count

module _ (t : List ℕ) (bound : ℕ) (Q : ℕ → List ℕ → Type 0) (b : List ℕ) (at : ℕ) where
  -- the text ends with the file
  counted_rest : 0 < bound → Can [] (Q 0) → Missing t (drop at b) → Can (drop at b) (Told t bound Q)
  unfolding joined
  counted_rest h c m = record {
    rest = m.rest ++ (digits 0 ++ c.rest);
    right = record {
      v = 0;
      few = h;
      more = c.rest;
      bytes = sym (joined_on (drop at b ∷ []) m.rest (digits 0 ++ c.rest)) ∙ ap (λ (s : List ℕ). s ++ (digits 0 ++ c.rest)) (sym m.whole);
      right = c.right;
    };
  }

  counted_cut : 0 < bound → Can [] (Q 0) → counted_at t b at ≡ Err Cut → Can (drop at b) (Told t bound Q)
  unfolding counted_at
  counted_cut h c =
      either_way (text_at t b at) Err (count_at b) (λ r. r ≡ Err Cut → Can (drop at b) (Told t bound Q))
      (λ k d f. counted_rest h c (text_cut t b at (d ∙ ap Err (count_stop_is f))))
      (λ q d f. counted_rest h c (record {
        rest = [];
        whole = sym (append-nil (drop at b) ∙ (text_found t b at q d).bytes ∙ ap (λ (s : List ℕ). t ++ s) (drop_of_length-le b (count_cut b q f)) ∙ append-nil t);
      }))

  counted_on : (v z : ℕ) → counted_at t b at ≡ Ok (read v z) → v < bound → Can (drop z b) (Q v) → Can (drop at b) (Told t bound Q)
  unfolding joined
  counted_on v z e h c = record {
    rest = c.rest;
    right = record {
      v = v;
      few = h;
      more = drop z b ++ c.rest;
      bytes = ap (λ (s : List ℕ). s ++ c.rest) (counted_found t b at v z e) ∙ joined_on (t ∷ digits v ∷ []) (drop z b) c.rest;
      right = c.right;
    };
  }

-- ---- a title

record TitleCut (k : ℕ) (s : List ℕ) : Type 0 where
  short : length s ≤ k
  plain : no_feed s ≡ true

no_title : (k : ℕ) (s : List ℕ) → s ≡ [] → TitleCut k s
unfolding no_feed
no_title k s e = record { short = omega (arith, ap length e); plain = ap no_feed e }

title_cut : (k : ℕ) (b : List ℕ) (at : ℕ) → title_at k b at ≡ Err Cut → TitleCut k (drop at b)
unfolding title_at text_at feed text_of
title_cut zero b at e = by_tests (lt_or at (length b)) (eq_or (get_or b at 0) 10)
  where
    by_tests : (at < length b) ⊎ (length b ≤ at) → (get_or b at 0 ≡ 10) ⊎ (get_or b at 0 ≢ 10) → TitleCut zero (drop at b)
    by_tests (inl l) (inl y) = absurd (never_at Cut (suc at) (sym (rw (lt-ltb at (length b) l, eq-eqb _ _ y) at e)))
    by_tests (inl l) (inr y) = absurd (other_stop (λ q. cc) (rw (lt-ltb at (length b) l, ne_eqb _ _ y) at e))
    by_tests (inr l) y = no_title zero (drop at b) (drop_of_length-le b l)
title_cut (suc k) b at e = by_tests (title_cut k b (suc at)) (lt_or at (length b)) (eq_or (get_or b at 0) 10)
  where
    goes : at < length b → get_or b at 0 ≢ 10 → TitleCut k (drop (suc at) b) → TitleCut (suc k) (drop at b)
    goes l y r =
        let d = drop-cons b at 0 l in
        record {
          short = omega (arith, ap length d, r.short);
          plain = ap no_feed d ∙ no_feed_lem (get_or b at 0) (drop (suc at) b) y r.plain;
        }

    by_tests : (title_at k b (suc at) ≡ Err Cut → TitleCut k (drop (suc at) b)) → (at < length b) ⊎ (length b ≤ at) → (get_or b at 0 ≡ 10) ⊎ (get_or b at 0 ≢ 10)
        → TitleCut (suc k) (drop at b)
    by_tests go (inl l) (inl y) = absurd (never_at Cut (at + 1) (sym e ∙ title_feed b at (suc k) (omega arith) l y))
    by_tests go (inl l) (inr y) = goes l y (go (sym (title_next k b at l y) ∙ e))
    by_tests go (inr l) y = no_title (suc k) (drop at b) (drop_of_length-le b l)

-- ---- the whole, from the last part to the first

Last : List ℕ → Type 0
Last s = s ≡ feed

abbrev Numbers : ℕ → List ℕ → Type 0
Numbers n = Part (data_word ++ (digits n ++ scalar_lines)) (4 * n) Last

abbrev Types : ℕ → List ℕ → Type 0
Types n = Part (types_word ++ (digits n ++ feed)) (4 * n) (Numbers n)

abbrev Cells : ℕ → List ℕ → Type 0
Cells n = Part (space ++ (digits (5 * n) ++ feed)) (20 * n) (Types n)

abbrev Points : ℕ → List ℕ → Type 0
Points p = Part float_line (12 * p) (Told cells_word 2000000000 Cells)

record Right (s : List ℕ) : Type 0 where
  title : List ℕ
  plain : is_title title ≡ true
  more : List ℕ
  bytes : s ≡ version_line ++ (title ++ (feed ++ more))
  right : Told dataset_lines 10000000000 Points more

any_last : Can [] Last
unfolding Last
any_last = record { rest = feed; right = refl }

any_types : (n : ℕ) → Can [] (Types n)
any_types n = any _ _ (Numbers n) (any _ _ Last any_last)

any_cells : (n : ℕ) → Can [] (Cells n)
any_cells n = any _ _ (Types n) (any_types n)

any_told_cells : Can [] (Told cells_word 2000000000 Cells)
any_told_cells = any_told cells_word 2000000000 Cells (omega arith) (any_cells 0)

any_points : (p : ℕ) → Can [] (Points p)
any_points p = any float_line (12 * p) (Told cells_word 2000000000 Cells) any_told_cells

-- such bytes are a whole file
right_whole : (s : List ℕ) → Right s → Whole s
unfolding written joined Last
right_whole s f =
    let c = f.right in
    let p = c.right in
    let d = p.right in
    let e = d.right in
    let t = e.right in
    let u = t.right in
    let k : s ≡ written f.title c.v d.v p.block e.block t.block u.block =
    f.bytes
    ∙ ap (λ (r : List ℕ). version_line ++ (f.title ++ (feed ++ r)))
    (c.bytes
    ∙ ap (λ (r : List ℕ). dataset_lines ++ (digits c.v ++ r))
    (p.bytes
    ∙ ap (λ (r : List ℕ). float_line ++ (p.block ++ r))
    (d.bytes
    ∙ ap (λ (r : List ℕ). cells_word ++ (digits d.v ++ r))
    (e.bytes ∙ joined_on (space ∷ digits (5 * d.v) ∷ []) feed (e.block ++ e.more)
    ∙ ap (λ (r : List ℕ). space ++ (digits (5 * d.v) ++ (feed ++ (e.block ++ r))))
    (t.bytes ∙ joined_on (types_word ∷ digits d.v ∷ []) feed (t.block ++ t.more)
    ∙ ap (λ (r : List ℕ). types_word ++ (digits d.v ++ (feed ++ (t.block ++ r))))
    (u.bytes ∙ joined_on (data_word ∷ digits d.v ∷ []) scalar_lines (u.block ++ u.more)
    ∙ ap (λ (r : List ℕ). data_word ++ (digits d.v ++ (scalar_lines ++ (u.block ++ r)))) u.right)))))) in
    standing_whole s c.v d.v p.block e.block t.block u.block
    (stands f.title c.v d.v p.block e.block t.block u.block s f.plain c.few (omega (arith, d.few)) p.long e.long t.long u.long k)

-- the number of cells as it is read
unfoldable pub cell_count : List ℕ → Result Counted Refusal
cell_count b =
    on_count (head_of b) Err
    (λ p q. on_place (line_at float_line (12 * p) b q) Err (λ points. counted_at cells_word b (points + 12 * p)))

module _ (b : List ℕ) where
  end_can : (at : ℕ) → end_at b at ≡ Err Cut → Can (drop at b) Last
  unfolding end_at Last
  end_can at =
      either_way (text_at feed b at) Err _ (λ r. r ≡ Err Cut → Can (drop at b) Last) (λ k d f. goes_on (text_cut feed b at (d ∙ f)))
      (λ z d f. absurd (no_cut z (ltb z (length b)) f))
    where
      goes_on : Missing feed (drop at b) → Can (drop at b) Last
      goes_on m = record { rest = m.rest; right = sym m.whole }

      no_cut : (z : ℕ) (t : Bool) → cond t (Err Trailing) (Ok z) ≡ Err Cut → ⊥
      no_cut z true f = other_stop (λ q. cc) f
      no_cut z false f = never_at Cut z (sym f)

  numbers_can : (p n points cells types : ℕ) → n < 2000000000 → numbers_on b p n points cells types ≡ Err Cut → Can (drop (types + 4 * n) b) (Numbers n)
  unfolding numbers_on
  numbers_can p n points cells types h =
      section_can data_word n scalar_lines (4 * n) Last b (types + 4 * n)
      (λ numbers. on_place (end_at b (numbers + 4 * n)) Err (λ q. Ok (record { p = p; n = n; points = points; cells = cells; types = types; numbers = numbers })))
      (omega arith) any_last
      (λ numbers. either_way (end_at b (numbers + 4 * n)) Err
      (λ q. Ok (record { p = p; n = n; points = points; cells = cells; types = types; numbers = numbers }))
      (λ r. r ≡ Err Cut → Can (drop (numbers + 4 * n) b) Last) (λ k d e. end_can (numbers + 4 * n) (d ∙ ap Err (stop_is e))) (λ q d e. absurd (found_never e)))

  types_can : (p n points cells : ℕ) → n < 2000000000 → types_on b p n points cells ≡ Err Cut → Can (drop (cells + 20 * n) b) (Types n)
  unfolding types_on
  types_can p n points cells h =
      section_can types_word n feed (4 * n) (Numbers n) b (cells + 20 * n) (numbers_on b p n points cells) (omega arith) (any _ _ Last any_last)
      (λ types e. numbers_can p n points cells types h e)

  cells_can : (p n points at : ℕ) → n < 2000000000 → cells_on b p n points at ≡ Err Cut → Can (drop at b) (Cells n)
  unfolding cells_on
  cells_can p n points at h =
      section_can space (5 * n) feed (20 * n) (Types n) b at (types_on b p n points) (omega arith) (any_types n) (λ cells e. types_can p n points cells h e)

  module _ (few : (n next : ℕ) → cell_count b ≡ Ok (read n next) → n < 2000000000) where
    points_can : (p q : ℕ) → head_of b ≡ Ok (read p q) → points_on b p q ≡ Err Cut → Can (drop q b) (Points p)
    unfolding points_on cell_count
    points_can p q h =
        part_can float_line (12 * p) (Told cells_word 2000000000 Cells) b q
        (λ points. on_count (counted_at cells_word b (points + 12 * p)) Err (λ n z. cells_on b p n points z)) any_told_cells
        (λ points l. count_either_way (counted_at cells_word b (points + 12 * p)) Err (λ n z. cells_on b p n points z)
        (λ r. r ≡ Err Cut → Can (drop (points + 12 * p) b) (Told cells_word 2000000000 Cells))
        (λ k d e. counted_cut cells_word 2000000000 Cells b (points + 12 * p) (omega arith) (any_cells 0) (d ∙ ap Err (stop_is e)))
        (λ n z d e. behind points l n z d e))
      where
        behind : (points : ℕ) → line_at float_line (12 * p) b q ≡ Ok points → (n z : ℕ) → counted_at cells_word b (points + 12 * p) ≡ Ok (read n z)
            → cells_on b p n points z ≡ Err Cut → Can (drop (points + 12 * p) b) (Told cells_word 2000000000 Cells)
        behind points l n z d e =
            let s : n < 2000000000 =
            few n z (count_went (head_of b) Err _ p q h ∙ went (line_at float_line (12 * p) b q) Err _ points l ∙ d) in
            counted_on cells_word 2000000000 Cells b (points + 12 * p) n z d s (cells_can p n points z s e)

    head_on : (p q : ℕ) → head_of b ≡ Ok (read p q) → Can (drop q b) (Points p) → Can b Right
    unfolding joined
    head_on p q h c =
        let f = head_found b p q h in
        record {
          rest = c.rest;
          right = record {
            title = f.title;
            plain = f.plain;
            more = dataset_lines ++ (digits p ++ (drop q b ++ c.rest));
            bytes = ap (λ (s : List ℕ). s ++ c.rest) f.bytes ∙ joined_on (version_line ∷ f.title ∷ feed ∷ dataset_lines ∷ digits p ∷ []) (drop q b) c.rest;
            right = record { v = p; few = head_small b p q h; more = drop q b ++ c.rest; bytes = refl; right = c.right };
          };
        }

    -- the bytes up to a place are the first line, a title and its line feed
    title_on : (title : List ℕ) → is_title title ≡ true → (z : ℕ) → b ≡ version_line ++ (title ++ (feed ++ drop z b)) → Can (drop z b) (Told dataset_lines 10000000000 Points)
        → Can b Right
    unfolding joined
    title_on title h z e c = record {
      rest = c.rest;
      right = record {
        title = title;
        plain = h;
        more = drop z b ++ c.rest;
        bytes = ap (λ (s : List ℕ). s ++ c.rest) e ∙ joined_on (version_line ∷ title ∷ feed ∷ []) (drop z b) c.rest;
        right = c.right;
      };
    }

    any_dataset : Can [] (Told dataset_lines 10000000000 Points)
    any_dataset = any_told dataset_lines 10000000000 Points (omega arith) (any_points 0)

    in_version : Missing version_line b → Can b Right
    unfolding joined no_feed
    in_version m = record {
      rest = m.rest ++ (feed ++ any_dataset.rest);
      right = record {
        title = [];
        plain = refl;
        more = any_dataset.rest;
        bytes = sym (joined_on (b ∷ []) m.rest (feed ++ any_dataset.rest)) ∙ ap (λ (s : List ℕ). s ++ (feed ++ any_dataset.rest)) (sym m.whole);
        right = any_dataset.right;
      };
    }

    in_title : (q : ℕ) → text_at version_line b 0 ≡ Ok q → TitleCut 255 (drop q b) → Can b Right
    unfolding joined
    in_title q d t = record {
      rest = feed ++ any_dataset.rest;
      right = record {
        title = drop q b;
        plain = rw (le-leb (length (drop q b)) 255 t.short) t.plain;
        more = any_dataset.rest;
        bytes = ap (λ (s : List ℕ). s ++ (feed ++ any_dataset.rest)) (text_found version_line b 0 q d).bytes ∙ joined_on (version_line ∷ []) (drop q b) (feed ++ any_dataset.rest);
        right = any_dataset.right;
      };
    }

    head_cut : head_of b ≡ Err Cut → Can b Right
    unfolding head_of
    head_cut =
        either_way (text_at version_line b 0) Err _ (λ r. r ≡ Err Cut → Can b Right)
        (λ k d f. in_version (text_cut version_line b 0 (d ∙ ap Err (count_stop_is f))))
        (λ q d. either_way (title_at 255 b q) Err (counted_at dataset_lines b) (λ r. r ≡ Err Cut → Can b Right)
        (λ k e f. in_title q d (title_cut 255 b q (e ∙ ap Err (count_stop_is f))))
        (λ z e f. behind q d z (title_found 255 b q z e) (counted_cut dataset_lines 10000000000 Points b z (omega arith) (any_points 0) f)))
      where
        behind : (q : ℕ) → text_at version_line b 0 ≡ Ok q → (z : ℕ) → TitleHere 255 b q z → Can (drop z b) (Told dataset_lines 10000000000 Points) → Can b Right
        behind q d z t c =
            title_on t.title (rw (le-leb (length t.title) 255 t.short) t.plain) z
            ((text_found version_line b 0 q d).bytes ∙ ap (λ (s : List ℕ). version_line ++ s) t.bytes) c

    located_can : located_of b ≡ Err Cut → Can b Right
    unfolding located_of
    located_can =
        count_either_way (head_of b) Err (points_on b) (λ r. r ≡ Err Cut → Can b Right)
        (λ k d e. head_cut (d ∙ ap Err (stop_is e))) (λ p q d e. head_on p q d (points_can p q d e))

-- ---- what it says

-- some bytes behind a file make a whole one of it
pub record Completed (b : List ℕ) : Type 0 where
  pub byte : ℕ
  pub rest : List ℕ
  pub whole : Whole (b ++ (byte ∷ rest))

module _ (b : List ℕ) where
  -- a file that ends too soon, but for one that announces more cells than it can say the words of
  pub cut_completed : ((n next : ℕ) → cell_count b ≡ Ok (read n next) → n < 2000000000) → located_of b ≡ Err Cut → Completed b
  cut_completed few e = by_can (located_can b few e)
    where
      by_rest : (r : List ℕ) → Whole (b ++ r) → Completed b
      by_rest [] f = absurd (found_never (sym f.found ∙ ap located_of (append-nil b) ∙ e))
      by_rest (x ∷ r) f = record { byte = x; rest = r; whole = f }

      by_can : Can b Right → Completed b
      by_can c = by_rest c.rest (right_whole (b ++ c.rest) c.right)

  pub completed_cut : Completed b → located_of b ≡ Err Cut
  completed_cut c = found_front b c.byte c.rest c.whole.layout c.whole.found
