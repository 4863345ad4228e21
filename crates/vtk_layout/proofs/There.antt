-- The layout of a file that is written is found. Assumes nothing.
use mathlib.Core.Path.{◌≡◌, refl, sym, ap, ◌∙◌}
use mathlib.Core.Bool.{true, false, not}
use mathlib.Core.List.{List, [], ◌∷◌, ◌++◌}
use Prim.Native.Nat.{ℕ, zero, suc, ◌+◌, ◌*◌, ◌≤◌, ◌<◌}
use native.Mathlib.Nat.{not-suc-le-zero}
use native.Mathlib.Numerals.{add-one}
use native.Mathlib.Omega.{arith}
use borrow.Author.Tests.{le-ltb, leb-true, eqb-false, not-true}
use lib.Dec.{eqb, leb}
use lib.ListN.{length, get_or, take, drop, length-append, length-drop}
use lib.Seq.{take_at}
use Rattle.lists.proofs.Bools.{and_left, and_right}
use Rattle.decimal.specs.Text.{text_of, text_at}
use Rattle.decimal.specs.Digits.{digits, is_digit, read}
use Rattle.decimal.proofs.Texts.{text_there, number_low, drop_on, in_file, went}
use Rattle.decimal.proofs.Counts.{count_there, count_went}
use Rattle.std.specs.Prelude.{Result, Ok, Err}
use Rattle.decimal.specs.declared.Counted.{Counted}
use Rattle.refusals.specs.declared.Refusal.{Refusal}
use Rattle.vtk_layout.proofs.Parts.{title_feed, title_next, block_there}
use Rattle.vtk_layout.specs.Texts.{feed, space, version_line, dataset_lines, float_line, cells_word, types_word, data_word, scalar_lines}
use Rattle.vtk_layout.specs.Layout.{no_feed, is_title, written, title_at, line_at, section_at, counted_at, head_of, end_at, numbers_on, types_on, cells_on, points_on, located_of}
use Rattle.vtk_layout.specs.declared.Layout.{Layout}

-- a part that is there, and what is left behind it
record Passed (p : Result ℕ Refusal) (b rest : List ℕ) : Type 0 where
  place : ℕ
  here : p ≡ Ok place
  left : drop place b ≡ rest

text_passed : (t rest b : List ℕ) (at : ℕ) → drop at b ≡ t ++ rest → Passed (text_at t b at) b rest
text_passed t rest b at e = record { place = at + length t; here = text_there t rest b at e; left = drop_on t rest b at e }

title_passed : (t rest b : List ℕ) (k at : ℕ) → length t ≤ k → no_feed t ≡ true → drop at b ≡ t ++ (feed ++ rest) → Passed (title_at k b at) b rest
unfolding title_at no_feed feed text_of
title_passed [] rest b zero at h n e = text_passed feed rest b at e
title_passed [] rest b (suc k) at h n e =
    let i = in_file b 10 rest at e in
    record {
      place = at + 1;
      here = title_feed b at (suc k) (omega arith) i.0 i.1;
      left = drop_on (10 ∷ []) rest b at e;
    }
title_passed (y ∷ t) rest b zero at h n e = absurd (not-suc-le-zero h)
title_passed (y ∷ t) rest b (suc k) at h n e =
    let i = in_file b y (t ++ (feed ++ rest)) at e in
    let d : y ≡ 10 → ⊥ = eqb-false y 10 (not-true (eqb y 10) (and_left (not (eqb y 10)) (no_feed t) n)) in
    let r = title_passed t rest b k (suc at) (omega arith) (and_right (not (eqb y 10)) (no_feed t) n) (ap (λ (j : ℕ). drop j b) (sym (add-one at)) ∙ drop_on (y ∷ []) (t ++ (feed ++ rest)) b at e) in
    record { place = r.place; here = title_next k b at i.0 (λ q. d (sym i.1 ∙ q)) ∙ r.here; left = r.left }

line_passed : (t x rest b : List ℕ) (size at : ℕ) → length x ≡ size → 0 < length rest → drop at b ≡ t ++ (x ++ rest) → Passed (line_at t size b at) b (x ++ rest)
unfolding line_at
line_passed t x rest b size at l h e =
    let p = text_passed t (x ++ rest) b at e in
    let fits : p.place + size ≤ length b = omega (arith, simp (length-append, length-drop) at (ap length p.left)) in
    record { place = p.place; here = went _ Err _ p.place p.here ∙ block_there size b p.place fits; left = p.left }

section_passed : (before : List ℕ) (n : ℕ) (after x rest b : List ℕ) (size at : ℕ) → n < 10000000000 → length x ≡ size → 0 < length rest
    → drop at b ≡ before ++ (digits n ++ (after ++ (x ++ rest))) → Passed (section_at before n after size b at) b (x ++ rest)
unfolding section_at
section_passed before n after x rest b size at s l h e =
    let p = text_passed before (digits n ++ (after ++ (x ++ rest))) b at e in
    let q = text_passed (digits n) (after ++ (x ++ rest)) b p.place p.left in
    let r = line_passed after x rest b size q.place l h q.left in
    record {
      place = r.place;
      here = went _ Err _ p.place p.here ∙ went _ Err _ q.place (number_low n b p.place s ∙ q.here) ∙ r.here;
      left = r.left;
    }

-- a count that is there, and what is left behind it
record Told (c : Result Counted Refusal) (v : ℕ) (b rest : List ℕ) : Type 0 where
  place : ℕ
  here : c ≡ Ok (read v place)
  left : drop place b ≡ rest

counted_told : (t rest b : List ℕ) (v at : ℕ) → v < 10000000000 → is_digit (get_or rest 0 0) ≡ false → drop at b ≡ t ++ (digits v ++ rest) → Told (counted_at t b at) v b rest
unfolding counted_at
counted_told t rest b v at s n e =
    let p = text_passed t (digits v ++ rest) b at e in
    record {
      place = p.place + length (digits v);
      here = went _ Err _ p.place p.here ∙ count_there v rest b p.place s p.left n;
      left = drop_on (digits v) rest b p.place p.left;
    }

-- the layout that is found, and the blocks at its places
pub record Standing (b : List ℕ) (p n : ℕ) (P C T N : List ℕ) : Type 0 where
  pub points : ℕ
  pub cells : ℕ
  pub types : ℕ
  pub numbers : ℕ
  pub found : located_of b ≡ Ok (record { p = p; n = n; points = points; cells = cells; types = types; numbers = numbers })
  pub points_are : take (12 * p) (drop points b) ≡ P
  pub cells_are : take (20 * n) (drop cells b) ≡ C
  pub types_are : take (4 * n) (drop types b) ≡ T
  pub numbers_are : take (4 * n) (drop numbers b) ≡ N

-- a whole file: its layout is found
pub record Whole (b : List ℕ) : Type 0 where
  pub layout : Layout
  pub found : located_of b ≡ Ok layout

pub standing_whole : (b : List ℕ) (p n : ℕ) (P C T N : List ℕ) → Standing b p n P C T N → Whole b
standing_whole b p n P C T N s = record {
  layout = record { p = p; n = n; points = s.points; cells = s.cells; types = s.types; numbers = s.numbers };
  found = s.found;
}

module _ (title : List ℕ) (p n : ℕ) (P C T N b : List ℕ) where
  last : List ℕ
  last = data_word ++ (digits n ++ (scalar_lines ++ (N ++ feed)))

  third : List ℕ
  third = types_word ++ (digits n ++ (feed ++ (T ++ last)))

  second : List ℕ
  second = cells_word ++ (digits n ++ (space ++ (digits (5 * n) ++ (feed ++ (C ++ third)))))

  -- what follows a block starts with a line feed
  more_last : 0 < length last
  unfolding last data_word text_of
  more_last = omega arith

  more_third : 0 < length third
  unfolding third types_word text_of
  more_third = omega arith

  more_second : 0 < length second
  unfolding second cells_word text_of
  more_second = omega arith

  more_feed : 0 < length feed
  unfolding feed text_of
  more_feed = omega arith

  no_digit : (s : List ℕ) → is_digit (get_or (float_line ++ s) 0 0) ≡ false
  unfolding float_line text_of
  no_digit s = refl

  no_digit_2 : (s : List ℕ) → is_digit (get_or (space ++ s) 0 0) ≡ false
  unfolding space text_of
  no_digit_2 s = refl

  end_here : (at : ℕ) → drop at b ≡ feed → Passed (end_at b at) b []
  unfolding end_at feed text_of
  end_here at e =
      let r = text_passed feed [] b at e in
      let h : length b ≤ r.place = omega (arith, simp length-drop at (ap length r.left)) in
      record { place = r.place; here = went _ Err _ r.place r.here ∙ rw (le-ltb r.place (length b) h); left = r.left }

  module _ (t : is_title title ≡ true) (sp : p < 10000000000) (sn : 5 * n < 10000000000) (lp : length P ≡ 12 * p) (lc : length C ≡ 20 * n) (lt : length T ≡ 4 * n) (ln : length N ≡ 4 * n) where
    module _ (h3 : Told (head_of b) p b (float_line ++ (P ++ second))) where
      module _ (h4 : Passed (line_at float_line (12 * p) b h3.place) b (P ++ second)) where
        module _ (h5 : Told (counted_at cells_word b (h4.place + 12 * p)) n b (space ++ (digits (5 * n) ++ (feed ++ (C ++ third))))) where
          module _ (h6 : Passed (section_at space (5 * n) feed (20 * n) b h5.place) b (C ++ third)) where
            module _ (h7 : Passed (section_at types_word n feed (4 * n) b (h6.place + 20 * n)) b (T ++ last)) where
              module _ (h8 : Passed (section_at data_word n scalar_lines (4 * n) b (h7.place + 4 * n)) b (N ++ feed)) where
                found_8 : (y : ℕ) → end_at b (h8.place + 4 * n) ≡ Ok y → numbers_on b p n h4.place h6.place h7.place ≡ Ok (record { p = p; n = n; points = h4.place; cells = h6.place; types = h7.place; numbers = h8.place })
                unfolding numbers_on
                found_8 y e = went _ Err _ h8.place h8.here ∙ went _ Err _ y e

                found_7 : (y : ℕ) → end_at b (h8.place + 4 * n) ≡ Ok y → cells_on b p n h4.place h5.place ≡ Ok (record { p = p; n = n; points = h4.place; cells = h6.place; types = h7.place; numbers = h8.place })
                unfolding cells_on types_on
                found_7 y e = went _ Err _ h6.place h6.here ∙ went _ Err _ h7.place h7.here ∙ found_8 y e

                found_all : (y : ℕ) → end_at b (h8.place + 4 * n) ≡ Ok y → located_of b ≡ Ok (record { p = p; n = n; points = h4.place; cells = h6.place; types = h7.place; numbers = h8.place })
                unfolding located_of points_on
                found_all y e =
                    count_went _ Err _ p h3.place h3.here ∙ went _ Err _ h4.place h4.here
                    ∙ count_went _ Err _ n h5.place h5.here
                    ∙ found_7 y e

                from_8 : Standing b p n P C T N
                from_8 =
                    let a : drop (h8.place + 4 * n) b ≡ feed = ap (λ (k : ℕ). drop (h8.place + k) b) (sym ln) ∙ drop_on N feed b h8.place h8.left in
                    let h9 = end_here (h8.place + 4 * n) a in
                    record {
                      points = h4.place;
                      cells = h6.place;
                      types = h7.place;
                      numbers = h8.place;
                      found = found_all h9.place h9.here;
                      points_are = ap (take (12 * p)) h4.left ∙ take_at P second (12 * p) lp;
                      cells_are = ap (take (20 * n)) h6.left ∙ take_at C third (20 * n) lc;
                      types_are = ap (take (4 * n)) h7.left ∙ take_at T last (4 * n) lt;
                      numbers_are = ap (take (4 * n)) h8.left ∙ take_at N feed (4 * n) ln;
                    }

              from_7 : Standing b p n P C T N
              unfolding last
              from_7 =
                  from_8
                  (section_passed data_word n scalar_lines N feed b (4 * n) (h7.place + 4 * n) (omega arith) ln more_feed
                  (ap (λ (k : ℕ). drop (h7.place + k) b) (sym lt) ∙ drop_on T last b h7.place h7.left))

            from_6 : Standing b p n P C T N
            unfolding third
            from_6 =
                from_7
                (section_passed types_word n feed T last b (4 * n) (h6.place + 20 * n) (omega arith) lt more_last
                (ap (λ (k : ℕ). drop (h6.place + k) b) (sym lc) ∙ drop_on C third b h6.place h6.left))

          from_5 : Standing b p n P C T N
          from_5 = from_6 (section_passed space (5 * n) feed C third b (20 * n) h5.place sn lc more_third h5.left)

        from_4 : Standing b p n P C T N
        unfolding second
        from_4 =
            from_5
            (counted_told cells_word (space ++ (digits (5 * n) ++ (feed ++ (C ++ third)))) b n (h4.place + 12 * p) (omega arith) (no_digit_2 (digits (5 * n) ++ (feed ++ (C ++ third))))
            (ap (λ (k : ℕ). drop (h4.place + k) b) (sym lp) ∙ drop_on P second b h4.place h4.left))

      from_3 : Standing b p n P C T N
      from_3 = from_4 (line_passed float_line P second b (12 * p) h3.place lp more_second h3.left)

    first_told : b ≡ version_line ++ (title ++ (feed ++ (dataset_lines ++ (digits p ++ (float_line ++ (P ++ second)))))) → Told (head_of b) p b (float_line ++ (P ++ second))
    unfolding head_of
    first_told e = in_head (text_passed version_line (title ++ (feed ++ (dataset_lines ++ (digits p ++ (float_line ++ (P ++ second)))))) b 0 e)
      where
        in_title : (h1 : Passed (text_at version_line b 0) b (title ++ (feed ++ (dataset_lines ++ (digits p ++ (float_line ++ (P ++ second)))))))
            (h2 : Passed (title_at 255 b h1.place) b (dataset_lines ++ (digits p ++ (float_line ++ (P ++ second))))) → Told (head_of b) p b (float_line ++ (P ++ second))
        in_title h1 h2 =
            let h = counted_told dataset_lines (float_line ++ (P ++ second)) b p h2.place sp (no_digit (P ++ second)) h2.left in
            record {
              place = h.place;
              here = went _ Err _ h1.place h1.here ∙ went _ Err _ h2.place h2.here ∙ h.here;
              left = h.left;
            }

        in_head : Passed (text_at version_line b 0) b (title ++ (feed ++ (dataset_lines ++ (digits p ++ (float_line ++ (P ++ second)))))) → Told (head_of b) p b (float_line ++ (P ++ second))
        in_head h1 =
            in_title h1
            (title_passed title (dataset_lines ++ (digits p ++ (float_line ++ (P ++ second)))) b 255 h1.place
            (leb-true (length title) 255 (and_left (leb (length title) 255) (no_feed title) t)) (and_right (leb (length title) 255) (no_feed title) t) h1.left)

    -- a file that is written is found, with its blocks at the places
    pub stands : b ≡ written title p n P C T N → Standing b p n P C T N
    unfolding written second third last
    stands e = from_3 (first_told e)
