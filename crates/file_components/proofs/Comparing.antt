-- Cells and numbers that stand in a file. Assumes nothing.
use mathlib.Core.Path.{◌≡◌, refl, sym, ap, ◌∙◌}
use mathlib.Core.Logic.{◌⊎◌, ◌≢◌}
use mathlib.Core.Bool.{Bool, true, false}
use mathlib.Core.List.{List}
use Prim.Native.Nat.{ℕ, ◌+◌, ◌*◌, ◌≤◌, ◌<◌}
use native.Mathlib.Nat.{add-zero}
use native.Mathlib.Omega.{arith}
use lib.ListN.{length, get_or, take, drop, replicate}
use Rattle.mesh.specs.Mesh.{cells_of, Cells, cell_of}
use Rattle.mesh.specs.declared.Cell.{Cell}
use Rattle.lists.specs.Tables.{same, all_below}
use Rattle.lists.proofs.Listing.{same_on, same_off, same_end, same_length}
use Rattle.words.specs.Words.{word_at, words_at}
use Rattle.words.proofs.Words.{length_words, words_at_lem, length_cells, vertex_at}
use Rattle.mesh.proofs.Named.{cell_is}
use Rattle.links.proofs.Vertexes.{four_asked}
use Rattle.links.specs.Parts.{Forest, FourAsked}
use Rattle.components.specs.Numbers.{component_numbers}
use Rattle.components.specs.Parts.{Askable, NumberedAt, Linked}
use Rattle.components.proofs.Patterns.{length_components}
use Rattle.components.proofs.Counting.{alike_numbers}
use Rattle.components.proofs.Numbering.{Numbering, numbering_start, asks_for, number_is, numbering_on}
use Rattle.file_components.specs.Blocks.{cells_in, numbers_in, right_numbers}
use Rattle.file_components.specs.declared.Blocks.{Blocks}

module _ (b : List ℕ) (s : Blocks) where
  abbrev C : List ℕ
  C = cells_in b s

  abbrev N : List ℕ
  N = component_numbers C s.n

  cells_long : length C ≡ 4 * s.n
  cells_long = length_cells s.big s.stride b s.cells s.n

  numbers_long : length (numbers_in b s) ≡ s.m
  numbers_long = length_words s.big b s.numbers s.m

  -- as many as are said
  pub cells_in_lem : cells_of C ≡ s.n
  cells_in_lem = omega (arith, cells_long)

  -- a word that was read is a vertex of the cell i
  pub vertex_is : (i k : ℕ) {x y : ℕ} → i < s.n → k < 4 → x ≡ y → y ≡ word_at s.big b (s.cells + 4 * (s.stride * i) + 4 * k) → x ≡ get_or C (i * 4 + k) 0
  vertex_is i k h l e f =
      let m : 4 * i + k ≡ i * 4 + k = omega arith in
      e ∙ f ∙ sym (vertex_at s.big s.stride b s.cells s.n i k h l) ∙ ap (λ (j : ℕ). get_or C j 0) m

  pub first_is : (i : ℕ) {x y : ℕ} → i < s.n → x ≡ y → y ≡ word_at s.big b (s.cells + 4 * (s.stride * i)) → x ≡ get_or C (i * 4) 0
  first_is i h e f =
      let z : s.cells + 4 * (s.stride * i) ≡ s.cells + 4 * (s.stride * i) + 4 * 0 = omega arith in
      let m : i * 4 + 0 ≡ i * 4 = omega arith in
      vertex_is i 0 h (omega arith) e (f ∙ ap (word_at s.big b) z) ∙ ap (λ (j : ℕ). get_or C j 0) m

  -- the four words that were read at once are the cell
  pub cell_read : {i : ℕ} {q : List ℕ} → i < s.n → q ≡ words_at s.big b (s.cells + 4 * (s.stride * i)) 4
      → ◌≡◌ {A = Cell} (record { a = get_or q 0 0; b = get_or q 1 0; c = get_or q 2 0; d = get_or q 3 0 }) (cell_of C i)
  cell_read {i} {q} h e = cell_is C i (i * 4) (omega arith) (nth 0 (omega arith) ∙ ap (λ (j : ℕ). get_or C j 0) (add-zero (i * 4))) (nth 1 (omega arith)) (nth 2 (omega arith)) (nth 3 (omega arith))
    where
      nth : (k : ℕ) → k < 4 → get_or q k 0 ≡ get_or C (i * 4 + k) 0
      nth k l = vertex_is i k h l (ap (λ (r : List ℕ). get_or r k 0) e) (words_at_lem s.big b (s.cells + 4 * (s.stride * i)) 4 k l)

  pub cell_asks : {i : ℕ} {P : List ℕ} {k : Cell} → i < s.n → Cells C (length P) → Forest P → k ≡ cell_of C i → FourAsked P k
  cell_asks h v f e = four_asked (record { cells = v; forest = f; inside = omega (arith, cells_in_lem) }) e

  -- numbers that are not as many are not right
  pub uneven : s.m ≢ s.n → false ≡ right_numbers b s
  uneven d = sym (same_length (numbers_in b s) N (λ e. d (sym numbers_long ∙ e ∙ length_components C s.n)))

  -- ---- the turn of `compare`

  pub record Comparing (w : List ℕ) (n count i : ℕ) : Type 0 where
    pub numbering : Numbering C w n count i
    pub left : right_numbers b s ≡ same (drop i (numbers_in b s)) (drop i N)

  module _ (even : s.m ≡ s.n) where
    pub comparing_start : {w : List ℕ} {n : ℕ} → Linked C w n → Comparing w n 0 0
    comparing_start l = record { numbering = numbering_start l; left = refl }

    module _ {w : List ℕ} {n count i : ℕ} (l : Comparing w n count i) where
      module _ (h : i < s.n) {v : ℕ} (ev : v ≡ get_or C (i * 4) 0) where
        i_in : i < cells_of C
        i_in = omega (arith, cells_in_lem)

        pub comparing_asks : Askable n w v count
        comparing_asks = asks_for l.numbering i_in v ev

        module _ (w' : List ℕ) (k : ℕ) (kept : length w' ≡ length w) (a : NumberedAt n w w' v count k) {x y : ℕ} (ex : x ≡ y) (ey : y ≡ word_at s.big b (s.numbers + 4 * i)) where
          k_is : k ≡ get_or N i 0
          k_is = number_is l.numbering i_in v ev w' k kept a ∙ ap (λ (m : ℕ). get_or (component_numbers C m) i 0) cells_in_lem

          x_is : x ≡ get_or (numbers_in b s) i 0
          x_is = ex ∙ ey ∙ sym (words_at_lem s.big b s.numbers s.m i (omega arith))

          in_w : i < length (numbers_in b s)
          in_w = omega (arith, numbers_long)

          in_n : i < length N
          in_n = omega (arith, length_components C s.n)

          pub comparing_off : x ≢ k → false ≡ right_numbers b s
          comparing_off d = sym (l.left ∙ same_off (numbers_in b s) N i in_w in_n (λ e. d (x_is ∙ e ∙ sym k_is)))

          pub comparing_on : x ≡ k → (count' : ℕ) → ((k ≡ count) × (count' ≡ count + 1)) ⊎ ((k ≢ count) × (count' ≡ count)) → Comparing w' n count' (i + 1)
          comparing_on e count' c = record {
            numbering = numbering_on l.numbering i_in v ev w' k kept a count' c;
            left = l.left ∙ same_on (numbers_in b s) N i in_w in_n (sym x_is ∙ e ∙ k_is);
          }

      pub comparing_end : s.n ≤ i → true ≡ right_numbers b s
      comparing_end h = sym (l.left ∙ same_end (numbers_in b s) N i (omega (arith, numbers_long)) (omega (arith, length_components C s.n)))

    -- the numbers where all points are in one group
    pub alike_told : {w : List ℕ} {n : ℕ} {r : Bool} → Linked C w n → all_below 1 (take n w) ≡ true
        → r ≡ same (words_at s.big b s.numbers s.n) (replicate s.n 0) → r ≡ right_numbers b s
    alike_told {w} {n} l z e =
        e ∙ ap (λ (m : ℕ). same (words_at s.big b s.numbers m) (replicate s.n 0)) (sym even)
        ∙ ap (same (numbers_in b s)) (sym (ap (component_numbers C) (sym cells_in_lem) ∙ alike_numbers C w n l z ∙ ap (λ (m : ℕ). replicate m 0) cells_in_lem))
