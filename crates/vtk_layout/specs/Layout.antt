-- The viewer's file: legacy VTK, version 3.0, BINARY, UNSTRUCTURED_GRID. The order of its parts, as it is written and as it is read.
-- b is the list of a file's bytes, p and n are its numbers of points and of cells.
use Rattle.std.specs.Prelude.{Bool, true, cond, not, ◌&&◌, List, [], ◌∷◌, ◌++◌, ℕ, zero, suc, ◌+◌, ◌*◌, eqb, ltb, leb, length, get_or, Result, Ok, Err}
use Rattle.decimal.specs.Text.{text_at, on_place}
use Rattle.decimal.specs.Digits.{digits, number_at, count_at, on_count}
use Rattle.decimal.specs.declared.Counted.{Counted}
use Rattle.refusals.specs.declared.Refusal.{Refusal}
use Rattle.refusals.specs.declared.Refusal.TheVariants.{Cut, Trailing}
use Rattle.vtk_layout.specs.Texts.{feed, version_line, dataset_lines, float_line, cells_word, space, types_word, data_word, scalar_lines}
use Rattle.vtk_layout.specs.declared.Layout.{Layout}

-- ---- as it is written

-- a title: at most 255 bytes, none of them a line feed
unfoldable pub no_feed : List ℕ → Bool
no_feed [] = true
no_feed (x ∷ t) = not (eqb x 10) && no_feed t

abbrev pub is_title : List ℕ → Bool
is_title t = leb (length t) 255 && no_feed t

-- a file with this title and these blocks: points, cells, cell types, component numbers
unfoldable pub written : List ℕ → ℕ → ℕ → List ℕ → List ℕ → List ℕ → List ℕ → List ℕ
written title p n points cells types numbers =
    version_line ++ (title ++ (feed
    ++ (dataset_lines ++ (digits p ++ (float_line ++ (points
    ++ (cells_word ++ (digits n ++ (space ++ (digits (5 * n) ++ (feed ++ (cells
    ++ (types_word ++ (digits n ++ (feed ++ (types
    ++ (data_word ++ (digits n ++ (scalar_lines ++ (numbers
    ++ feed))))))))))))))))))))

-- ---- as it is read, from the front: 14 at the first byte that departs, 11 where the file ends before any does

-- a title of at most k bytes that are no line feed, and a line feed
unfoldable pub title_at : ℕ → List ℕ → ℕ → Result ℕ Refusal
title_at zero b at = text_at feed b at
title_at (suc k) b at = cond (ltb at (length b)) (cond (eqb (get_or b at 0) 10) (Ok (suc at)) (title_at k b (suc at))) (Err Cut)

-- a block of so many bytes that is there: where it starts
unfoldable pub block_at : ℕ → List ℕ → ℕ → Result ℕ Refusal
block_at size b at = cond (ltb (length b) (at + size)) (Err Cut) (Ok at)

-- a text and the block behind it; header lines with a number and the block behind them
unfoldable pub line_at : List ℕ → ℕ → List ℕ → ℕ → Result ℕ Refusal
line_at text size b at = on_place (text_at text b at) Err (block_at size b)

unfoldable pub section_at : List ℕ → ℕ → List ℕ → ℕ → List ℕ → ℕ → Result ℕ Refusal
section_at before n after size b at =
    on_place (text_at before b at) Err (λ q. on_place (number_at n b q) Err (line_at after size b))

-- a text and the count behind it; the first of the two counts
unfoldable pub counted_at : List ℕ → List ℕ → ℕ → Result Counted Refusal
counted_at before b at = on_place (text_at before b at) Err (count_at b)

unfoldable pub head_of : List ℕ → Result Counted Refusal
head_of b = on_place (text_at version_line b 0) Err (λ q. on_place (title_at 255 b q) Err (counted_at dataset_lines b))

-- the last line feed; 12 where bytes follow it
unfoldable pub end_at : List ℕ → ℕ → Result ℕ Refusal
end_at b at = on_place (text_at feed b at) Err (λ q. cond (ltb q (length b)) (Err Trailing) (Ok q))

-- from each block's header on, the last first
unfoldable pub numbers_on : List ℕ → ℕ → ℕ → ℕ → ℕ → ℕ → Result Layout Refusal
numbers_on b p n points cells types =
    on_place (section_at data_word n scalar_lines (4 * n) b (types + 4 * n)) Err
    (λ numbers. on_place (end_at b (numbers + 4 * n)) Err (λ q. Ok (record { p = p; n = n; points = points; cells = cells; types = types; numbers = numbers })))

unfoldable pub types_on : List ℕ → ℕ → ℕ → ℕ → ℕ → Result Layout Refusal
types_on b p n points cells = on_place (section_at types_word n feed (4 * n) b (cells + 20 * n)) Err (numbers_on b p n points cells)

unfoldable pub cells_on : List ℕ → ℕ → ℕ → ℕ → ℕ → Result Layout Refusal
cells_on b p n points at = on_place (section_at space (5 * n) feed (20 * n) b at) Err (types_on b p n points)

unfoldable pub points_on : List ℕ → ℕ → ℕ → Result Layout Refusal
points_on b p at =
    on_place (line_at float_line (12 * p) b at) Err
    (λ points. on_count (counted_at cells_word b (points + 12 * p)) Err (λ n q. cells_on b p n points q))

-- the whole file
unfoldable pub located_of : List ℕ → Result Layout Refusal
located_of b = on_count (head_of b) Err (points_on b)
