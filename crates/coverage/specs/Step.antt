-- The step add_coverage (rules R3.1 to R3.4): what is refused and why, and what is answered. t are the totals handed in; T is the table of triples, C that
-- of cells, and M that of marks: 0 for a cell that is not marked, 1 for one kept or exchanged, 2 for one dropped.
use Rattle.std.specs.Prelude.{◌≡◌, Bool, cond, not, List, [], ◌∷◌, ◌++◌, ℕ, ◌+◌, ◌/◌, ◌^◌, eqb, length, get_or, Result, Ok, Err}
use Rattle.sorting.specs.Numbers.{cnt}
use Rattle.lists.specs.Runs.{sums}
use Rattle.lists.specs.Tables.{all_below, all_at_most}
use Rattle.refusals.specs.Rows.{Row, ◌when◌, first, unless}
use Rattle.refusals.specs.Causes.{each_rows}
use Rattle.refusals.specs.Refusals.{as_number, as_refusal}
use Rattle.mesh.specs.Mesh.{cells_of}
use Rattle.mesh.specs.Judged.{size_rows, name_rows}
use Rattle.tiling.specs.Tables.{six_at, table_six}
use Rattle.coverage.specs.declared.Totals.{Totals}
use Rattle.coverage.specs.declared.Uncovered.{Uncovered}

-- ---- what a grid adds

-- the six-fold volume of the cell i where it is kept
abbrev pub kept_at : List ℕ → List ℕ → List ℕ → ℕ → ℕ
kept_at T C M i = cond (eqb (get_or M i 0) 1) (six_at T C i) 0

unfoldable pub gained : List ℕ → List ℕ → List ℕ → Totals
gained T C M = record {
  cells = cells_of C;
  kept = cnt 1 M;
  dropped = cnt 2 M;
  sixfold_kept = sums (cells_of C) (kept_at T C M) 0;
  sixfold_all = table_six T C (cells_of C);
}

-- whole numbers, which do not wrap
unfoldable pub plus : Totals → Totals → Totals
plus t u = record {
  cells = t.cells + u.cells;
  kept = t.kept + u.kept;
  dropped = t.dropped + u.dropped;
  sixfold_kept = t.sixfold_kept + u.sixfold_kept;
  sixfold_all = t.sixfold_all + u.sixfold_all;
}

-- the totals with one more grid
abbrev pub grown : Totals → List ℕ → List ℕ → List ℕ → Totals
grown t T C M = plus t (gained T C M)

-- the five numbers
abbrev pub values : Totals → List ℕ
values t = t.cells ∷ t.kept ∷ t.dropped ∷ t.sixfold_kept ∷ t.sixfold_all ∷ []

-- each fits 64 bits
unfoldable pub fits : Totals → Bool
fits t = all_below (2 ^ 64) (values t)

-- ---- the refusals in their order

-- a mark above 2
unfoldable pub mark_rows : List ℕ → List Row
mark_rows M = 6 when not (all_at_most 2 M) ∷ []

-- a coordinate above 4,096, whether a cell names it or not
unfoldable pub coordinate_rows : List ℕ → List Row
coordinate_rows T = 16 when not (all_at_most 4096 T) ∷ []

-- a total that does not fit
unfoldable pub total_rows : Totals → List Row
total_rows t = 16 when not (fits t) ∷ []

-- the tables: no work is asked, and one mark a cell
unfoldable pub table_rows : List ℕ → List ℕ → List ℕ → List Row
table_rows T C M =
    size_rows (length T) (length C) 0 0 0
    ++ (each_rows (cells_of C) (length M)
    ++ (mark_rows M
    ++ (name_rows (length T / 3) C
    ++ coordinate_rows T)))

abbrev pub coverage_rows : Totals → List ℕ → List ℕ → List ℕ → List Row
coverage_rows t T C M = table_rows T C M ++ total_rows (grown t T C M)

-- ---- the answer

-- its number, and the totals that it carries: on a refusal those handed in
abbrev pub number_of : Result Totals Uncovered → ℕ
number_of (Ok t) = 0
number_of (Err e) = as_number e.why

abbrev pub totals_of : Result Totals Uncovered → Totals
totals_of (Ok t) = t
totals_of (Err e) = e.totals

abbrev pub values_of : Result Totals Uncovered → List ℕ
values_of r = values (totals_of r)

-- a refusal by its number, and the totals that it hands back
abbrev pub refused : Totals → ℕ → Result Totals Uncovered
refused t number = Err (record { why = as_refusal number; totals = t })

-- the first refusal, or the totals u
abbrev pub answer_of : List Row → Totals → Totals → Result Totals Uncovered
answer_of rows t u = unless (first rows) (refused t) (Ok u)

abbrev pub coverage_of : Totals → List ℕ → List ℕ → List ℕ → Result Totals Uncovered
coverage_of t T C M = answer_of (coverage_rows t T C M) t (grown t T C M)

pub record CoverageDone (t : Totals) (T C M : List ℕ) (r : Result Totals Uncovered) : Type 0 where
  pub answer : r ≡ coverage_of t T C M
