-- The mesh that is kept of marked cells: what is refused, what is answered, and what the result tables hold after. P is the table of points,
-- F are the cells that stay, before compaction, p and q the tables lent for the points and the cells that are kept.
use Rattle.std.specs.Prelude.{cond, List, [], ◌∷◌, ◌++◌, ℕ, ◌*◌, ◌/◌, eqb, ltb, length, Result, Ok, Err}
use Rattle.lists.specs.Tables.{front, on}
use Rattle.refusals.specs.Rows.{Row, ◌when◌}
use Rattle.refusals.specs.Causes.{room_rows}
use Rattle.marked.specs.Used.{used_of, renumbered, points_at}
use Rattle.refusals.specs.Refusals.{as_number, as_refusal}
use Rattle.refusals.specs.declared.Refusal.TheVariants.{NothingKept}
use Rattle.marked.specs.declared.Kept.{Kept}
use Rattle.marked.specs.declared.KeepError.{KeepError}
use Rattle.marked.specs.declared.KeepError.TheVariants.{Refused, Short}

-- the number and values of each answer: rules 11.3, 11.4
abbrev pub number_of : Result Kept KeepError → ℕ
number_of (Ok kept) = 0
number_of (Err (Refused why)) = as_number why
number_of (Err (Short points cells)) = 9

abbrev pub values_of : Result Kept KeepError → List ℕ
values_of (Ok kept) = kept.points ∷ kept.cells ∷ kept.dropped ∷ []
values_of (Err (Refused why)) = []
values_of (Err (Short points cells)) = points ∷ cells ∷ []

-- a refusal by its number
abbrev pub refused : ℕ → Result Kept KeepError
refused number = Err (Refused (as_refusal number))

-- how many points are used, and how many cells stay
abbrev pub points_kept : List ℕ → ℕ
points_kept F = length (used_of F)

abbrev pub cells_kept : List ℕ → ℕ
cells_kept F = length F / 4

-- the refusals: no room for the points or for the cells, nothing kept
unfoldable pub kept_rows : List ℕ → List ℕ → List ℕ → List Row
kept_rows F p q =
    room_rows (length p / 3) (points_kept F) ++ (room_rows (length q / 4) (cells_kept F) ++ (10 when eqb (cells_kept F) 0 ∷ []))

-- and the answer, where so many were dropped
unfoldable pub kept_of : List ℕ → ℕ → List ℕ → List ℕ → Result Kept KeepError
kept_of F dropped p q =
    cond (ltb (length p / 3) (points_kept F)) (Err (Short (points_kept F) (cells_kept F)))
    (cond (ltb (length q / 4) (cells_kept F)) (Err (Short (points_kept F) (cells_kept F)))
    (cond (eqb (cells_kept F) 0) (Err (Refused NothingKept))
    (Ok (record { points = points_kept F; cells = cells_kept F; dropped = dropped }))))

-- the result tables after an answer a: the mesh in front where there is one, and else as lent
abbrev pub points_after : Result Kept KeepError → List ℕ → List ℕ → List ℕ → List ℕ
points_after a P F p = on (0 ∷ []) (number_of a) (front (3 * points_kept F) (points_at P (used_of F)) p) p

abbrev pub cells_after : Result Kept KeepError → List ℕ → List ℕ → List ℕ
cells_after a F q = on (0 ∷ []) (number_of a) (front (4 * cells_kept F) (renumbered F) q) q
