-- The step marks (rules R3.5, R3.6): what is refused and why, what is answered, and what the lent tables hold after. P is the table of points, C that of
-- cells, X that of crossing answers, Q that of probe answers, o the table for the marks, w the work, as lent.
use Rattle.std.specs.Prelude.{◌≡◌, cond, List, [], ◌∷◌, ◌++◌, ℕ, ◌+◌, ltb, Float, length, Result, Ok, Err}
use Rattle.lists.specs.Tables.{front, zeroed, on}
use Rattle.refusals.specs.Rows.{Row, first, unless}
use Rattle.refusals.specs.Causes.{room_rows}
use Rattle.refusals.specs.Refusals.{refused, error_number, error_values}
use Rattle.refusals.specs.declared.CountError.{CountError}
use Rattle.refusals.specs.declared.CountError.TheVariants.{Short}
use Rattle.mesh.specs.Mesh.{points_of, cells_of}
use Rattle.sorting.specs.Numbers.{cnt}
use Rattle.keep.specs.Step.{cover_rows}
use Rattle.marks.specs.Marks.{marks_of}
use Rattle.marks.specs.declared.Told.{Told}

-- those of keep_cover, with one work entry a cell and one a point
abbrev pub input_rows : Float → (P C X Q w : List ℕ) → List Row
input_rows c P C X Q w = cover_rows c (length P) C X Q (length w) 1

-- the refusals with their causes, in their order: those of what is taken, and then no room for the marks
abbrev pub marks_rows : Float → (P C X Q o w : List ℕ) → List Row
marks_rows c P C X Q o w = input_rows c P C X Q w ++ room_rows (length o) (cells_of C)

-- ---- the outcome

-- the number and values of each answer: rules 11.3, 11.4
abbrev pub number_of : Result Told CountError → ℕ
number_of (Ok told) = 0
number_of (Err e) = error_number e

abbrev pub values_of : Result Told CountError → List ℕ
values_of (Ok told) = told.kept ∷ told.dropped ∷ []
values_of (Err e) = error_values e

-- how many cells stay, and how many are dropped
abbrev pub kept_count : List ℕ → ℕ
kept_count M = cnt 1 M

abbrev pub dropped_count : List ℕ → ℕ
dropped_count M = cnt 2 M

-- the answer where nothing else is refused: short of room, or all
unfoldable pub stored_of : Float → (P C X Q o : List ℕ) → Result Told CountError
stored_of c P C X Q o =
    cond (ltb (length o) (cells_of C)) (Err (Short (cells_of C)))
    (Ok (record { kept = kept_count (marks_of c P C X Q); dropped = dropped_count (marks_of c P C X Q) }))

unfoldable pub told_of : Float → (P C X Q o w : List ℕ) → Result Told CountError
told_of c P C X Q o w = unless (first (input_rows c P C X Q w)) refused (stored_of c P C X Q o)

-- the table of marks after: one byte a cell in front on an answer, else as lent
abbrev pub marks_after : Result Told CountError → Float → (P C X Q o : List ℕ) → List ℕ
marks_after a c P C X Q o = on (0 ∷ []) (number_of a) (front (cells_of C) (marks_of c P C X Q) o) o

-- the work after: one entry a point and a cell zero on an answer and on 9, else as lent
abbrev pub work_after : Result Told CountError → (P C w : List ℕ) → List ℕ
work_after a P C w = on (0 ∷ 9 ∷ []) (number_of a) (zeroed (points_of P + cells_of C) w) w

pub record MarksDone (c : Float) (P C X Q o w : List ℕ) (r : Result Told CountError) (o' w' : List ℕ) : Type 0 where
  pub answer : r ≡ told_of c P C X Q o w
  pub marks : o' ≡ marks_after (told_of c P C X Q o w) c P C X Q o
  pub work : w' ≡ work_after (told_of c P C X Q o w) P C w
