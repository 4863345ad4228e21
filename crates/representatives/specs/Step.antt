-- The step `representatives` (rules 7.2, 7.3): what is refused and why, what is answered, and what the lent tables hold after.
-- P is the table of points, C that of cells, X that of crossing answers, o that of numbers, z that of centroids, w the work, as lent.
use Rattle.std.specs.Prelude.{◌≡◌, cond, List, [], ◌∷◌, ◌++◌, ℕ, ◌+◌, ◌*◌, ◌/◌, ltb, length, Result, Ok, Err}
use Rattle.lists.specs.Tables.{front, zeroed, on}
use Rattle.refusals.specs.Rows.{Row, first, unless}
use Rattle.refusals.specs.Causes.{room_rows}
use Rattle.refusals.specs.Refusals.{refused, count_number}
use Rattle.refusals.specs.declared.CountError.{CountError}
use Rattle.refusals.specs.declared.CountError.TheVariants.{Short}
use Rattle.mesh.specs.Mesh.{points_of, cells_of}
use Rattle.groups.specs.Judged.{crossed_rows}
use Rattle.representatives.specs.Highest.{representatives_of, centroids_of}

-- how many representatives there are
abbrev pub count_of : List ℕ → List ℕ → ℕ
count_of C X = length (representatives_of C X (cells_of C))

-- those of the mesh and its answers, with one work entry a cell and one a point
abbrev pub input_rows : List ℕ → List ℕ → List ℕ → List ℕ → List Row
input_rows P C X w = crossed_rows (length P) C X (length w) 1 1

-- the refusals with their causes, in their order: those of what is taken, and then no room for the numbers or the centroids
abbrev pub representatives_rows : List ℕ → List ℕ → List ℕ → List ℕ → List ℕ → List ℕ → List Row
representatives_rows P C X o z w = input_rows P C X w ++ (room_rows (length o) (count_of C X) ++ room_rows (length z / 3) (count_of C X))

-- the answer where nothing else is refused: short of room, or all
unfoldable pub listed_of : List ℕ → List ℕ → List ℕ → List ℕ → Result ℕ CountError
listed_of C X o z =
    cond (ltb (length o) (count_of C X)) (Err (Short (count_of C X)))
    (cond (ltb (length z / 3) (count_of C X)) (Err (Short (count_of C X))) (Ok (count_of C X)))

unfoldable pub represented_of : List ℕ → List ℕ → List ℕ → List ℕ → List ℕ → List ℕ → Result ℕ CountError
represented_of P C X o z w = unless (first (input_rows P C X w)) refused (listed_of C X o z)

-- the result tables after: the list in front on an answer, else as lent
abbrev pub numbers_after : Result ℕ CountError → List ℕ → List ℕ → List ℕ → List ℕ
numbers_after a C X o = on (0 ∷ []) (count_number a) (front (count_of C X) (representatives_of C X (cells_of C)) o) o

abbrev pub centroids_after : Result ℕ CountError → List ℕ → List ℕ → List ℕ → List ℕ → List ℕ
centroids_after a P C X z = on (0 ∷ []) (count_number a) (front (3 * count_of C X) (centroids_of P C X (cells_of C)) z) z

-- the work table after: one entry a point and a cell zero on an answer and on 9, else as lent
abbrev pub work_after : Result ℕ CountError → List ℕ → List ℕ → List ℕ → List ℕ
work_after a P C w = on (0 ∷ 9 ∷ []) (count_number a) (zeroed (points_of P + cells_of C) w) w

pub record RepresentativesDone (P C X o z w : List ℕ) (r : Result ℕ CountError) (o' z' w' : List ℕ) : Type 0 where
  pub answer : r ≡ represented_of P C X o z w
  pub numbers : o' ≡ numbers_after (represented_of P C X o z w) C X o
  pub centroids : z' ≡ centroids_after (represented_of P C X o z w) P C X z
  pub work : w' ≡ work_after (represented_of P C X o z w) P C w
