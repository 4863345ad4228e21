-- The step grid (rules 5.3, 11.8): what is refused and why, what is answered, and what the lent tables hold after. s is the split table; C, T, P and
-- w are the tables of cells, triples, points and work, as lent.
use Rattle.std.specs.Prelude.{◌≡◌, Bool, cond, not, ◌||◌, List, [], ◌∷◌, ◌++◌, ℕ, ◌*◌, ◌/◌, ltb, length, Float, Result, Ok, Err}
use Rattle.refusals.specs.Rows.{Row, ◌when◌, first, unless}
use Rattle.refusals.specs.Causes.{each_rows, answer_rows}
use Rattle.lists.specs.Tables.{front, zeroed}
use Rattle.octants.specs.Judge.{is_graded}
use Rattle.plan.specs.Step.{plan_of, plan_rows, refusal_number, refusal_values, on_plan}
use Rattle.plan.specs.declared.Bounds.{Bounds}
use Rattle.plan.specs.declared.Plan.{Plan}
use Rattle.plan.specs.declared.Refusal.TheVariants.{Number}
use Rattle.plan.specs.Vertices.{dims_of}
use Rattle.grid.specs.Grid.{grid_cells, grid_vertices, cell_table, triple_table, point_table}
use Rattle.grid.specs.declared.Gridded.{Gridded}
use Rattle.grid.specs.declared.GridError.{GridError}
use Rattle.grid.specs.declared.GridError.TheVariants.{Refused, NoCells, NoVertices}

-- how many cells and vertices there are
abbrev pub cell_count : Plan → List ℕ → ℕ
cell_count p s = length (grid_cells p.levels (dims_of p) s)

abbrev pub vertex_count : Plan → List ℕ → ℕ
vertex_count p s = length (grid_vertices p.levels (dims_of p) s)

-- no room for n cells, or no work for them; no room for v vertices
unfoldable pub lacks_cells : ℕ → ℕ → ℕ → Bool
lacks_cells n cells work = ltb (cells / 4) n || ltb work (4 * n)

unfoldable pub lacks_vertices : ℕ → ℕ → ℕ → Bool
lacks_vertices v triples points = ltb (triples / 3) v || ltb (points / 3) v

-- a split table that is no graded octree
unfoldable pub graded_rows : Plan → List ℕ → List Row
graded_rows p s = 7 when not (is_graded (dims_of p) p.levels s) ∷ []

-- the refusals of a split table with a plan: it has the plan's length, its bytes are 0 or 1, and it is a graded octree
unfoldable pub split_rows : Plan → List ℕ → List Row
split_rows p s = each_rows p.octants (length s) ++ answer_rows s ++ graded_rows p s

-- those of the other tables, by their lengths
unfoldable pub fill_rows : Plan → List ℕ → (cells triples points work : ℕ) → List Row
fill_rows p s cells triples points work =
    9 when lacks_cells (cell_count p s) cells work ∷ 9 when lacks_vertices (vertex_count p s) triples points ∷ []

-- all refusals with a plan
abbrev pub table_rows : Plan → List ℕ → (cells triples points work : ℕ) → List Row
table_rows p s cells triples points work = split_rows p s ++ fill_rows p s cells triples points work

-- all refusals, the lowest number first
abbrev pub grid_rows : Bounds → Float → ℕ → List ℕ → (C T P w : List ℕ) → List Row
grid_rows b c levels s C T P w =
    plan_rows b c levels ++ on_plan (plan_of b c levels) (λ why. []) (λ p. table_rows p s (length C) (length T) (length P) (length w))

-- the number and values of each answer: rules 11.3, 11.4, R2.2
abbrev pub error_number : GridError → ℕ
error_number (Refused why) = refusal_number why
error_number (NoCells cells) = 9
error_number (NoVertices cells vertices) = 9

abbrev pub error_values : GridError → List ℕ
error_values (Refused why) = refusal_values why
error_values (NoCells cells) = cells ∷ 0 ∷ []
error_values (NoVertices cells vertices) = cells ∷ vertices ∷ []

abbrev pub number_of : Result Gridded GridError → ℕ
number_of (Ok made) = 0
number_of (Err e) = error_number e

abbrev pub values_of : Result Gridded GridError → List ℕ
values_of (Ok made) = made.cells ∷ made.vertices ∷ []
values_of (Err e) = error_values e

-- so many cells and vertices
abbrev pub so_many : (n v : ℕ) → Result Gridded GridError
so_many n v = Ok (record { cells = n; vertices = v })

-- the answer of a plan and a split table that are not refused
unfoldable pub filled_of : Plan → List ℕ → (cells triples points work : ℕ) → Result Gridded GridError
filled_of p s cells triples points work =
    cond (lacks_cells (cell_count p s) cells work) (Err (NoCells (cell_count p s)))
    (cond (lacks_vertices (vertex_count p s) triples points) (Err (NoVertices (cell_count p s) (vertex_count p s))) (so_many (cell_count p s) (vertex_count p s)))

-- refused by its split table, with nothing but a number
abbrev pub refused_with : ℕ → Result Gridded GridError
refused_with number = Err (Refused (Number number))

unfoldable pub grid_of : Bounds → Float → ℕ → List ℕ → (C T P w : List ℕ) → Result Gridded GridError
grid_of b c levels s C T P w =
    on_plan (plan_of b c levels) (λ why. Err (Refused why))
    (λ p. unless (first (split_rows p s)) refused_with (filled_of p s (length C) (length T) (length P) (length w)))

-- ---- the tables after

-- a result table is new on an answer, else as lent
abbrev pub result_after : Result Gridded GridError → List ℕ → List ℕ → List ℕ
result_after (Ok made) new lent = front (length new) new lent
result_after (Err e) new lent = lent

-- the work is zero, four entries a cell, on an answer and where there is no room for the vertices, else as lent
abbrev pub work_after : Result Gridded GridError → List ℕ → List ℕ
work_after (Ok made) lent = zeroed (4 * made.cells) lent
work_after (Err (Refused why)) lent = lent
work_after (Err (NoCells cells)) lent = lent
work_after (Err (NoVertices cells vertices)) lent = zeroed (4 * cells) lent

-- what a plan and a split table that are not refused give
pub record Filled (p : Plan) (s C T P w : List ℕ) (r : Result Gridded GridError) (C' T' P' w' : List ℕ) : Type 0 where
  pub answer : r ≡ filled_of p s (length C) (length T) (length P) (length w)
  pub cells : C' ≡ result_after r (cell_table p s) C
  pub triples : T' ≡ result_after r (triple_table p s) T
  pub points : P' ≡ result_after r (point_table p s) P
  pub work : w' ≡ work_after r w

-- the tables of the plan that is made, where there is one
abbrev pub planned : Bounds → Float → ℕ → (Plan → List ℕ) → List ℕ
planned b c levels table = on_plan (plan_of b c levels) (λ why. []) table

pub record GridDone (b : Bounds) (c : Float) (levels : ℕ) (s C T P w : List ℕ) (r : Result Gridded GridError) (C' T' P' w' : List ℕ) : Type 0 where
  pub answer : r ≡ grid_of b c levels s C T P w
  pub cells : C' ≡ result_after (grid_of b c levels s C T P w) (planned b c levels (λ p. cell_table p s)) C
  pub triples : T' ≡ result_after (grid_of b c levels s C T P w) (planned b c levels (λ p. triple_table p s)) T
  pub points : P' ≡ result_after (grid_of b c levels s C T P w) (planned b c levels (λ p. point_table p s)) P
  pub work : w' ≡ work_after (grid_of b c levels s C T P w) w
