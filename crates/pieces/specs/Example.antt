-- Calls of `face_components` with all that they answer and leave, computed from the definitions; and two cells that meet in one vertex,
-- which have two numbers by faces and one by vertices.
use Rattle.std.specs.Prelude.{◌≡◌, refl, List, [], ◌∷◌, ◌++◌, map, ℕ, replicate}
use Rattle.refusals.specs.Rows.{first, unless}
use Rattle.refusals.specs.Causes.{work_rows}
use Rattle.refusals.specs.Refusals.{as_refusal, count_number, count_values}
use Rattle.mesh.specs.Judged.{count_rows, whole_rows, size_rows, name_rows, mesh_rows}
use Rattle.lists.specs.Tables.{all_below, among}
use Rattle.lists.specs.Appearance.{place, noted, seen_of, numbers_of}
use Rattle.lists.specs.Tests.{any}
use Rattle.sorting.specs.Entries.{many}
use Rattle.links.specs.Labels.{shares, touched, taken_over, add_cell, labels, label_at}
use Rattle.components.specs.Numbers.{component_numbers}
use Rattle.face_theory.specs.Faces.{differ, common}
use Rattle.faces.specs.Judged.{twice_rows, face_rows}
use Rattle.pieces.specs.Pieces.{meets, piece_at, face_numbers, face_count}
use Rattle.pieces.specs.Step.{face_components_of, face_numbers_after, face_work_after}

-- the length of the table of points, the cells, the lengths of the other tables, and the number, values, numbers and work after; the
-- tables hold sevens
pub record Case : Type 0 where
  pub points : ℕ
  pub cells : List ℕ
  pub numbers : ℕ
  pub work : ℕ
  pub number : ℕ
  pub values : List ℕ
  pub numbers_after_lem : List ℕ
  pub work_after_lem : List ℕ

abbrev sevens : ℕ → List ℕ
sevens n = replicate n 7

-- the first and the third share a face, the second shares an edge with both
abbrev three : List ℕ
three = 0 ∷ 1 ∷ 2 ∷ 3 ∷ 0 ∷ 1 ∷ 4 ∷ 5 ∷ 3 ∷ 2 ∷ 1 ∷ 6 ∷ []

-- the second names a point twice
abbrev twice : List ℕ
twice = 0 ∷ 1 ∷ 2 ∷ 3 ∷ 0 ∷ 1 ∷ 4 ∷ 0 ∷ []

abbrev case : ℕ → List ℕ → ℕ → ℕ → ℕ → List ℕ → List ℕ → List ℕ → Case
case p c n w k v o r = record { points = p; cells = c; numbers = n; work = w; number = k; values = v; numbers_after_lem = o; work_after_lem = r }

abbrev table : List Case
table =
    case 21 three 4 49 0 (2 ∷ []) (0 ∷ 1 ∷ 0 ∷ 7 ∷ []) (replicate 48 0 ++ (7 ∷ []))
    ∷ case 21 three 2 48 9 (3 ∷ []) (sevens 2) (sevens 48)
    ∷ case 15 twice 1 32 17 [] (sevens 1) (sevens 32)
    ∷ case 12 twice 2 32 8 [] (sevens 2) (sevens 32)
    ∷ case 12 twice 2 31 5 [] (sevens 2) (sevens 31)
    ∷ case 20 three 3 48 5 [] (sevens 3) (sevens 48)
    ∷ case 0 [] 0 1 0 (0 ∷ []) [] (sevens 1)
    ∷ []

abbrev asked : Case → Case
asked c =
    let P = sevens c.points in
    let o = sevens c.numbers in
    let w = sevens c.work in
    case c.points c.cells c.numbers c.work (count_number (face_components_of P c.cells o w)) (count_values (face_components_of P c.cells o w))
    (face_numbers_after P c.cells o w) (face_work_after P c.cells o w)

examples : map asked table ≡ table
unfolding first unless as_refusal count_rows whole_rows work_rows size_rows name_rows mesh_rows twice_rows face_rows all_below among place noted seen_of numbers_of any many differ common meets piece_at face_numbers face_count face_components_of
examples = refl

-- two cells that meet in one vertex
abbrev pub hinge : List ℕ
hinge = 0 ∷ 1 ∷ 2 ∷ 3 ∷ 3 ∷ 4 ∷ 5 ∷ 6 ∷ []

pub hinge_by_faces : face_numbers hinge 2 ≡ 0 ∷ 1 ∷ []
unfolding place noted seen_of numbers_of any many among common meets piece_at face_numbers
hinge_by_faces = refl

pub hinge_by_vertices : component_numbers hinge 2 ≡ 0 ∷ 0 ∷ []
unfolding place noted seen_of numbers_of any shares touched taken_over add_cell labels label_at component_numbers
hinge_by_vertices = refl
