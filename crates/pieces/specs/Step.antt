-- The two steps of section R4 of the rules: what is refused and why, what is answered, and what the lent tables hold after.
-- P is the table of points, C that of cells, o the result table and w the work table, as lent.
use Rattle.std.specs.Prelude.{◌≡◌, cond, List, [], ◌∷◌, ◌++◌, ℕ, ◌*◌, Bool, eqb, ltb, length, Result, Ok, Err}
use Rattle.lists.specs.Tests.{bit}
use Rattle.lists.specs.Tables.{front, zeroed, on}
use Rattle.refusals.specs.Rows.{Row, first, unless}
use Rattle.refusals.specs.Causes.{room_rows}
use Rattle.refusals.specs.Refusals.{as_number, as_refusal, refused, count_number}
use Rattle.refusals.specs.declared.Refusal.{Refusal}
use Rattle.refusals.specs.declared.CountError.{CountError}
use Rattle.refusals.specs.declared.CountError.TheVariants.{Short}
use Rattle.mesh.specs.Mesh.{cells_of}
use Rattle.faces.specs.Judged.{face_rows}
use Rattle.pieces.specs.Pieces.{face_numbers, face_count}

-- a mesh of cells that name four points each, with 16 work entries a cell
abbrev pub piece_rows : List ℕ → List ℕ → List ℕ → List Row
piece_rows P C w = face_rows (length P) C (length w)

-- ---- the numbering by faces

-- the refusals with their causes, in their order: those of the mesh, and then no room for the numbers
abbrev pub face_components_rows : List ℕ → List ℕ → List ℕ → List ℕ → List Row
face_components_rows P C o w = piece_rows P C w ++ room_rows (length o) (cells_of C)

unfoldable pub face_components_of : List ℕ → List ℕ → List ℕ → List ℕ → Result ℕ CountError
face_components_of P C o w =
    unless (first (piece_rows P C w)) refused
    (cond (ltb (length o) (cells_of C)) (Err (Short (cells_of C))) (Ok (face_count C (cells_of C))))

-- the result table after: the numbers in front on an answer, else as lent
abbrev pub face_numbers_after : List ℕ → List ℕ → List ℕ → List ℕ → List ℕ
face_numbers_after P C o w =
    on (0 ∷ []) (count_number (face_components_of P C o w)) (front (cells_of C) (face_numbers C (cells_of C)) o) o

-- the work table after: its 16 entries a cell zero on an answer, else as lent
abbrev pub face_work_after : List ℕ → List ℕ → List ℕ → List ℕ → List ℕ
face_work_after P C o w = on (0 ∷ []) (count_number (face_components_of P C o w)) (zeroed (16 * cells_of C) w) w

pub record FaceComponentsDone (P C o w : List ℕ) (r : Result ℕ CountError) (o' w' : List ℕ) : Type 0 where
  pub answer : r ≡ face_components_of P C o w
  pub numbers : o' ≡ face_numbers_after P C o w
  pub work : w' ≡ face_work_after P C o w

-- ---- one piece

-- the number and values of each answer: rules 11.3, 11.4
abbrev pub piece_number : Result Bool Refusal → ℕ
piece_number (Ok whole) = 0
piece_number (Err why) = as_number why

abbrev pub piece_values : Result Bool Refusal → List ℕ
piece_values (Ok whole) = bit whole ∷ []
piece_values (Err why) = []

-- exactly one number by faces; without cells there is none
unfoldable pub one_piece_of : List ℕ → List ℕ → List ℕ → Result Bool Refusal
one_piece_of P C w = unless (first (piece_rows P C w)) (λ k. Err (as_refusal k)) (Ok (eqb (face_count C (cells_of C)) 1))

abbrev pub piece_work : List ℕ → List ℕ → List ℕ → List ℕ
piece_work P C w = on (0 ∷ []) (piece_number (one_piece_of P C w)) (zeroed (16 * cells_of C) w) w

pub record OnePieceDone (P C w : List ℕ) (r : Result Bool Refusal) (w' : List ℕ) : Type 0 where
  pub answer : r ≡ one_piece_of P C w
  pub work : w' ≡ piece_work P C w
