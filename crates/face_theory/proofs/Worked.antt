-- Worked numbers: two cells on one face, and a third that names a point twice. Assumes nothing.
use mathlib.Core.Path.{◌≡◌, refl}
use mathlib.Core.List.{List, [], ◌∷◌}
use Prim.Native.Nat.{ℕ}
use Rattle.lists.specs.Tables.{among, list_of}
use Rattle.sorting.specs.Entries.{many}
use Rattle.face_theory.specs.Faces.{lowest, middle, highest, side, face_of, names, crowd, common, cell_at}

three_cells : List ℕ
three_cells = 0 ∷ 1 ∷ 2 ∷ 3 ∷ 4 ∷ 2 ∷ 1 ∷ 0 ∷ 0 ∷ 0 ∷ 1 ∷ 2 ∷ []

-- owner 3 leaves out point 3 of the first cell; owner 4 leaves out point 4 of the second
left_out : face_of three_cells 3 ≡ 0 ∷ 1 ∷ 2 ∷ []
unfolding three_cells lowest middle highest side
left_out = refl

one_face : face_of three_cells 4 ≡ 0 ∷ 1 ∷ 2 ∷ []
unfolding three_cells lowest middle highest side
one_face = refl

-- each cell counts once, also the third, two of whose owners have the face
crowd_of_three : crowd three_cells 3 ≡ 3
unfolding three_cells lowest middle highest side crowd names many among list_of
crowd_of_three = refl

in_common : common (cell_at three_cells 0) (cell_at three_cells 1) ≡ 3
unfolding three_cells common many among
in_common = refl
