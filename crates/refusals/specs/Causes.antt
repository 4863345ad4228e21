-- Causes that steps share: a table of answers of wrong length or with a byte above 1, and a table that is too short.
use Rattle.std.specs.Prelude.{not, List, [], ◌∷◌, ℕ, eqb, ltb}
use Rattle.lists.specs.Tables.{all_at_most}
use Rattle.refusals.specs.Rows.{Row, ◌when◌}

-- an input table of `many` entries, which is to have one for each of n octants or cells
unfoldable pub each_rows : ℕ → ℕ → List Row
each_rows n many = 5 when not (eqb many n) ∷ []

-- a work table of `room` entries, of which `need` are asked
unfoldable pub work_rows : ℕ → ℕ → List Row
work_rows room need = 5 when ltb room need ∷ []

-- an answer above 1
unfoldable pub answer_rows : List ℕ → List Row
answer_rows X = 6 when not (all_at_most 1 X) ∷ []

-- a result table with room for so many, of which `need` are to be stored
unfoldable pub room_rows : ℕ → ℕ → List Row
room_rows room need = 9 when ltb room need ∷ []
