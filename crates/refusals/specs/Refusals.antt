-- The number of each refusal (rules 11.3, 11.4), what a judge says by it, and the outcome of a step that counts.
use Rattle.std.specs.Prelude.{Bool, true, cond, ◌&&◌, List, [], ◌∷◌, ℕ, eqb, Result, Ok, Err}
use Rattle.refusals.specs.Rows.{Row, ◌when◌}
use Rattle.refusals.specs.declared.Refusal.{Refusal}
use Rattle.refusals.specs.declared.Refusal.TheVariants.{CellSize, Bounds, Levels, TooLarge, Length, Byte, Ungraded, Point, NoRoom, NothingKept, Cut, Trailing, Numbers, Text, Shape, Range, Twice}
use Rattle.refusals.specs.declared.CountError.{CountError}
use Rattle.refusals.specs.declared.CountError.TheVariants.{Refused, Short}

abbrev pub as_number : Refusal → ℕ
as_number CellSize = 1
as_number Bounds = 2
as_number Levels = 3
as_number TooLarge = 4
as_number Length = 5
as_number Byte = 6
as_number Ungraded = 7
as_number Point = 8
as_number NoRoom = 9
as_number NothingKept = 10
as_number Cut = 11
as_number Trailing = 12
as_number Numbers = 13
as_number Text = 14
as_number Shape = 15
as_number Range = 16
as_number Twice = 17

-- the refusal of a number; of a number that no refusal has, the last one
unfoldable pub as_refusal : ℕ → Refusal
as_refusal n =
    cond (eqb n 1) CellSize
    (cond (eqb n 2) Bounds
    (cond (eqb n 3) Levels
    (cond (eqb n 4) TooLarge
    (cond (eqb n 5) Length
    (cond (eqb n 6) Byte
    (cond (eqb n 7) Ungraded
    (cond (eqb n 8) Point
    (cond (eqb n 9) NoRoom
    (cond (eqb n 10) NothingKept
    (cond (eqb n 11) Cut
    (cond (eqb n 12) Trailing
    (cond (eqb n 13) Numbers
    (cond (eqb n 14) Text
    (cond (eqb n 15) Shape
    (cond (eqb n 16) Range
    Twice)))))))))))))))

-- each row has the number of a refusal
unfoldable pub named : List Row → Bool
named [] = true
named (k when b ∷ l) = eqb (as_number (as_refusal k)) k && named l

-- the number that a judge gives: that of its refusal, and 0 for none
abbrev pub number_in : {A : Type 0} → Result A Refusal → ℕ
number_in (Ok x) = 0
number_in (Err why) = as_number why

-- ---- a step that counts

-- its refusal by a number
abbrev pub refused : {A : Type 0} → ℕ → Result A CountError
refused number = Err (Refused (as_refusal number))

-- the number and values of its outcome: so many; refused; no room for so many
abbrev pub error_number : CountError → ℕ
error_number (Refused why) = as_number why
error_number (Short count) = 9

abbrev pub error_values : CountError → List ℕ
error_values (Refused why) = []
error_values (Short count) = count ∷ []

abbrev pub count_number : {A : Type 0} → Result A CountError → ℕ
count_number (Ok x) = 0
count_number (Err e) = error_number e

abbrev pub count_values : Result ℕ CountError → List ℕ
count_values (Ok count) = count ∷ []
count_values (Err e) = error_values e
