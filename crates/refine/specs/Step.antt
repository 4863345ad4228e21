-- The step refine (rules 3.9, 11.7): what is refused and why, what is answered, and what the split table holds after.
-- C is the crossing table and o the split table, as lent.
use Rattle.std.specs.Prelude.{◌≡◌, cond, List, [], ◌∷◌, ◌++◌, ℕ, ltb, Float, length, Result, Ok, Err}
use Rattle.refusals.specs.Rows.{Row, first, unless}
use Rattle.refusals.specs.Causes.{each_rows, answer_rows, room_rows}
use Rattle.lists.specs.Tables.{front, on}
use Rattle.plan.specs.Step.{plan_of, plan_rows, refusal_number, refusal_values, on_plan}
use Rattle.plan.specs.Vertices.{dims_of}
use Rattle.plan.specs.declared.Bounds.{Bounds}
use Rattle.plan.specs.declared.Plan.{Plan}
use Rattle.plan.specs.declared.Refusal.TheVariants.{Number}
use Rattle.octants.specs.Table.{refine_of, total}
use Rattle.refine.specs.declared.RefineError.{RefineError}
use Rattle.refine.specs.declared.RefineError.TheVariants.{Refused, Short}

-- a crossing table for n octants
unfoldable pub crossing_rows : ℕ → List ℕ → List Row
crossing_rows n C = each_rows n (length C) ++ answer_rows C

-- the refusals with their causes, the lowest number first: those of the plan, and where there is a plan, those of the two tables
abbrev pub refine_rows : Bounds → Float → ℕ → List ℕ → List ℕ → List Row
refine_rows b c levels C o = plan_rows b c levels ++ on_plan (plan_of b c levels) (λ why. []) (λ p. crossing_rows p.octants C ++ room_rows (length o) p.octants)

-- the number and values of each answer: rules 11.3, 11.4, R2.2
abbrev pub error_number : RefineError → ℕ
error_number (Refused why) = refusal_number why
error_number (Short octants) = 9

abbrev pub error_values : RefineError → List ℕ
error_values (Refused why) = refusal_values why
error_values (Short octants) = octants ∷ []

abbrev pub number_of : Result ℕ RefineError → ℕ
number_of (Ok ones) = 0
number_of (Err e) = error_number e

abbrev pub values_of : Result ℕ RefineError → List ℕ
values_of (Ok ones) = ones ∷ []
values_of (Err e) = error_values e

-- the split table of a crossing table: the raw refinement, balanced from the finest level up
abbrev pub split_of : Plan → List ℕ → List ℕ
split_of p C = refine_of (dims_of p) p.levels C

-- refused by its tables, with nothing but a number
abbrev pub refused_with : ℕ → Result ℕ RefineError
refused_with number = Err (Refused (Number number))

-- refused, short of room, or so many ones
unfoldable pub answer_for : Plan → List ℕ → List ℕ → Result ℕ RefineError
answer_for p C o =
    unless (first (crossing_rows p.octants C)) refused_with
    (cond (ltb (length o) p.octants) (Err (Short p.octants)) (Ok (total (split_of p C))))

unfoldable pub refined_of : Bounds → Float → ℕ → List ℕ → List ℕ → Result ℕ RefineError
refined_of b c levels C o = on_plan (plan_of b c levels) (λ why. Err (Refused why)) (λ p. answer_for p C o)

-- the split table after: the N splits in front on an answer, else as lent
abbrev pub split_for : Plan → List ℕ → List ℕ → List ℕ
split_for p C o = on (0 ∷ []) (number_of (answer_for p C o)) (front p.octants (split_of p C) o) o

abbrev pub split_after : Bounds → Float → ℕ → List ℕ → List ℕ → List ℕ
split_after b c levels C o = on_plan (plan_of b c levels) (λ why. o) (λ p. split_for p C o)

pub record RefineDone (b : Bounds) (c : Float) (levels : ℕ) (C o : List ℕ) (r : Result ℕ RefineError) (o' : List ℕ) : Type 0 where
  pub answer : r ≡ refined_of b c levels C o
  pub split : o' ≡ split_after b c levels C o
