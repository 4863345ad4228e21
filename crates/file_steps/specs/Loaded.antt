-- The number and the values of a reader's outcome (rules 11.3, 11.4).
use Rattle.std.specs.Prelude.{cond, List, [], ◌∷◌, ℕ, eqb, Result, Ok, Err}
use Rattle.refusals.specs.Refusals.{as_number, as_refusal}
use Rattle.file_steps.specs.declared.Loaded.{Loaded}
use Rattle.file_steps.specs.declared.LoadError.{LoadError}
use Rattle.file_steps.specs.declared.LoadError.TheVariants.{Refused, Short}

-- so many points and cells
abbrev pub done : ℕ → ℕ → Result Loaded LoadError
done points cells = Ok (record { points = points; cells = cells })

abbrev pub number_of : Result Loaded LoadError → ℕ
number_of (Ok loaded) = 0
number_of (Err (Refused why)) = as_number why
number_of (Err (Short points cells)) = 9

abbrev pub values_of : Result Loaded LoadError → List ℕ
values_of (Ok loaded) = loaded.points ∷ loaded.cells ∷ []
values_of (Err (Refused why)) = []
values_of (Err (Short points cells)) = points ∷ cells ∷ []

-- the outcome of this number, with p points and n cells
unfoldable pub loaded_by : ℕ → ℕ → ℕ → Result Loaded LoadError
loaded_by number p n = cond (eqb number 0) (done p n) (cond (eqb number 9) (Err (Short p n)) (Err (Refused (as_refusal number))))
