-- Totals that make sense; and any number of grids, one call each, one after the other.
use Rattle.std.specs.Prelude.{List, [], ◌∷◌, ℕ, ◌+◌, ◌≤◌, Ok}
use Rattle.coverage.specs.Step.{gained, plus, CoverageDone}
use Rattle.coverage.specs.declared.Totals.{Totals}

-- totals that make sense: the cells kept or dropped are some of all, and the volume of those kept is some of that of all
pub record Sensible (t : Totals) : Type 0 where
  pub cells_sense : t.kept + t.dropped ≤ t.cells
  pub volumes_sense : t.sixfold_kept ≤ t.sixfold_all

-- the tables of one call
pub record Specimen : Type 0 where
  pub triples : List ℕ
  pub cells : List ℕ
  pub marks : List ℕ

abbrev pub gained_by : Specimen → Totals
gained_by g = gained g.triples g.cells g.marks

-- what the contract of add_coverage says of calls that are all answered, from the totals t on
pub data Calls : Totals → List Specimen → Totals → Type 0 where
  none : {t : Totals} → Calls t [] t
  then : {t u v : Totals} {g : Specimen} {gs : List Specimen} → CoverageDone t g.triples g.cells g.marks (Ok u) → Calls u gs v → Calls t (g ∷ gs) v

-- the sum over the grids
abbrev pub nothing : Totals
nothing = record { cells = 0; kept = 0; dropped = 0; sixfold_kept = 0; sixfold_all = 0 }

unfoldable pub sum_of : List Specimen → Totals
sum_of [] = nothing
sum_of (g ∷ gs) = plus (gained_by g) (sum_of gs)

-- the same grids in another order
pub data Reordered : List Specimen → List Specimen → Type 0 where
  same : {gs : List Specimen} → Reordered gs gs
  swapped : {g h : Specimen} {gs : List Specimen} → Reordered (g ∷ h ∷ gs) (h ∷ g ∷ gs)
  after : {g : Specimen} {gs hs : List Specimen} → Reordered gs hs → Reordered (g ∷ gs) (g ∷ hs)
  twice : {gs hs ks : List Specimen} → Reordered gs hs → Reordered hs ks → Reordered gs ks
