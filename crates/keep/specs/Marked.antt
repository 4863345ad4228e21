-- Which cells are kept: rule 7.5. C is the table of cells, X that of crossing answers, Q that of probe answers, n the number
-- of cells.
use Rattle.std.specs.Prelude.{Bool, not, ◌||◌, List, ℕ, eqb, get_or}
use Rattle.links.specs.Labels.{label_at}

-- Crust keeps the cells that are crossed
unfoldable pub crust_mark : List ℕ → ℕ → Bool
crust_mark X i = not (eqb (get_or X i 0) 0)

-- a cell is inside where the probe answer of the highest cell of its group is not 0
unfoldable pub is_inside : List ℕ → List ℕ → List ℕ → ℕ → ℕ → Bool
is_inside C X Q n i = not (eqb (get_or Q (label_at C X n i) 0) 0)

-- Cover keeps the cells that are crossed or inside
unfoldable pub cover_mark : List ℕ → List ℕ → List ℕ → ℕ → ℕ → Bool
cover_mark C X Q n i = crust_mark X i || is_inside C X Q n i
