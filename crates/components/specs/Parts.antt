-- What the parts of the code ask and give.
use Rattle.std.specs.Prelude.{◌≡◌, Bool, List, [], ℕ, suc, ◌*◌, ◌/◌, ◌≤◌, ◌<◌, length, get_or, set, take, drop, replicate}
use Rattle.std.proofs.lemmas.List.Edits.{sets}
use Rattle.mesh.specs.Mesh.{cells_of, most, Cells}
use Rattle.links.specs.Parts.{Forest, Level, Levelled, Joint}
use Rattle.components.specs.Numbers.{component_numbers, component_count}

-- the number k of r, and the table after it: one more than the number, and 0 where there is none
pub record Numbers (T T' : List ℕ) (r count k : ℕ) : Type 0 where
  pub new : get_or T r 0 ≡ 0 → (k ≡ count) × (T' ≡ set T r (suc count))
  pub old : (get_or T r 0 ≡ 0 → ⊥) → (suc k ≡ get_or T r 0) × (T' ≡ T)

-- what is asked to number the group of v
pub record Askable (n : ℕ) (w : List ℕ) (v count : ℕ) : Type 0 where
  pub long : length w ≡ 2 * n
  pub forest : Forest (take n w)
  pub v_in : v < n
  pub room : count < most

-- the number k of the group of v, and the work table after it: n parents, each a root, and behind them the numbers
pub record NumberedAt (n : ℕ) (w w' : List ℕ) (v count k : ℕ) : Type 0 where
  pub parents : take n w' ≡ take n w
  pub number : Numbers (drop n w) (drop n w') (get_or (take n w) v 0) count k

-- the first n entries of the work table are now roots, of which `one` tells whether all are 0, and no number is given
pub record Settled (n : ℕ) (w w' : List ℕ) (one : Bool) : Type 0 where
  pub levelled : Levelled (take n w) (take n w') one
  pub zeros : drop n w' ≡ replicate n 0

-- the work table when the parents are the roots, and no number is given
pub record Linked (C w : List ℕ) (n : ℕ) : Type 0 where
  pub cells : Cells C n
  pub long : length w ≡ 2 * n
  pub joint : Joint C [] (take n w)
  pub level : Level (take n w)
  pub zeros : drop n w ≡ replicate n 0

-- how many numbers there are, and the table of them, as far as it reaches
pub record Listed (C o o' : List ℕ) (r : ℕ) : Type 0 where
  pub count : r ≡ component_count C (cells_of C)
  pub few : r ≤ cells_of C
  pub numbers : o' ≡ sets o 0 (component_numbers C (cells_of C))

-- a work table of 2 entries a point that the cells name
pub record Fits (C w : List ℕ) : Type 0 where
  pub cells : Cells C (length w / 2)
  pub even : length w ≡ 2 * (length w / 2)

-- the numbers, and the work table left zero
pub record Whole (C o o' w w' : List ℕ) (r : ℕ) : Type 0 where
  pub zero : w' ≡ replicate (length w) 0
  pub listed : Listed C o o' r
