-- Laws of the stores of octahedra. Assumes nothing.
use mathlib.Core.Path.{◌≡◌, refl, ap, ◌∙◌}
use mathlib.Core.Bool.{Bool, true, false, ◌&&◌}
use mathlib.Core.List.{List, [], ◌∷◌, ◌++◌, append_assoc}
use Prim.Native.Nat.{ℕ, ◌+◌, ◌-◌, ◌<◌}
use native.Mathlib.Omega.{arith}
use lib.ListN.{length}
use lib.Seq.{sets}
use lib.Dec.{ltb}
use Rattle.lists.specs.Runs.{run, Stored, Splits}
use Rattle.lists.proofs.Running.{run_next, stored_both, stored_none}
use Rattle.lattice.specs.declared.Octa.{Octa}
use Rattle.lattice.specs.declared.Row.{Row}
use Rattle.lattice.specs.Parts.{octa_numbers, along_x, along_y, along_z, numbers_at}

piece : (o o' : List ℕ) (at n : ℕ) (l : List ℕ) → n ≡ at + length l → o' ≡ sets o at l → Stored o at l n o'
piece o o' at n l e k = record { count = e; kept = k }

module _ (row here : Bool) (o : Octa) where
  pub octa_row : (l : List ℕ) (at : ℕ) → row ≡ false → Stored l at (octa_numbers (row && here) o) at l
  unfolding octa_numbers
  octa_row l at h = stored_none l _ at (rw h refl)

  pub octa_here : (l : List ℕ) (at : ℕ) → row ≡ true → here ≡ false → Stored l at (octa_numbers (row && here) o) at l
  unfolding octa_numbers
  octa_here l at g h = stored_none l _ at (rw (g, h) refl)

  -- its four cells
  abbrev q0 : List ℕ
  q0 = o.centre ∷ o.opposite ∷ (o.low + o.u + o.v) ∷ (o.low + o.v) ∷ []

  abbrev q1 : List ℕ
  q1 = o.centre ∷ o.opposite ∷ (o.low + o.v) ∷ o.low ∷ []

  abbrev q2 : List ℕ
  q2 = o.centre ∷ o.opposite ∷ o.low ∷ (o.low + o.u) ∷ []

  abbrev q3 : List ℕ
  q3 = o.centre ∷ o.opposite ∷ (o.low + o.u) ∷ (o.low + o.u + o.v) ∷ []

  module _ (g : row ≡ true) (h : here ≡ true) where
    is_there : octa_numbers (row && here) o ≡ q0 ++ (q1 ++ (q2 ++ q3))
    unfolding octa_numbers
    is_there = rw (g, h) refl

    pub octa_long : length (octa_numbers (row && here) o) ≡ 16
    octa_long = ap length is_there

    pub octa_stored : (l l1 l2 l3 l4 : List ℕ) (at : ℕ) → l1 ≡ sets l at q0 → l2 ≡ sets l1 (at + 4) q1 → l3 ≡ sets l2 (at + 8) q2
        → l4 ≡ sets l3 (at + 12) q3 → Stored l at (octa_numbers (row && here) o) (at + 16) l4
    octa_stored l l1 l2 l3 l4 at e1 e2 e3 e4 =
        stored_both is_there (piece l l1 at (at + 4) q0 refl e1)
        (stored_both refl (piece l1 l2 (at + 4) (at + 8) q1 (omega arith) e2)
        (stored_both refl (piece l2 l3 (at + 8) (at + 12) q2 (omega arith) e3) (piece l3 l4 (at + 12) (at + 16) q3 (omega arith) e4)))

-- ---- a row of centres

-- one more centre of a row: its three octahedra, and the rest of the row
module _ (r : Row) (i : ℕ) (b : i < r.n) where
  abbrev on_x : List ℕ
  on_x = octa_numbers (r.tx && ltb (i + 1) r.n) (along_x r i)

  abbrev on_y : List ℕ
  on_y = octa_numbers (r.ty && ltb i r.h) (along_y r i)

  abbrev on_z : List ℕ
  on_z = octa_numbers (r.tz && ltb i r.h) (along_z r i)

  abbrev rest : List ℕ
  rest = run (r.n - (i + 1)) (numbers_at r) (i + 1)

  pub row_x : Splits (run (r.n - i) (numbers_at r) i) on_x (on_y ++ (on_z ++ rest))
  unfolding numbers_at
  row_x = record { whole = run_next r.n (numbers_at r) i b ∙ simp append_assoc }

  pub row_y : Splits (on_y ++ (on_z ++ rest)) on_y (on_z ++ rest)
  row_y = record { whole = refl }

  pub row_z : Splits (on_z ++ rest) on_z rest
  row_z = record { whole = refl }
