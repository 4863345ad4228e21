-- A loop that asks for the number of each cell, whatever it does with it. Assumes nothing.
use mathlib.Core.Path.{◌≡◌, refl, sym, ap, subst, ◌∙◌}
use mathlib.Core.Logic.{◌⊎◌, ◌≢◌}
use mathlib.Core.List.{List, []}
use Prim.Native.Nat.{ℕ, ◌+◌, ◌*◌, ◌<◌}
use native.Mathlib.Omega.{arith}
use lib.ListN.{length, get_or, take, drop}
use lib.Seq.{length-take-le}
use Rattle.mesh.specs.Mesh.{cells_of, most, Cells}
use Rattle.links.specs.Parts.{Level, Joint}
use Rattle.components.specs.Parts.{Numbers, Askable, NumberedAt, Linked}
use Rattle.components.specs.Numbers.{component_numbers}
use Rattle.components.proofs.Counting.{Counting, counting_start, counting_step, k_le, k_number, turn_of, first_of, first_point, first_in, roots_number}

-- the first i cells were asked for: the work table has n parents, which are roots, and behind them the numbers given
pub record Numbering (C w : List ℕ) (n count i : ℕ) : Type 0 where
  pub cells : Cells C n
  pub long : length w ≡ 2 * n
  pub joint : Joint C [] (take n w)
  pub level : Level (take n w)
  pub counting : Counting (first_of C) (take n w) (drop n w) [] [] n (cells_of C) count i

pub numbering_start : {C w : List ℕ} {n : ℕ} → Linked C w n → Numbering C w n 0 0
numbering_start {C} {w} {n} l = record {
  cells = l.cells;
  long = l.long;
  joint = l.joint;
  level = l.level;
  counting =
      counting_start (first_of C) (take n w) (drop n w) [] n (cells_of C) (length-take-le n w (omega (arith, l.long))) l.zeros l.joint.forest;
}

module _ {C w : List ℕ} {n count i : ℕ} (l : Numbering C w n count i) (h : i < cells_of C) (v : ℕ) (ev : v ≡ get_or C (i * 4) 0) where
  v_in : v < n
  v_in = first_in l.cells h ev

  pub asks_for : Askable n w v count
  asks_for = record {
    long = l.long;
    forest = l.counting.forest;
    v_in = v_in;
    room = omega (arith, l.counting.below, l.cells.few);
  }

  pub count_small : count < most
  count_small = omega (arith, l.counting.below, l.cells.few)

  module _ (w' : List ℕ) (k : ℕ) (kept : length w' ≡ length w) (a : NumberedAt n w w' v count k) where
    at_first : Numbers (drop n w) (drop n w') (get_or (take n w) (first_of C i) 0) count k
    at_first = turn_of (take n w) (take n w) v (first_of C i) refl ev a.number

    pub number_is : k ≡ get_or (component_numbers C (cells_of C)) i 0
    number_is =
        k_number (first_of C) (take n w) (drop n w) [] [] n (cells_of C) count i l.counting h (drop n w') k (first_point l.cells h) at_first
        ∙ ap (λ (m : List ℕ). get_or m i 0) (roots_number C (take n w) n l.counting.size_p l.cells l.joint l.level)

    pub number_small : k < most
    number_small =
        omega (arith, count_small, k_le (first_of C) (take n w) (drop n w) [] [] n (cells_of C) count i l.counting h (drop n w') k (first_point l.cells h) at_first)

    pub numbering_on : (count' : ℕ) → ((k ≡ count) × (count' ≡ count + 1)) ⊎ ((k ≢ count) × (count' ≡ count)) → Numbering C w' n count' (i + 1)
    numbering_on count' c = record {
      cells = l.cells;
      long = kept ∙ l.long;
      joint = subst (Joint C []) (sym a.parents) l.joint;
      level = subst Level (sym a.parents) l.level;
      counting =
          subst (λ (P : List ℕ). Counting (first_of C) P (drop n w') [] [] n (cells_of C) count' (i + 1)) (sym a.parents)
          (counting_step (first_of C) (take n w) (drop n w) [] [] n (cells_of C) count i l.counting h (drop n w') k (first_point l.cells h) at_first count' c);
    }
