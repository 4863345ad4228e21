-- The sum over the cells of tables is that over the cells that they hold. Assumes nothing.
use mathlib.Core.Path.{◌≡◌, refl, sym, ap, ◌∙◌}
use mathlib.Core.List.{List, [], ◌∷◌, map}
use Prim.Native.Nat.{ℕ, zero, suc, ◌+◌, ◌*◌, ◌≤◌, ◌<◌}
use native.Mathlib.Nat.{not-suc-le-zero, le_of_suc-le-suc}
use native.Mathlib.Omega.{arith}
use lib.ListN.{length, get_or, take}
use lib.Seq.{get_or-take, length-take-le}
use Rattle.lists.specs.Runs.{sums}
use Rattle.lists.proofs.Listing.{map_at}
use Rattle.space.specs.Space.{Pos, pos}
use Rattle.octree_cells.specs.Cells.{Cell, cell}
use Rattle.grid.specs.Whole.{corners_of, three_at}
use Rattle.tiling.specs.Volume.{six_fold, sum_six}
use Rattle.tiling.specs.Tables.{six_at, table_six}
use Rattle.tiling.proofs.Sums.{sum_cong_in, sum_next}

abbrev pub none : Cell
none = cell (pos 0 0 0) (pos 0 0 0) (pos 0 0 0) (pos 0 0 0)

-- the four corners of cell i
corner_at : (D : List Cell) (i : ℕ) → i < length D
    → (get_or (corners_of D) (4 * i) (pos 0 0 0) ≡ (get_or D i none).c0) × (get_or (corners_of D) (4 * i + 1) (pos 0 0 0) ≡ (get_or D i none).c1)
    × (get_or (corners_of D) (4 * i + 2) (pos 0 0 0) ≡ (get_or D i none).c2) × (get_or (corners_of D) (4 * i + 3) (pos 0 0 0) ≡ (get_or D i none).c3)
unfolding corners_of
corner_at [] i h = absurd (not-suc-le-zero h)
corner_at (c ∷ D) zero h = (refl, refl, refl, refl)
corner_at (c ∷ D) (suc i) h =
    let e : (k : ℕ) → 4 * suc i + k ≡ suc (suc (suc (suc (4 * i + k)))) = λ k. omega arith in
    let e0 : 4 * suc i ≡ suc (suc (suc (suc (4 * i)))) = omega arith in
    rw (e 1, e 2, e 3, e0) (corner_at D i (le_of_suc-le-suc h))

-- a sum over a list is one over its places
sum_list : (D : List Cell) → sums (length D) (λ i. six_fold (get_or D i none)) 0 ≡ sum_six D
unfolding sums sum_six
sum_list [] = refl
sum_list (c ∷ D) = ap (λ (n : ℕ). six_fold c + n) (sum_next (length D) (λ i. six_fold (get_or (c ∷ D) i none)) 0 ∙ sum_list D)

module _ (T C : List ℕ) (D : List Cell) (room : 4 * length D ≤ length C) (stand : map (three_at T) (take (4 * length D) C) ≡ corners_of D) where
  pub entry : (k : ℕ) → k < 4 * length D → three_at T (get_or C k 0) ≡ get_or (corners_of D) k (pos 0 0 0)
  entry k h =
      let b : k < length (take (4 * length D) C) = omega (arith, length-take-le (4 * length D) C room) in
      ap (three_at T) (sym (get_or-take (4 * length D) C k 0 h)) ∙ sym (map_at (three_at T) (take (4 * length D) C) 0 (pos 0 0 0) k b) ∙ ap (λ (l : List Pos). get_or l k (pos 0 0 0)) stand

  pub table_at : (i : ℕ) → i < length D → six_at T C i ≡ six_fold (get_or D i none)
  table_at i h =
      let e = corner_at D i h in
      rw (entry (4 * i) (omega arith) ∙ e.0, entry (4 * i + 1) (omega arith) ∙ e.1, entry (4 * i + 2) (omega arith) ∙ e.2, entry (4 * i + 3) (omega arith) ∙ e.3) refl

  pub table_sum : table_six T C (length D) ≡ sum_six D
  table_sum = sum_cong_in (length D) table_at ∙ sum_list D
