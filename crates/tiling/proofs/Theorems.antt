-- What the cells add up to that the step grid stores, from its contract: six times the box for an octree of any split table that it takes, and 4 for
-- each cell of a lattice. Assumes nothing.
use mathlib.Core.Path.{◌≡◌, refl, sym, ap, subst, ◌∙◌}
use mathlib.Core.List.{List, [], ◌∷◌, map}
use Prim.Native.Nat.{ℕ, zero, suc, ◌*◌, ◌≤◌, ◌<◌}
use native.Mathlib.Omega.{arith}
use lib.Ieee.{Float}
use lib.ListN.{length, get_or, take, drop, replicate, get_or-replicate}
use Rattle.lists.proofs.Listing.{map_at}
use Rattle.lists.proofs.Running.{sum_flat}
use Rattle.space.specs.Space.{ax, ay, az, Pos}
use Rattle.plan.specs.Step.{plan_of}
use Rattle.plan.specs.declared.Bounds.{Bounds}
use Rattle.plan.specs.declared.Plan.{Plan}
use Rattle.plan.specs.declared.Planned.TheVariants as planned
use Rattle.octants.specs.Oct.{width}
use Rattle.octree_cells.specs.Cells.{Cell}
use Rattle.lattice.specs.Lattice.{lattice_cells}
use Rattle.plan.specs.Vertices.{dims_of}
use Rattle.plan.proofs.Ready.{ready_levels}
use Rattle.grid.specs.Grid.{grid_cells}
use Rattle.grid.specs.Step.{GridDone, so_many}
use Rattle.grid.specs.Whole.{three_at, corners_of, Whole}
use Rattle.grid.specs.declared.Gridded.{Gridded}
use Rattle.grid.specs.declared.GridError.{GridError}
use Rattle.std.specs.Prelude.{Result}
use Rattle.grid.proofs.Whole.{nothing_in_part}
use Rattle.tiling.specs.Volume.{six_fold, sum_six}
use Rattle.tiling.specs.Tables.{six_at, table_six, box_of}
use Rattle.tiling.proofs.Sums.{sum_cong_in}
use Rattle.tiling.proofs.Tiling.{octree_six}
use Rattle.tiling.proofs.Lattice.{lattice_four}
use Rattle.tiling.proofs.Tables.{none, table_at, table_sum}

-- of the definition's cells: levels 1 to 5, and level 0
pub grid_six : (l : ℕ) (d : Pos) (s : List ℕ) → 1 ≤ l → sum_six (grid_cells l d s) ≡ 6 * (d ax * width l * (d ay * width l) * (d az * width l))
unfolding grid_cells
grid_six zero d s h = absurd (omega arith)
grid_six (suc l) d s h = octree_six d (suc l) s

grid_four : (l : ℕ) (d : Pos) (s : List ℕ) → l ≡ 0 → map six_fold (grid_cells l d s) ≡ replicate (length (grid_cells l d s)) 4
unfolding grid_cells
grid_four zero d s h = (lattice_four d).each
grid_four (suc l) d s h = absurd (omega arith)

four_sum : (D : List Cell) → map six_fold D ≡ replicate (length D) 4 → sum_six D ≡ 4 * length D
unfolding sum_six
four_sum [] e = refl
four_sum (c ∷ D) e = omega (arith, ap (λ (l : List ℕ). get_or l 0 0) e, four_sum D (ap (drop 1) e))

pub grid_fours : (d : Pos) (s : List ℕ) → sum_six (grid_cells 0 d s) ≡ 4 * length (lattice_cells d)
unfolding grid_cells
grid_fours d s = four_sum (lattice_cells d) (lattice_four d).each

module _ {b : Bounds} {c : Float} {levels : ℕ} {s C T P w : List ℕ} {r : Result Gridded GridError} {C' T' P' w' : List ℕ} (g : GridDone b c levels s C T P w r C' T' P' w')
    (p : Plan) (ready : plan_of b c levels ≡ planned.Ready p) (n v : ℕ) (done : r ≡ so_many n v) where
  pub whole : Whole p s n v C' T' P'
  whole =
      let t = nothing_in_part b c levels s C T P w g n v done in
      let same : t.0 ≡ p = cc in
      subst (λ (q : Plan). Whole q s n v C' T' P') same t.2

  abbrev pub stored : List Cell
  stored = grid_cells p.levels (dims_of p) s

  pub room : 4 * length stored ≤ length C'
  room = omega (arith, whole.room.0, whole.cells_all)

  pub stand : map (three_at T') (take (4 * length stored) C') ≡ corners_of stored
  stand = ap (λ (k : ℕ). map (three_at T') (take (4 * k) C')) (sym whole.cells_all) ∙ whole.cells_stand

  -- levels 1 to 5
  pub octree_covers : 1 ≤ levels → table_six T' C' n ≡ 6 * box_of p
  octree_covers h =
      ap (table_six T' C') whole.cells_all ∙ table_sum T' C' stored room stand
      ∙ grid_six p.levels (dims_of p) s (omega (arith, ready_levels b c levels p ready))

  -- level 0
  pub lattice_each : levels ≡ 0 → (i : ℕ) → i < n → six_at T' C' i ≡ 4
  lattice_each z i h =
      let k : i < length stored = omega (arith, whole.cells_all) in
      let e = grid_four p.levels (dims_of p) s (ready_levels b c levels p ready ∙ z) in
      table_at T' C' stored room stand i k ∙ sym (map_at six_fold stored none 0 i k) ∙ ap (λ (l : List ℕ). get_or l i 0) e ∙ get_or-replicate (length stored) i 4 0 k

  pub lattice_covers : levels ≡ 0 → table_six T' C' n ≡ 4 * n
  lattice_covers z = sum_cong_in n (lattice_each z) ∙ sum_flat n 4 0 ∙ omega arith
