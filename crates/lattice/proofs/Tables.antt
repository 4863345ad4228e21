-- The tables of the lattice, row by row. Assumes nothing.
use mathlib.Core.Path.{◌≡◌, refl, sym, ap, ap₂, ◌∙◌, fun_ext}
use mathlib.Core.Bool.{Bool, true, false, ◌&&◌}
use mathlib.Core.List.{List, [], ◌∷◌, ◌++◌}
use Prim.Native.Nat.{ℕ, ◌+◌, ◌/◌, ◌<◌}
use native.Mathlib.Omega.{arith}
use lib.Dec.{ltb}
use lib.ListN.{length}
use Rattle.lists.specs.Runs.{run, Splits, Room}
use Rattle.lists.proofs.Running.{run_same, run_map, length_run, sum_same}
use Rattle.space.specs.Space.{Axis, ax, ay, az, Pos, pos, Inside}
use Rattle.space.proofs.Space.{on_all}
use Rattle.octree_cells.specs.Cells.{flat}
use Rattle.octree_cells.proofs.Flat.{flat_none, flat_append}
use Rattle.plan.specs.declared.Plan.{Plan}
use Rattle.lattice.specs.declared.Octa.{Octa}
use Rattle.lattice.specs.declared.Row.{Row}
use Rattle.lattice.specs.Lattice.{evens, odds, box_up, doubled, index_of, centre_cells, lattice_cells, lattice_vertices, lattice_table}
use Rattle.plan.specs.Vertices.{dims_of, spread}
use Rattle.lattice.specs.Parts.{octa_numbers, numbers_at, row_numbers, InRow, IsRow, cells_at, row_cells, all_cells, row_of, layer_of, box_of, vertices_of}
use Rattle.lattice.proofs.Octahedra.{axis_numbers}

-- ---- the cells

octa_same : {t t' : Bool} {o o' : Octa} → t ≡ t' → o.centre ≡ o'.centre → o.opposite ≡ o'.opposite → o.low ≡ o'.low → o.u ≡ o'.u → o.v ≡ o'.v
    → octa_numbers t o ≡ octa_numbers t' o'
unfolding octa_numbers
octa_same et ec eo el eu ev = rw (et, ec, eo, el, eu, ev) refl

-- the tests in the order of the code
turn_x : (s t r : Bool) → s && (t && r) ≡ (t && r) && s
turn_x true true true = refl
turn_x true true false = refl
turn_x true false r = refl
turn_x false true true = refl
turn_x false true false = refl
turn_x false false r = refl

turn_y : (s t r : Bool) → s && (t && r) ≡ (s && t) && r
turn_y true t r = refl
turn_y false t r = refl

turn_z : (s t r : Bool) → s && (t && r) ≡ (s && r) && t
turn_z true true true = refl
turn_z true true false = refl
turn_z true false true = refl
turn_z true false false = refl
turn_z false t r = refl

module _ (nx ny nz k j : ℕ) (h : InRow nx ny nz k j) (r : Row) (q : IsRow nx ny nz k j r) where
  abbrev d : Pos
  d = pos nx ny nz

  centre_is : (i : ℕ) → i < (nx + 1) / 2 → cells_at (pos nx ny nz) k j i ≡ numbers_at r i
  unfolding centre_cells numbers_at
  centre_is i hi =
      simp flat_append
      (ap₂ (λ (a b : List ℕ). a ++ b)
      (ap₂ (λ (a b : List ℕ). a ++ b)
      (axis_numbers d (pos i j k) inside ax
      ∙ octa_same (turn_x (ltb (i + 1) ((nx + 1) / 2)) (ltb j (ny / 2)) (ltb k (nz / 2)) ∙ ap₂ (λ (t : Bool) (n : ℕ). t && ltb (i + 1) n) (sym q.tx_is) (sym q.n_is)) (omega (arith, q)) (omega (arith, q)) (omega (arith, q)) (omega (arith, q)) (omega (arith, q)))
      (axis_numbers d (pos i j k) inside ay
      ∙ octa_same (turn_y (ltb (j + 1) ((ny + 1) / 2)) (ltb k (nz / 2)) (ltb i (nx / 2)) ∙ ap₂ (λ (t : Bool) (n : ℕ). t && ltb i n) (sym q.ty_is) (sym q.h_is)) (omega (arith, q)) (omega (arith, q)) (omega (arith, q)) (omega (arith, q)) refl))
      (axis_numbers d (pos i j k) inside az
      ∙ octa_same (turn_z (ltb (k + 1) ((nz + 1) / 2)) (ltb i (nx / 2)) (ltb j (ny / 2)) ∙ ap₂ (λ (t : Bool) (n : ℕ). t && ltb i n) (sym q.tz_is) (sym q.h_is)) (omega (arith, q)) (omega (arith, q)) (omega (arith, q)) refl (omega (arith, q))))
    where
      inside : Inside (odds (pos nx ny nz)) (pos i j k)
      inside = on_all _ hi h.j_in h.layer.k_in

  pub row_is : row_cells (pos nx ny nz) k j ≡ row_numbers r
  row_is =
      run_same ((nx + 1) / 2) (cells_at (pos nx ny nz) k j) (numbers_at r) 0 (λ i a b. centre_is i (omega arith))
      ∙ ap (λ (n : ℕ). run n (numbers_at r) 0) (sym q.n_is)

-- all cells, row by row
pub all_cells_lem : (d : Pos) → lattice_table d ≡ all_cells d
unfolding lattice_cells box_up
all_cells_lem d =
    let f = index_of d in
    run_map (flat f) (flat_none f) (flat_append f) (odds d az) _ 0
    ∙ ap (λ (g : ℕ → List ℕ). run (odds d az) g 0)
    (fun_ext (λ k. run_map (flat f) (flat_none f) (flat_append f) (odds d ay) _ 0
    ∙ ap (λ (g : ℕ → List ℕ). run (odds d ay) g 0) (fun_ext (λ j. run_map (flat f) (flat_none f) (flat_append f) (odds d ax) _ 0))))

-- ---- the vertices

spread_append : (g : Axis → ℕ → ℕ) (a b : List Pos) → spread g (a ++ b) ≡ spread g a ++ spread g b
unfolding spread
spread_append g [] b = refl
spread_append g (p ∷ a) b = ap (λ (t : List ℕ). g ax (p ax) ∷ g ay (p ay) ∷ g az (p az) ∷ t) (spread_append g a b)

spread_none : (g : Axis → ℕ → ℕ) → spread g [] ≡ []
unfolding spread
spread_none g = refl

spread_box : (g : Axis → ℕ → ℕ) (e : ℕ) (n : Pos) → spread g (box_up n (λ x. doubled e x ∷ [])) ≡ box_of g e (n ax) (n ay) (n az)
unfolding box_up spread
spread_box g e n =
    run_map (spread g) (spread_none g) (spread_append g) (n az) _ 0
    ∙ ap (λ (h : ℕ → List ℕ). run (n az) h 0)
    (fun_ext (λ k. run_map (spread g) (spread_none g) (spread_append g) (n ay) _ 0
    ∙ ap (λ (h : ℕ → List ℕ). run (n ay) h 0) (fun_ext (λ j. run_map (spread g) (spread_none g) (spread_append g) (n ax) _ 0))))

-- even ones first, then odd ones
pub vertices_split : (g : Axis → ℕ → ℕ) (p : Plan)
    → Splits (vertices_of g p) (box_of g 0 (p.nx / 2 + 1) (p.ny / 2 + 1) (p.nz / 2 + 1)) (box_of g 1 ((p.nx + 1) / 2) ((p.ny + 1) / 2) ((p.nz + 1) / 2))
unfolding lattice_vertices
vertices_split g p = record {
  whole =
      spread_append g (box_up (evens (dims_of p)) (λ x. doubled 0 x ∷ [])) (box_up (odds (dims_of p)) (λ x. doubled 1 x ∷ []))
      ∙ ap₂ (λ (a b : List ℕ). a ++ b) (spread_box g 0 (evens (dims_of p))) (spread_box g 1 (odds (dims_of p)));
}

-- a box of even triples is as long as one of odd ones, so room for the one is room for the other
box_long : (g : Axis → ℕ → ℕ) (e f n m l : ℕ) → length (box_of g e n m l) ≡ length (box_of g f n m l)
box_long g e f n m l = length_run l (layer_of g e n m) 0 ∙ sum_same l _ _ 0 (λ k a b. layer k) ∙ sym (length_run l (layer_of g f n m) 0)
  where
    row : (k j : ℕ) → length (row_of g e n k j) ≡ length (row_of g f n k j)
    row k j = length_run n _ 0 ∙ sym (length_run n _ 0)

    layer : (k : ℕ) → length (layer_of g e n m k) ≡ length (layer_of g f n m k)
    layer k = length_run m (row_of g e n k) 0 ∙ sum_same m _ _ 0 (λ j a b. row k j) ∙ sym (length_run m (row_of g f n k) 0)

pub room_box : (g : Axis → ℕ → ℕ) (e f n m l : ℕ) {o : List ℕ} {at : ℕ} → Room o at (box_of g e n m l) → Room o at (box_of g f n m l)
room_box g e f n m l h = record { fits = omega (arith, h.fits, box_long g e f n m l) }
