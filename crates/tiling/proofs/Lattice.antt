-- Each cell of a lattice has the six-fold volume 4. Assumes nothing.
use mathlib.Core.Path.{◌≡◌, refl, ap₂, ◌∙◌}
use mathlib.Core.Bool.{Bool, true, false, cond}
use mathlib.Core.List.{List, [], ◌∷◌, ◌++◌, map}
use Prim.Native.Nat.{ℕ, zero, suc, ◌+◌, ◌*◌}
use native.Mathlib.Omega.{arith}
use lib.ListN.{length, replicate}
use Rattle.lists.specs.Runs.{run}
use Rattle.space.specs.Space.{Axis, ax, ay, az, Pos, pos, frame, next}
use Rattle.octree_cells.specs.Cells.{Cell, cell}
use Rattle.octree_cells.proofs.Points.{Drawn}
use Rattle.lattice.specs.Lattice.{box_up, doubled, opposite, corner0, corner1, corner2, corner3, complete, octahedron, axis_cells, centre_cells, lattice_cells}
use Rattle.tiling.specs.Volume.{six_fold}
use Rattle.tiling.proofs.Volume.{drawn_six}

-- each of some cells has the volume 4
pub record AllFour (D : List Cell) : Type 0 where
  pub each : map six_fold D ≡ replicate (length D) 4

none_four : AllFour []
none_four = record { each = refl }

both_four : {a b : List Cell} → AllFour a → AllFour b → AllFour (a ++ b)
both_four {a} {b} p q = record { each = go a p.each }
  where
    go : (a : List Cell) → map six_fold a ≡ replicate (length a) 4 → map six_fold (a ++ b) ≡ replicate (length (a ++ b)) 4
    go [] e = q.each
    go (c ∷ a) e =
        let h : six_fold c ≡ 4 = cc in
        let r : map six_fold a ≡ replicate (length a) 4 = cc in
        ap₂ (λ (n : ℕ) (l : List ℕ). n ∷ l) h (go a r)

run_four : (n : ℕ) (f : ℕ → List Cell) (i : ℕ) → ((j : ℕ) → AllFour (f j)) → AllFour (run n f i)
unfolding run
run_four zero f i h = none_four
run_four (suc n) f i h = both_four (h i) (run_four n f (suc i) h)

drawn_frame : (a : Axis) (i j k u v w e f g : ℕ) → u ≡ i + e * 1 → v ≡ j + f * 1 → w ≡ k + g * 1 → Drawn a i j k 1 (frame a u v w) (pos e f g)
drawn_frame ax i j k u v w e f g p q r = record { on0 = p; on1 = q; on2 = r }
drawn_frame ay i j k u v w e f g p q r = record { on0 = p; on1 = q; on2 = r }
drawn_frame az i j k u v w e f g p q r = record { on0 = p; on1 = q; on2 = r }

-- from the place x of a centre
module _ (a : Axis) (x : Pos) where
  abbrev At : Pos → Pos → Type 0
  At p q = Drawn a (2 * x a) (2 * x (next a)) (2 * x (next (next a))) 1 p q

  at_centre : At (doubled 1 x) (pos 1 1 1)
  at_centre = record { on0 = omega arith; on1 = omega arith; on2 = omega arith }

  at_opposite : At (opposite a (doubled 1 x)) (pos 3 1 1)
  at_opposite = drawn_frame a _ _ _ _ _ _ 3 1 1 (omega arith) (omega arith) (omega arith)

  quarter : (p q p₁ q₁ : Pos) → At p p₁ → At q q₁ → six_fold (cell (pos 1 1 1) (pos 3 1 1) p₁ q₁) ≡ 4
      → six_fold (cell (doubled 1 x) (opposite a (doubled 1 x)) p q) ≡ 4
  quarter p q p₁ q₁ dp dq e = drawn_six a _ _ _ 1 _ (cell (pos 1 1 1) (pos 3 1 1) p₁ q₁) at_centre at_opposite dp dq ∙ omega (arith, e)

  octahedron_four : AllFour (octahedron a (doubled 1 x))
  unfolding octahedron six_fold
  octahedron_four =
      let d0 : At (corner0 a (doubled 1 x)) (pos 2 2 2) = drawn_frame a _ _ _ _ _ _ 2 2 2 (omega arith) (omega arith) (omega arith) in
      let d1 : At (corner1 a (doubled 1 x)) (pos 2 0 2) = drawn_frame a _ _ _ _ _ _ 2 0 2 (omega arith) (omega arith) (omega arith) in
      let d2 : At (corner2 a (doubled 1 x)) (pos 2 0 0) = drawn_frame a _ _ _ _ _ _ 2 0 0 (omega arith) (omega arith) (omega arith) in
      let d3 : At (corner3 a (doubled 1 x)) (pos 2 2 0) = drawn_frame a _ _ _ _ _ _ 2 2 0 (omega arith) (omega arith) (omega arith) in
      record { each = rw (quarter _ _ _ _ d0 d1 refl, quarter _ _ _ _ d1 d2 refl, quarter _ _ _ _ d2 d3 refl, quarter _ _ _ _ d3 d0 refl) refl }

centre_four : (d x : Pos) → AllFour (centre_cells d (doubled 1 x))
unfolding centre_cells axis_cells
centre_four d x = both_four (both_four (axis ax) (axis ay)) (axis az)
  where
    whole_or_not : (b : Bool) (D : List Cell) → AllFour D → AllFour (cond b D [])
    whole_or_not true D h = h
    whole_or_not false D h = none_four

    axis : (a : Axis) → AllFour (cond (complete d a (doubled 1 x)) (octahedron a (doubled 1 x)) [])
    axis a = whole_or_not (complete d a (doubled 1 x)) (octahedron a (doubled 1 x)) (octahedron_four a x)

pub lattice_four : (d : Pos) → AllFour (lattice_cells d)
unfolding lattice_cells box_up
lattice_four d = run_four _ _ 0 (λ k. run_four _ _ 0 (λ j. run_four _ _ 0 (λ i. centre_four d (pos i j k))))
