-- The six-fold volume of a cell, part by part. Assumes nothing.
use mathlib.Core.Path.{◌≡◌, sym, ap, ap₂, ◌∙◌, subst₂, fun_ext}
use mathlib.Core.List.{List}
use Prim.Native.Nat.{ℕ, ◌+◌, ◌*◌, ◌<◌}
use native.Mathlib.Nat.{add-zero}
use native.Mathlib.Omega.{arith}
use lib.IntN.{ℤ, pos, nat_abs, ◌-ℤ◌}
use lib.ListN.{length, get_or}
use Rattle.space.specs.Space.{ax}
use Rattle.space.proofs.Space.{on_all}
use Rattle.mesh.specs.Mesh.{cell_of}
use Rattle.mesh.specs.declared.Cell.{Cell}
use Rattle.grid.specs.Whole.{three_at}
use Rattle.tiling.specs.Volume.{edge, cross, dot, determinant, six_fold}
use Rattle.tiling.specs.Volume as volume
use Rattle.tiling.specs.Tables.{six_at}
use Rattle.coverage.specs.Parts.{as_vector, Held, Short, VectorHeld, EdgeAsked, CellAsked}
use Rattle.coverage.specs.declared.Vector.{Vector}
use Rattle.coverage.proofs.Held.{back, again, as_small}

-- along x no number is added to the place of a vertex
pub edge_x : (T : List ℕ) (p q : ℕ) {r : ℤ} → Held 4096 (pos (get_or T (3 * q) 0) -ℤ pos (get_or T (3 * p) 0)) r → Held 4096 (edge (three_at T p) (three_at T q) ax) r
edge_x T p q {r} h =
    subst₂ (λ (i j : ℕ). Held 4096 (pos (get_or T j 0) -ℤ pos (get_or T i 0)) r) (sym (add-zero (3 * p))) (sym (add-zero (3 * q))) h

-- what is held is short
pub as_short : {m : ℕ} {u : volume.Vector} {r : Vector} → VectorHeld m u r → Short m r
as_short h = record { x_short = as_small h.x_held; y_short = as_small h.y_held; z_short = as_small h.z_held }

held_is : {m : ℕ} {u : volume.Vector} {r : Vector} → VectorHeld m u r → as_vector r ≡ u
held_is {m} {u} {r} h = fun_ext (on_all (λ a. as_vector r a ≡ u a) h.x_held.same h.y_held.same h.z_held.same)

-- the vertices that a cell names are there
module _ {T C : List ℕ} {i : ℕ} {r : Cell} (h : CellAsked T C i) (e : r ≡ cell_of C i) where
  at : (k : ℕ) → k < 4 → 3 * get_or C (4 * i + k) 0 + 2 < length T
  at k b = h.names (4 * i + k) (omega (arith, h.there))

  a_there : 3 * r.a + 2 < length T
  unfolding cell_of
  a_there = rw e (h.names (4 * i) (omega (arith, h.there)))

  pub to_b : EdgeAsked T r.a r.b
  unfolding cell_of
  to_b = record { coordinates = h.coordinates; from_there = a_there; to_there = rw e (at 1 (omega arith)) }

  pub to_c : EdgeAsked T r.a r.c
  unfolding cell_of
  to_c = record { coordinates = h.coordinates; from_there = a_there; to_there = rw e (at 2 (omega arith)) }

  pub to_d : EdgeAsked T r.a r.d
  unfolding cell_of
  to_d = record { coordinates = h.coordinates; from_there = a_there; to_there = rw e (at 3 (omega arith)) }

  -- the volume from the three edges
  pub six_is : {u v w x : Vector} {d : ℤ} {n : ℕ}
      → VectorHeld 4096 (edge (three_at T r.a) (three_at T r.b)) u → VectorHeld 4096 (edge (three_at T r.a) (three_at T r.c)) v → VectorHeld 4096 (edge (three_at T r.a) (three_at T r.d)) w
      → VectorHeld 33554432 (cross (as_vector u) (as_vector v)) x → Held 412316860416 (dot (as_vector x) (as_vector w)) d → n ≡ nat_abs (back d) → n ≡ six_at T C i
  unfolding six_fold cell_of
  six_is {u} {v} {w} {x} {d} {n} hu hv hw hx hd hn =
      hn ∙ ap nat_abs ((again (omega arith) hd).same ∙ ap₂ dot (held_is hx ∙ ap₂ cross (held_is hu) (held_is hv)) (held_is hw))
      ∙ ap (λ (k : Cell). nat_abs (determinant (edge (three_at T k.a) (three_at T k.b)) (edge (three_at T k.a) (three_at T k.c)) (edge (three_at T k.a) (three_at T k.d)))) e
