-- How many cells a leaf gives at a face. Assumes nothing.
use mathlib.Core.Path.{◌≡◌, refl}
use mathlib.Core.Bool.{Bool, true, false, cond}
use mathlib.Core.List.{[], ◌∷◌}
use Prim.Native.Nat.{ℕ, ◌+◌}
use native.Mathlib.Omega.{arith}
use lib.ListN.{length, length-append}
use Rattle.space.specs.Space.{Axis, Pos}
use Rattle.lists.specs.Tests.{bit}
use Rattle.octree_cells.specs.Cells.{cell, Face, face, over, fan, halves, cells_to, Side, split, equal, coarser, border, middle}

over_length : (fine : Pos → Bool) (p q a b : Pos) → length (over fine p q a b) ≡ 1 + bit (fine (middle a b))
unfolding over
over_length fine p q a b = go (fine (middle a b))
  where
    go : (c : Bool) → length (cond c (cell p q a (middle a b) ∷ cell p q (middle a b) b ∷ []) (cell p q a b ∷ [])) ≡ 1 + bit c
    go true = refl
    go false = refl

abbrev pub edges_of : (Pos → Bool) → Face → ℕ
edges_of fine f =
    bit (fine (middle f.p0 f.p1)) + bit (fine (middle f.p1 f.p2)) + bit (fine (middle f.p2 f.p3)) + bit (fine (middle f.p3 f.p0))

pub fan_length : (fine : Pos → Bool) (p q : Pos) (f : Face) → length (fan fine p q f) ≡ 4 + edges_of fine f
unfolding fan
fan_length fine p q f =
    simp (length-append, over_length) (omega arith)

abbrev pub count_at : ℕ → Bool → Side → ℕ
count_at e s split = 4 + e
count_at e false equal = 0
count_at e true equal = 4 + e
count_at e s (coarser n z) = 2
count_at e s border = 2

pub cells_length : (fine : Pos → Bool) (m : ℕ) (x : Pos) (a : Axis) (s : Bool) (b : Side) → length (cells_to fine m x a s b) ≡ count_at (edges_of fine (face m x a s)) s b
unfolding cells_to halves
cells_length fine m x a s split = fan_length fine _ _ _
cells_length fine m x a false equal = refl
cells_length fine m x a true equal = fan_length fine _ _ _
cells_length fine m x a s (coarser n z) = refl
cells_length fine m x a s border = refl
