-- Laws of reading around a leaf. Assumes nothing.
use mathlib.Core.Path.{◌≡◌}
use mathlib.Core.Bool.{Bool, true, false}
use mathlib.Core.List.{List}
use Prim.Native.Nat.{ℕ, ◌+◌, ◌/◌}
use Rattle.space.specs.Space.{Axis, pos}
use Rattle.octants.specs.Oct.{hit}
use Rattle.octree_cells.specs.Cells.{reaches, stepped}
use Rattle.octree_cells.specs.Leaf.{turn_at}
use Rattle.octree.specs.declared.Level.{Level}
use Rattle.octree.specs.Parts.{counts_of, in_level}
use Rattle.sides.specs.declared.Around.{Around}
use Rattle.sides.specs.declared.Axis.{Axis as Along}
use Rattle.sides.specs.declared.Axis.TheVariants.{X, Y, Z}
use Rattle.sides.specs.declared.Beside.TheVariants.{Split, Equal, Given, Coarser, Border}
use Rattle.sides.specs.Parts.{axis_of, split_in, either_in, equal_in, beside_in}

-- by the axis
pub in_x : (s : List ℕ) (k : Level) {a : Along} (u v w : ℕ) → a ≡ X → hit (counts_of k) (in_level s k) (pos u v w) ≡ split_in s k (axis_of a) u v w
unfolding split_in
in_x s k u v w h = rw h

pub in_y : (s : List ℕ) (k : Level) {a : Along} (u v w : ℕ) → a ≡ Y → hit (counts_of k) (in_level s k) (pos w u v) ≡ split_in s k (axis_of a) u v w
unfolding split_in
in_y s k u v w h = rw h

pub in_z : (s : List ℕ) (k : Level) {a : Along} (u v w : ℕ) → a ≡ Z → hit (counts_of k) (in_level s k) (pos v w u) ≡ split_in s k (axis_of a) u v w
unfolding split_in
in_z s k u v w h = rw h

module _ (s : List ℕ) (k : Level) (a : Axis) (u v w : ℕ) where
  pub either_first : split_in s k a u v w ≡ true → true ≡ either_in s k a u v w
  unfolding either_in
  either_first h = rw h

  pub either_second : split_in s k a u v w ≡ false → split_in s k a (u + 1) v w ≡ either_in s k a u v w
  unfolding either_in
  either_second h = rw h

-- a neighbour of equal level
pub equal_low : (s : List ℕ) (k : Level) (a : Axis) (u v w : ℕ) (high : Bool) → high ≡ false → Given ≡ equal_in s k a u v w high
unfolding equal_in
equal_low s k a u v w high h = rw h

pub equal_high : (s : List ℕ) (k : Level) (a : Axis) (u v w : ℕ) (high : Bool) (e0 e1 e2 e3 : Bool) (v' w' : ℕ) → high ≡ true
    → w' ≡ stepped false w → v' ≡ stepped false v
    → e0 ≡ either_in s k a u v w' → e1 ≡ either_in s k a u (v + 1) w
    → e2 ≡ either_in s k a u v (w + 1) → e3 ≡ either_in s k a u v' w
    → Equal (record { e0 = e0; e1 = e1; e2 = e2; e3 = e3 }) ≡ equal_in s k a u v w high
unfolding equal_in
equal_high s k a u v w high e0 e1 e2 e3 v' w' h f g p0 p1 p2 p3 = rw (h, p0, p1, p2, p3, f, g)

module _ (s : List ℕ) (l : Around) (n : ℕ) (a : Axis) (u v w : ℕ) (high : Bool) where
  pub side_border : reaches n high u ≡ false → Border ≡ beside_in s l n a u v w high
  unfolding beside_in
  side_border h = rw h

  module _ (y : ℕ) (e : y ≡ stepped high u) (h : reaches n high u ≡ true) where
    pub side_split : split_in s l.here a y v w ≡ true → Split ≡ beside_in s l n a u v w high
    unfolding beside_in
    side_split f = rw (h, ← e, f)

    pub side_root : split_in s l.here a y v w ≡ false → l.root ≡ true → equal_in s l.here a u v w high ≡ beside_in s l n a u v w high
    unfolding beside_in
    side_root f g = rw (h, ← e, f, g)

    pub side_equal : split_in s l.here a y v w ≡ false → l.root ≡ false → split_in s l.above a (y / 2) (v / 2) (w / 2) ≡ true
        → equal_in s l.here a u v w high ≡ beside_in s l n a u v w high
    unfolding beside_in
    side_equal f g k = rw (h, ← e, f, g, k)

    pub side_coarser : (r : ℕ) → split_in s l.here a y v w ≡ false → l.root ≡ false → split_in s l.above a (y / 2) (v / 2) (w / 2) ≡ false
        → r ≡ turn_at v w → Coarser r ≡ beside_in s l n a u v w high
    unfolding beside_in
    side_coarser r f g k z = rw (h, ← e, f, g, k, ← z)
