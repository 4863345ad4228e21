-- A cell names a face exactly where one of its owners has it, also a cell that names a point twice. Assumes nothing.
use mathlib.Core.Path.{◌≡◌, refl, ap, ◌∙◌}
use mathlib.Core.Logic.{◌⊎◌, inl, inr, ◌≢◌}
use mathlib.Core.Bool.{true, ◌&&◌}
use mathlib.Core.List.{List, [], ◌∷◌}
use Prim.Native.Nat.{ℕ, ◌+◌, ◌-◌, ◌*◌, ◌/◌, ◌≤◌, ◌<◌}
use native.Mathlib.Omega.{arith}
use Rattle.lists.specs.Tables.{among}
use Rattle.lists.proofs.Bools.{and_left, and_right}
use Rattle.mesh.specs.Mesh.{cells_of}
use Rattle.face_theory.specs.Faces.{point_at, cell_at, Proper, lowest, middle, highest, ascending, side, face_of, names}
use Rattle.face_theory.proofs.Triples.{In, first, second, third, among_or, among_none, lowest_in, middle_in, highest_in, put_right, rises}
use Rattle.face_theory.proofs.Sides.{place_of, side_in, sides_differ, on_side}

-- a cell that has three points names them put in order
pub names_order : (cell : List ℕ) (x y z : ℕ) → among x cell ≡ true → among y cell ≡ true → among z cell ≡ true → names cell (ascending x y z) ≡ true
unfolding names
names_order cell x y z hx hy hz = rw (has (lowest_in x y z), has (middle_in x y z), has (highest_in x y z)) refl
  where
    has : {v : ℕ} → In v x y z → among v cell ≡ true
    has (first e) = ap (λ (n : ℕ). among n cell) e ∙ hx
    has (second e) = ap (λ (n : ℕ). among n cell) e ∙ hy
    has (third e) = ap (λ (n : ℕ). among n cell) e ∙ hz

-- the points of a face that a cell names are points of the cell
pub named_in : (cell f : List ℕ) (v : ℕ) → names cell f ≡ true → among v f ≡ true → among v cell ≡ true
unfolding names
named_in cell [] v n h = absurd (among_none v h)
named_in cell (p ∷ f) v n h = go (among_or v p f h) (named_in cell f v (and_right (among p cell) (names cell f) n))
  where
    go : (v ≡ p) ⊎ (among v f ≡ true) → (among v f ≡ true → among v cell ≡ true) → among v cell ≡ true
    go (inl e) on = ap (λ (x : ℕ). among x cell) e ∙ and_left (among p cell) (names cell f) n
    go (inr m) on = on m

-- a cell names the faces that it has
pub names_own : (C : List ℕ) (o : ℕ) → names (cell_at C (o / 4)) (face_of C o) ≡ true
names_own C o =
    names_order (cell_at C (o / 4)) (side C o 0) (side C o 1) (side C o 2)
    (side_in C o 0 (omega arith)) (side_in C o 1 (omega arith)) (side_in C o 2 (omega arith))

-- three of four places leave one out
fourth : (i j k : ℕ) → i < 4 → j < 4 → k < 4 → i ≢ j → j ≢ k → i ≢ k → (s : ℕ) × (s < 4) × (i ≢ s) × (j ≢ s) × (k ≢ s)
fourth i j k hi hj hk ij jk ik =
    let few : i + j + k ≤ 6 = omega arith in
    let small : 6 - (i + j + k) < 4 = omega arith in
    (6 - (i + j + k), small, λ e. omega arith, λ e. omega arith, λ e. omega arith)

-- and has the faces that it names: the owner leaves out the place at which none of the three points stands
module _ (C : List ℕ) (q a b c : ℕ) (ab : a < b) (bc : b < c) where
  leaves_out : (s : ℕ) → s < 4 → (i j k : ℕ) → i < 4 → j < 4 → k < 4 → i ≢ s → j ≢ s → k ≢ s
      → point_at C q i ≡ a → point_at C q j ≡ b → point_at C q k ≡ c → (x : ℕ) × (x / 4 ≡ q) × (face_of C x ≡ a ∷ b ∷ c ∷ [])
  leaves_out s h i j k hi hj hk di dj dk ei ej ek =
      (4 * q + s, cell, put_right (side C (4 * q + s) 0) (side C (4 * q + s) 1) (side C (4 * q + s) 2) a b c ab bc (on hi di ei) (on hj dj ej) (on hk dk ek))
    where
      cell : (4 * q + s) / 4 ≡ q
      cell = omega arith

      on : {t x : ℕ} → t < 4 → t ≢ s → point_at C q t ≡ x → In x (side C (4 * q + s) 0) (side C (4 * q + s) 1) (side C (4 * q + s) 2)
      on {t} {x} b d e = on_side C (4 * q + s) t x b (λ g. omega arith) (ap (λ (n : ℕ). point_at C n t) cell ∙ e)

  pub has_named : names (cell_at C q) (a ∷ b ∷ c ∷ []) ≡ true → (x : ℕ) × (x / 4 ≡ q) × (face_of C x ≡ a ∷ b ∷ c ∷ [])
  unfolding names
  has_named n =
      let A = among a (cell_at C q) in
      let B = among b (cell_at C q) in
      let D = among c (cell_at C q) in
      let t = and_right A (B && (D && true)) n in
      let u = place_of C q a (and_left A (B && (D && true)) n) in
      let v = place_of C q b (and_left B (D && true) t) in
      let w = place_of C q c (and_left D true (and_right B (D && true) t)) in
      let s = fourth u.0 v.0 w.0 u.1 v.1 w.1 (apart u.2 v.2 ab) (apart v.2 w.2 bc) (apart u.2 w.2 (omega arith)) in
      leaves_out s.0 s.1 u.0 v.0 w.0 u.1 v.1 w.1 s.2 s.3 s.4 u.2 v.2 w.2
    where
      apart : {i j x y : ℕ} → point_at C q i ≡ x → point_at C q j ≡ y → x < y → i ≢ j
      apart p r h e = omega (arith, ap (point_at C q) e)

-- the points of a face of a cell that names four points rise
pub face_rises : (C : List ℕ) → Proper C → (o : ℕ) → o < 4 * cells_of C
    → (lowest (side C o 0) (side C o 1) (side C o 2) < middle (side C o 0) (side C o 1) (side C o 2))
    × (middle (side C o 0) (side C o 1) (side C o 2) < highest (side C o 0) (side C o 1) (side C o 2))
face_rises C proper o h =
    let d = sides_differ C o (proper (o / 4) (omega arith)) in
    rises (side C o 0) (side C o 1) (side C o 2) (d 0 1 (omega arith) (omega arith)) (d 0 2 (omega arith) (omega arith)) (d 1 2 (omega arith) (omega arith))
