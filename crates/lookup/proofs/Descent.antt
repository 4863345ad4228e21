-- The descent from the root, step by step. Assumes nothing.
use mathlib.Core.Path.{◌≡◌, refl, ap, sym, ◌∙◌, fun_ext}
use mathlib.Core.Bool.{Bool, true, false, ◌&&◌, or_assoc}
use Prim.Native.Nat.{ℕ, zero, suc, ◌+◌, ◌*◌, ◌-◌, ◌/◌, ◌%◌, ◌^◌, ◌≤◌, ◌<◌}
use native.Mathlib.Omega.{arith}
use native.Mathlib.Nat.{div-lt_iff_lt-mul}
use lib.Pow.{pow-add, pow_pos}
use Rattle.lists.specs.Tests.{any}
use Rattle.space.specs.Space.{Pos, pos}
use Rattle.space.proofs.Space.{on_all}
use Rattle.octants.specs.Oct.{Tree, In, counts, within, hit, width}
use Rattle.octants.proofs.Near.{in_within}
use Rattle.octree.specs.Parts.{place_of}
use Rattle.octree.specs.declared.Octant.{Octant}
use Rattle.octree_cells.specs.Cells.{up, is_leaf, leaf_at, leaf_around, at_most, on_grid, finer}
use Rattle.lookup.specs.Parts.{ancestor_of, descent_of, covered_of}
use Rattle.lookup.specs.declared.Covered.TheVariants.{Leaf, Split, Outside}

-- ---- an ancestor

pub place_up : (o : Octant) (k : ℕ) → place_of (ancestor_of k o) ≡ up k (place_of o)
place_up o k = fun_ext (on_all (λ a. place_of (ancestor_of k o) a ≡ up k (place_of o) a) refl refl refl)

-- is in the box
over_lt : (l c m k a : ℕ) → m + k ≤ l → a < c * 2 ^ (l - m) → a / 2 ^ k < c * 2 ^ (l - (m + k))
over_lt l c m k a f h =
    let e : l - m ≡ l - (m + k) + k = omega arith in
    let g : c * 2 ^ (l - m) ≡ c * 2 ^ (l - (m + k)) * 2 ^ k = ap (λ (v : ℕ). c * 2 ^ v) e ∙ ap (λ (v : ℕ). c * v) (pow-add 2 (l - (m + k)) k) ∙ omega arith in
    (div-lt_iff_lt-mul (pow_pos k)).1 (omega arith)

-- what is read of it
pub over_read : (l : ℕ) (d : Pos) (t : Tree) (o : Octant) (k : ℕ) → o.level + k ≤ l → In l d o.level (place_of o) → {r : Bool} {a : Octant} → a ≡ ancestor_of k o
    → r ≡ hit (counts l d a.level) (t a.level) (place_of a) → r ≡ t (o.level + k) (place_of (ancestor_of k o))
over_read l d t o k f h g e =
    let n : Pos = counts l d (o.level + k) in
    let p : Pos = place_of (ancestor_of k o) in
    e ∙ ap (λ (a : Octant). hit (counts l d a.level) (t a.level) (place_of a)) g
    ∙ ap (λ (b : Bool). b && t (o.level + k) p) (in_within n p (rw (place_up o k) (λ a. over_lt l (d a) o.level k (place_of o a) f (h a))))

-- ---- a step

module _ (t : Tree) (o : Octant) where
  pub descent_leaf : (k : ℕ) → {a : Octant} → a ≡ ancestor_of k o → t (o.level + k) (place_of (ancestor_of k o)) ≡ false → Leaf a ≡ descent_of t o k
  unfolding descent_of
  descent_leaf zero e h = ap Leaf e ∙ rw h
  descent_leaf (suc k) e h = ap Leaf e ∙ rw h

  pub descent_split : (k : ℕ) → k ≡ 0 → t (o.level + k) (place_of (ancestor_of k o)) ≡ true → Split ≡ descent_of t o k
  unfolding descent_of
  descent_split zero e h = rw h
  descent_split (suc k) e h = absurd (omega arith)

  pub descent_down : (k : ℕ) → 1 ≤ k → t (o.level + k) (place_of (ancestor_of k o)) ≡ true → descent_of t o (k - 1) ≡ descent_of t o k
  unfolding descent_of
  descent_down zero e h = absurd (omega arith)
  descent_down (suc k) e h =
      let i : suc k - 1 ≡ k = omega arith in
      ap (descent_of t o) i ∙ rw h

-- ---- the whole

module _ (l : ℕ) (d : Pos) (t : Tree) (o : Octant) where
  pub covered_outside : within (counts l d o.level) (place_of o) ≡ false → Outside ≡ covered_of l d t o
  unfolding covered_of
  covered_outside h = rw h

  pub covered_inside : within (counts l d o.level) (place_of o) ≡ true → descent_of t o (l - o.level) ≡ covered_of l d t o
  unfolding covered_of
  covered_inside h = rw h

-- ---- the octants around a point

module _ (l : ℕ) (d : Pos) (t : Tree) (m x y z i j k : ℕ) where
  pub corner_in : at_most (pos i j k) (pos x y z) ≡ true → is_leaf l d t m (pos (x - i) (y - j) (z - k)) ≡ leaf_at l d t m (pos x y z) (pos i j k)
  corner_in h =
      ap (is_leaf l d t m) (fun_ext (on_all (λ a. pos (x - i) (y - j) (z - k) a ≡ pos x y z a - pos i j k a) refl refl refl))
      ∙ ap (λ (b : Bool). b && is_leaf l d t m (λ a. pos x y z a - pos i j k a)) (sym h)

-- the eight corners one after the other, the x bit lowest
pub eight : (g : Pos → Bool) → any 8 (λ n. g (pos (n % 2) (n / 2 % 2) (n / 4))) ≡ any 2 (λ k. any 2 (λ j. any 2 (λ i. g (pos i j k))))
unfolding any
eight g = simp or_assoc

-- ---- a finer vertex

pub finest_none : (l : ℕ) (d : Pos) (t : Tree) (v : Pos) (m : ℕ) → m ≡ 0 → false ≡ finer l d t m v
unfolding finer
finest_none l d t v zero e = refl
finest_none l d t v (suc m) e = absurd (omega arith)

-- a level down, with its width
module _ (l : ℕ) (d : Pos) (t : Tree) (x y z m w : ℕ) (p : 1 ≤ m) (e : w ≡ width (m - 1)) where
  at_width : (r : Bool) → r ≡ on_grid w (pos x y z) && leaf_around l d t (m - 1) (λ a. pos x y z a / w) → r ≡ finer l d t m (pos x y z)
  unfolding finer
  at_width r h =
      let s : suc (m - 1) ≡ m = omega arith in
      h ∙ ap (λ (v : ℕ). on_grid v (pos x y z) && leaf_around l d t (m - 1) (λ a. pos x y z a / v)) e ∙ ap (λ (n : ℕ). finer l d t n (pos x y z)) s

  pub off_grid : on_grid w (pos x y z) ≡ false → false ≡ finer l d t m (pos x y z)
  off_grid h = at_width false (ap (λ (b : Bool). b && leaf_around l d t (m - 1) (λ a. pos x y z a / w)) (sym h))

  pub on_grid_lem : {r : Bool} → on_grid w (pos x y z) ≡ true → r ≡ leaf_around l d t (m - 1) (pos (x / w) (y / w) (z / w)) → r ≡ finer l d t m (pos x y z)
  on_grid_lem {r} h c = at_width r
      (c ∙ ap (leaf_around l d t (m - 1)) (fun_ext (on_all (λ a. pos (x / w) (y / w) (z / w) a ≡ pos x y z a / w) refl refl refl))
      ∙ ap (λ (b : Bool). b && leaf_around l d t (m - 1) (λ a. pos x y z a / w)) (sym h))
