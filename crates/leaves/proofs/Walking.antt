-- The walk over the leaves, turn by turn. Assumes nothing.
use mathlib.Core.Path.{◌≡◌, refl, sym, ap, ◌∙◌, subst}
use mathlib.Core.Bool.{Bool, true, false, ◌&&◌}
use mathlib.Core.List.{List, [], ◌++◌}
use Prim.Native.Nat.{ℕ, zero, suc, ◌+◌, ◌-◌, ◌*◌, ◌/◌, ◌%◌, ◌^◌, ◌≤◌, ◌<◌}
use native.Mathlib.Omega.{arith}
use native.Mathlib.Nat.{mul-le-mul, pow-le-pow_right}
use lib.ListN.{length, length-append}
use lib.Seq.{sets, length-sets}
use Rattle.space.specs.Space.{Axis, ax, ay, az, Pos}
use Rattle.space.specs.Levels.{size}
use Rattle.lists.specs.Tests.{bit}
use Rattle.lists.proofs.Bools.{clash}
use Rattle.lists.proofs.Parts.{sets_append, sets_whole}
use Rattle.octants.specs.Oct.{Tree, counts, hit}
use Rattle.octants.specs.Table.{place}
use Rattle.octants.proofs.Near.{in_within}
use Rattle.octants.proofs.TableLaws.{place_in_lem}
use Rattle.octree.specs.Parts.{roots_of, place_of, tree_of}
use Rattle.octree.specs.declared.Roots.{Roots}
use Rattle.octree.specs.declared.Octant.{Octant}
use Rattle.octree_cells.specs.Cells.{Cell, Face, Side, split, equal, coarser, border, middle, down, below, two, leaf_cells, cells, face_cells, side, face, finer}
use Rattle.octree_cells.specs.Leaf.{Reached}
use Rattle.octree_cells.proofs.Counting.{cells_length, count_at, edges_of}
use Rattle.octree_cells.proofs.Opened.{root_reached, child_reached, leaf_reached}
use Rattle.sides.specs.Parts.{Taken, LeafIn, cells_at, cells_in}
use Rattle.leaves.specs.declared.Tally.{Tally}
use Rattle.leaves.specs.Parts.{alone, leaf_list, leaves_in, giving, leaves_below, cells_below, leaves_of, cells_of, Left, nothing, Walked}
use Rattle.leaves.proofs.Lines.{box_line, octant_leaf, octant_split, kids_more, down_none, down_more, leaves_bound, leaves_some, leaves_times}

-- ---- what a walk leaves behind

module _ {o o₁ o₂ A B K : List ℕ} {C D E : List Cell} {u v r : Tally} where
  pub walked_both : K ≡ A ++ B → E ≡ C ++ D → Walked o u A C v o₁ → Walked o₁ v B D r o₂ → Walked o u K E r o₂
  walked_both e f p q =
      let a : length K ≡ length A + length B = ap length e ∙ length-append A B in
      let b : length E ≡ length C + length D = ap length f ∙ length-append C D in
      record {
        met = omega (arith, p.met, q.met);
        stored =
            q.stored ∙ ap (λ (t : List ℕ). sets t v.leaves B) p.stored ∙ ap (λ (m : ℕ). sets (sets o u.leaves A) m B) p.met
            ∙ sym (sets_append A B o u.leaves) ∙ ap (λ (t : List ℕ). sets o u.leaves t) (sym e);
        most = omega (arith, p.most, q.most);
        counted = λ z. let y : length o₁ ≡ 0 = ap length p.stored ∙ length-sets o u.leaves A ∙ z in omega (arith, p.counted z, q.counted y);
      }

pub walked_as : {o o₁ A K : List ℕ} {C E : List Cell} {u r : Tally} → K ≡ A → E ≡ C → Walked o u A C r o₁ → Walked o u K E r o₁
walked_as {o} {o₁} {A} {K} {C} {E} {u} {r} e f p = subst (λ (l : List ℕ). Walked o u l E r o₁) (sym e) (subst (λ (l : List Cell). Walked o u A l r o₁) (sym f) p)

pub walked_none : (o K : List ℕ) (E : List Cell) (u : Tally) → K ≡ [] → E ≡ [] → Walked o u K E u o
walked_none o K E u e f = walked_as e f (record { met = omega arith; stored = refl; most = omega arith; counted = λ z. omega arith })

-- ---- from an octant to its children

module _ (s : List ℕ) (d : Roots) (h : Taken s d) where
  abbrev t : Tree
  t = tree_of d s

  pub split_above : (m : ℕ) (x : Pos) → tree_of d s m x ≡ true → 0 < m
  split_above zero x e = clash e (h.graded.finest x)
  split_above (suc m) x e = omega arith

  module _ (o : Octant) {K : List ℕ} {E : List Cell} {u : Tally} (f : Left s d o K E u) where
    -- what the octant's byte was found to be
    pub byte_is : {r b : Bool} → r ≡ hit (counts d.levels (roots_of d) o.level) (tree_of d s o.level) (place_of o) → r ≡ b → tree_of d s o.level (place_of o) ≡ b
    byte_is e g =
        sym (ap (λ (b : Bool). b && t o.level (place_of o)) (in_within (counts d.levels (roots_of d) o.level) (place_of o) f.reached.inside)) ∙ sym e ∙ g

    pub leaf_here : tree_of d s o.level (place_of o) ≡ false → LeafIn s d o
    leaf_here e = leaf_reached d.levels (roots_of d) t f.reached e

    left_as : {K' : List ℕ} {E' : List Cell} → K ≡ K' → E ≡ E' → Left s d o K' E' u
    left_as a b = record {
      reached = f.reached;
      few = subst (λ (k : List ℕ). u.leaves + length k < 2 ^ 64) a f.few;
      less = subst (λ (k : List Cell). u.cells + length k < 2 ^ 64) b f.less;
    }

  module _ (o : Octant) where
    -- a split octant, by its eight children; an octant that is a leaf
    module _ (e : tree_of d s o.level (place_of o) ≡ true) where
      above : 0 < o.level
      above = split_above o.level (place_of o) e

      pub eight_leaves : leaves_below s d o ≡ leaves_of s d o 8
      eight_leaves = octant_split t alone o.level (place_of o) above e

      pub eight_cells : cells_below s d o ≡ cells_of s d o 8
      eight_cells = octant_split t (giving s d) o.level (place_of o) above e

      pub left_split : {u : Tally} → Left s d o (leaves_below s d o) (cells_below s d o) u → Left s d o (leaves_of s d o 8) (cells_of s d o 8) u
      left_split f = left_as o f eight_leaves eight_cells

    module _ (e : tree_of d s o.level (place_of o) ≡ false) where
      pub one_leaf : leaves_below s d o ≡ alone o.level (place_of o)
      one_leaf = octant_leaf t alone o.level (place_of o) e

      pub own_cells : cells_below s d o ≡ cells_at s d o
      own_cells = octant_leaf t (giving s d) o.level (place_of o) e

      pub left_leaf : {u : Tally} → Left s d o (leaves_below s d o) (cells_below s d o) u → (u.leaves + 1 < 2 ^ 64) × (u.cells + length (cells_at s d o) < 2 ^ 64)
      left_leaf f = (omega (arith, f.few, ap length one_leaf), omega (arith, f.less, ap length own_cells))

  -- child n - 1 of a split octant
  module _ (o : Octant) (n : ℕ) (p : 0 < n) where
    abbrev pub child_at : Octant
    child_at = record { level = o.level - 1; x = 2 * o.x + (n - 1) % 2; y = 2 * o.y + (n - 1) / 2 % 2; z = 2 * o.z + (n - 1) / 4 }

    pub leaves_more : leaves_of s d o n ≡ leaves_below s d child_at ++ leaves_of s d o (n - 1)
    leaves_more = kids_more t alone (o.level - 1) (place_of o) n p

    pub cells_more : cells_of s d o n ≡ cells_below s d child_at ++ cells_of s d o (n - 1)
    cells_more = kids_more t (giving s d) (o.level - 1) (place_of o) n p

    module _ {u : Tally} (f : Left s d o (leaves_of s d o n) (cells_of s d o n) u) where
      leaves_split : length (leaves_of s d o n) ≡ length (leaves_below s d child_at) + length (leaves_of s d o (n - 1))
      leaves_split = ap length leaves_more ∙ length-append (leaves_below s d child_at) (leaves_of s d o (n - 1))

      cells_split : length (cells_of s d o n) ≡ length (cells_below s d child_at) + length (cells_of s d o (n - 1))
      cells_split = ap length cells_more ∙ length-append (cells_below s d child_at) (cells_of s d o (n - 1))

      pub left_child : n ≤ 8 → tree_of d s o.level (place_of o) ≡ true → Left s d child_at (leaves_below s d child_at) (cells_below s d child_at) u
      left_child q e =
          let g : o.level ≡ suc (o.level - 1) = omega (arith, split_above o.level (place_of o) e) in
          let r = subst (λ (m : ℕ). Reached d.levels (roots_of d) (tree_of d s) m (place_of o) × (tree_of d s m (place_of o) ≡ true)) g (f.reached, e) in
          record {
            reached = child_reached d.levels (roots_of d) t r.0 r.1 (place two (n - 1)) (place_in_lem two (n - 1) (omega arith));
            few = omega (arith, leaves_split, f.few);
            less = omega (arith, cells_split, f.less);
          }

      pub left_rest : {l l₁ : List ℕ} {r : Tally} → Walked l u (leaves_below s d child_at) (cells_below s d child_at) r l₁
          → Left s d o (leaves_of s d o (n - 1)) (cells_of s d o (n - 1)) r
      left_rest w = record { reached = f.reached; few = omega (arith, leaves_split, f.few, w.met); less = omega (arith, cells_split, f.less, w.most) }

-- ---- few enough for a u64

module _ (s : List ℕ) (d : Roots) (h : Taken s d) where
  face_few : (m : ℕ) (x : Pos) (a : Axis) (b : Bool) → length (face_cells d.levels (roots_of d) (tree_of d s) m x a b) ≤ 8
  face_few m x a b =
      rw (cells_length fine m x a b (side d.levels (roots_of d) (tree_of d s) m x a b)) (most_at (edges_few (face m x a b)) b (side d.levels (roots_of d) (tree_of d s) m x a b))
    where
      fine : Pos → Bool
      fine = finer d.levels (roots_of d) (tree_of d s) m

      bit_few : (c : Bool) → bit c ≤ 1
      bit_few true = omega arith
      bit_few false = omega arith

      edges_few : (f : Face) → edges_of fine f ≤ 4
      edges_few f =
          omega (arith, bit_few (fine (middle f.p0 f.p1)), bit_few (fine (middle f.p1 f.p2)), bit_few (fine (middle f.p2 f.p3)), bit_few (fine (middle f.p3 f.p0)))

      most_at : {e : ℕ} → e ≤ 4 → (b : Bool) (c : Side) → count_at e b c ≤ 8
      most_at q b split = omega arith
      most_at q false equal = omega arith
      most_at q true equal = omega arith
      most_at q b (coarser n z) = omega arith
      most_at q b border = omega arith

  pub leaf_few : (m : ℕ) (x : Pos) → length (giving s d m x) ≤ 48
  unfolding leaf_cells
  leaf_few m x =
      simp length-append
      (omega (arith, face_few m x ax false, face_few m x ax true, face_few m x ay false, face_few m x ay true, face_few m x az false, face_few m x az true))

  roots_few : (most : ℕ) → size (roots_of d) * (8 ^ d.levels * most) ≤ 262144 * (32768 * most)
  roots_few most =
      let f = h.covers.roots.few in
      let b : size (roots_of d) ≤ 64 * 64 * 64 = mul-le-mul (mul-le-mul (f ax) (f ay)) (f az) in
      let c : 8 ^ d.levels ≤ 8 ^ 5 = pow-le-pow_right {n = 8} (omega arith) h.covers.levels in
      let e : most ≤ most = omega arith in
      mul-le-mul b (mul-le-mul c e)

  leaves_few : length (leaves_in s d) ≤ 8589934592
  leaves_few = omega (arith, leaves_bound (tree_of d s) alone 1 (λ m x. omega arith) d.levels (roots_of d), roots_few 1)

  pub cells_few : length (cells_in s d) ≤ 412316860416
  cells_few = omega (arith, leaves_bound (tree_of d s) (giving s d) 48 leaf_few d.levels (roots_of d), roots_few 48)

-- ---- the roots, one after the other

module _ (s : List ℕ) (d : Roots) where
  abbrev root_at : ℕ → Octant
  root_at r = record { level = d.levels; x = r % d.nx; y = r / d.nx % d.ny; z = r / (d.nx * d.ny) }

  abbrev leaves_to : ℕ → List ℕ
  leaves_to n = down n (λ r. leaves_below s d (root_at r))

  abbrev cells_to : ℕ → List Cell
  cells_to n = down n (λ r. cells_below s d (root_at r))

  -- n roots are still to be walked
  pub record Going (l₀ l : List ℕ) (n : ℕ) (u : Tally) : Type 0 where
    pub left : n ≤ size (roots_of d)
    pub same : length l ≡ length l₀
    pub stored : sets l u.leaves (leaves_to n) ≡ sets l₀ 0 (leaves_in s d)
    pub met : u.leaves + length (leaves_to n) ≡ length (leaves_in s d)
    pub most : u.cells + length (cells_to n) ≤ length (cells_in s d)
    pub counted : length l₀ ≡ 0 → u.cells + length (cells_to n) ≡ length (cells_in s d)

  pub going_start : (l : List ℕ) → Going l l (d.nx * d.ny * d.nz) nothing
  going_start l =
      let a : leaves_to (size (roots_of d)) ≡ leaves_in s d = sym (box_line (roots_of d) (below (tree_of d s) alone d.levels)) in
      let b : cells_to (size (roots_of d)) ≡ cells_in s d = sym (box_line (roots_of d) (below (tree_of d s) (giving s d) d.levels)) in
      record {
        left = omega arith;
        same = refl;
        stored = ap (sets l 0) a;
        met = omega (arith, ap length a);
        most = omega (arith, ap length b);
        counted = λ z. omega (arith, ap length b);
      }

  module _ (l₀ l : List ℕ) (n : ℕ) (u : Tally) (g : Going l₀ l n u) where
    module _ (p : 0 < n) where
      leaves_next : leaves_to n ≡ leaves_below s d (root_at (n - 1)) ++ leaves_to (n - 1)
      leaves_next = down_more n (λ r. leaves_below s d (root_at r)) p

      leaves_long : length (leaves_to n) ≡ length (leaves_below s d (root_at (n - 1))) + length (leaves_to (n - 1))
      leaves_long = ap length leaves_next ∙ length-append (leaves_below s d (root_at (n - 1))) (leaves_to (n - 1))

      cells_long : length (cells_to n) ≡ length (cells_below s d (root_at (n - 1))) + length (cells_to (n - 1))
      cells_long = ap length (down_more n (λ r. cells_below s d (root_at r)) p) ∙ length-append (cells_below s d (root_at (n - 1))) (cells_to (n - 1))

      pub going_root : Taken s d → Left s d (root_at (n - 1)) (leaves_below s d (root_at (n - 1))) (cells_below s d (root_at (n - 1))) u
      going_root h = record {
        reached = root_reached d.levels (roots_of d) (tree_of d s) (place_of (root_at (n - 1))) (place_in_lem (roots_of d) (n - 1) (omega (arith, g.left)));
        few = omega (arith, leaves_long, g.met, leaves_few s d h);
        less = omega (arith, cells_long, g.most, cells_few s d h);
      }

      pub going_on : {l₁ : List ℕ} {r : Tally} → Walked l u (leaves_below s d (root_at (n - 1))) (cells_below s d (root_at (n - 1))) r l₁ → Going l₀ l₁ (n - 1) r
      going_on {l₁} {r} w =
          let B : List ℕ = leaves_below s d (root_at (n - 1)) in
          record {
            left = omega (arith, g.left);
            same = ap length w.stored ∙ length-sets l u.leaves B ∙ g.same;
            stored =
                ap (λ (x : List ℕ). sets x r.leaves (leaves_to (n - 1))) w.stored
                ∙ ap (λ (k : ℕ). sets (sets l u.leaves B) k (leaves_to (n - 1))) w.met
                ∙ sym (sets_append B (leaves_to (n - 1)) l u.leaves)
                ∙ ap (sets l u.leaves) (sym leaves_next) ∙ g.stored;
            met = omega (arith, leaves_long, g.met, w.met);
            most = omega (arith, cells_long, g.most, w.most);
            counted = λ z. omega (arith, cells_long, g.counted z, w.counted (g.same ∙ z));
          }

    pub going_done : n ≤ 0 → Walked l₀ nothing (leaves_in s d) (cells_in s d) u l
    going_done z =
        let e : n ≡ 0 = omega arith in
        let p : leaves_to n ≡ [] = down_none n _ e in
        let q : cells_to n ≡ [] = down_none n _ e in
        record {
          met = omega (arith, ap length p, g.met);
          stored = sym (ap (sets l u.leaves) p) ∙ g.stored;
          most = omega (arith, ap length q, g.most);
          counted = λ y. omega (arith, ap length q, g.counted y);
        }

-- ---- at least six cells a leaf: two at each positive face

pub six_each : (l : ℕ) (d : Pos) (t : Tree) → 6 * length (leaf_list l d t) ≤ length (cells l d t)
unfolding leaf_cells
six_each l d t = leaves_times t alone (leaf_cells l d t) 6 leaf_six l d
  where
    two_at : (e : ℕ) (c : Side) → 2 ≤ count_at e true c
    two_at e split = omega arith
    two_at e equal = omega arith
    two_at e (coarser n z) = omega arith
    two_at e border = omega arith

    face_two : (m : ℕ) (x : Pos) (a : Axis) → 2 ≤ length (face_cells l d t m x a true)
    face_two m x a = rw (cells_length (finer l d t m) m x a true (side l d t m x a true)) (two_at _ (side l d t m x a true))

    leaf_six : (m : ℕ) (x : Pos) → 6 * length (alone m x) ≤ length (leaf_cells l d t m x)
    leaf_six m x = simp length-append (omega (arith, face_two m x ax, face_two m x ay, face_two m x az))

-- ---- at least one leaf

pub some_leaf : (s : List ℕ) (d : Roots) → Taken s d → 1 ≤ length (leaves_in s d)
some_leaf s d h =
    let f = h.covers.roots.some in
    let b : 1 * 1 * 1 ≤ size (roots_of d) = mul-le-mul (mul-le-mul (f ax) (f ay)) (f az) in
    leaves_some (tree_of d s) alone (λ m x. omega arith) d.levels (roots_of d) b

-- ---- the walk over a table of just as many entries

pub all_listed : (l l₁ K : List ℕ) (E : List Cell) (r : Tally) → Walked l nothing K E r l₁ → length l ≡ length K → l₁ ≡ K
all_listed l l₁ K E r w e = w.stored ∙ sets_whole K l (sym e)
