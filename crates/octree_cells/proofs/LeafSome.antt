-- Something holds of what the leaves give exactly when it holds of what one leaf gives.
use mathlib.Core.Path.{◌≡◌, refl, ap, sym, ◌∙◌, subst, fun_ext}
use mathlib.Core.Bool.{Bool, true, false, cond, ◌||◌}
use mathlib.Core.List.{List, [], ◌++◌}
use mathlib.Core.Logic.{⊎_elim}
use Prim.Native.Nat.{ℕ, zero, suc, ◌+◌, ◌-◌, ◌%◌, ◌≤◌, ◌<◌}
use native.Mathlib.Omega.{arith}
use native.Mathlib.Decide.{dec_le}
use Rattle.space.specs.Space.{Axis, ax, ay, az, Pos, pos, Inside}
use Rattle.octants.specs.Oct.{Tree, parent, In}
use Rattle.lists.proofs.Bools.{and_both, or_cases, or_left, or_right, bool_cases, clash}
use Rattle.space.proofs.Space.{pos_eta, on_all}
use Rattle.octants.proofs.Least.{parent_inside}
use Rattle.octree_cells.specs.Cells.{down, box_down, below, two, child, over_leaves}
use Rattle.octree_cells.specs.Leaf.{opened}
use Rattle.octree_cells.proofs.Opened.{opened_parent, root_reached, reached_root, child_reached, leaf_reached, reached_leaf}
use Rattle.octree_cells.specs.Leaf.{IsLeaf, Reached}

pub whole_of : (l : ℕ) (d : Pos) (t : Tree) (m : ℕ) (x : Pos) → IsLeaf l d t m x → t m x ≡ false
whole_of l d t m x h = (reached_leaf l d t h).1

module _ {A : Type 0} (h : List A → Bool) (nil : h [] ≡ false) (app : (a b : List A) → h (a ++ b) ≡ h a || h b) where
  down_some : (n : ℕ) (f : ℕ → List A) → h (down n f) ≡ true → (i : ℕ) × (i < n) × (h (f i) ≡ true)
  unfolding down
  down_some zero f s = clash s nil
  down_some (suc n) f s = ⊎_elim
      (λ e. (n, omega arith, e))
      (λ e. let r = down_some n f e in (r.0, omega (arith, r.1), r.2))
      (or_cases (h (f n)) (h (down n f)) (sym (app (f n) (down n f)) ∙ s))

  some_down : (n : ℕ) (f : ℕ → List A) (i : ℕ) → i < n → h (f i) ≡ true → h (down n f) ≡ true
  unfolding down
  some_down zero f i p s = absurd (omega arith)
  some_down (suc n) f i p s = app (f n) (down n f) ∙ go (dec_le n i) (λ q. some_down n f i q s)
    where
      go : Dec (n ≤ i) → (i < n → h (down n f) ≡ true) → h (f n) || h (down n f) ≡ true
      go (yes q) r = let e : i ≡ n = omega arith in or_left (h (f n)) (h (down n f)) (subst (λ (k : ℕ). h (f k) ≡ true) e s)
      go (no q) r = or_right (h (f n)) (h (down n f)) (r (omega arith))

  pub box_some : (n : Pos) (f : Pos → List A) → h (box_down n f) ≡ true → (x : Pos) × (Inside n x) × (h (f x) ≡ true)
  unfolding box_down
  box_some n f s =
      let rk = down_some (n az) (λ k. down (n ay) (λ j. down (n ax) (λ i. f (pos i j k)))) s in
      let rj = down_some (n ay) (λ j. down (n ax) (λ i. f (pos i j rk.0))) rk.2 in
      let ri = down_some (n ax) (λ i. f (pos i rj.0 rk.0)) rj.2 in
      (pos ri.0 rj.0 rk.0, on_all _ ri.1 rj.1 rk.1, ri.2)

  pub some_box : (n : Pos) (f : Pos → List A) (x : Pos) → Inside n x → h (f x) ≡ true → h (box_down n f) ≡ true
  unfolding box_down
  some_box n f x p s =
      some_down (n az) (λ k. down (n ay) (λ j. down (n ax) (λ i. f (pos i j k)))) (x az) (p az)
      (some_down (n ay) (λ j. down (n ax) (λ i. f (pos i j (x az)))) (x ay) (p ay)
      (some_down (n ax) (λ i. f (pos i (x ay) (x az))) (x ax) (p ax)
      (subst (λ (z : Pos). h (f z) ≡ true) (sym (pos_eta x)) s)))

  module _ (l : ℕ) (d : Pos) (t : Tree) (f : ℕ → Pos → List A) where
    at_leaf : (m : ℕ) (x : Pos) → t m x ≡ false → h (f m x) ≡ h (below t f m x)
    unfolding below
    at_leaf zero x e = refl
    at_leaf (suc m) x e = sym (ap (λ (b : Bool). h (cond b (box_down two (λ o. below t f m (child x o))) (f (suc m) x))) e)

    below_some : ((x : Pos) → t 0 x ≡ false) → (m : ℕ) (x : Pos) → Reached l d t m x → h (below t f m x) ≡ true
        → (n : ℕ) × (y : Pos) × (IsLeaf l d t n y) × (h (f n y) ≡ true)
    unfolding below
    below_some fin zero x r s = (0, x, leaf_reached l d t r (fin x), s)
    below_some fin (suc m) x r s = ⊎_elim
        (λ e.
        let c = box_some two (λ o. below t f m (child x o)) (sym (ap (λ (b : Bool). h (cond b (box_down two (λ o. below t f m (child x o))) (f (suc m) x))) e) ∙ s) in
        below_some fin m (child x c.0) (child_reached l d t r e c.0 c.1) c.2)
        (λ e. (suc m, x, leaf_reached l d t r e, at_leaf (suc m) x e ∙ s))
        (bool_cases (t (suc m) x))

    pub leaves_some : ((x : Pos) → t 0 x ≡ false) → h (over_leaves l d t f) ≡ true → (n : ℕ) × (y : Pos) × (IsLeaf l d t n y) × (h (f n y) ≡ true)
    leaves_some fin s = let r = box_some d (below t f l) s in below_some fin l r.0 (root_reached l d t r.0 r.1) r.2

    -- up to the root
    rise : (k m : ℕ) (z : Pos) → m + k ≡ l → In l d m z → opened t m z k ≡ true → h (below t f m z) ≡ true → h (over_leaves l d t f) ≡ true
    unfolding below
    rise zero m z e p o s =
        let g : m ≡ l = omega arith in
        let q = subst (λ (n : ℕ). (In l d n z) × (h (below t f n z) ≡ true)) g (p, s) in
        some_box d (below t f l) z (reached_root l d t z q.0) q.1
    rise (suc k) m z e p o s =
        let r = and_both (t (suc m) (parent z)) (opened t (suc m) (parent z) k) (sym (opened_parent t m z k) ∙ o) in
        let c : Pos = pos (z ax % 2) (z ay % 2) (z az % 2) in
        rise k (suc m) (parent z) (omega arith) (parent_inside l d m z (omega arith) p) r.1
        (ap (λ (b : Bool). h (cond b (box_down two (λ o. below t f m (child (parent z) o))) (f (suc m) (parent z)))) r.0
        ∙ some_box two (λ o. below t f m (child (parent z) o)) c (bits z) (subst (λ (y : Pos). h (below t f m y) ≡ true) (sym (whole_child z)) s))
      where
        bits : (z : Pos) → Inside two (pos (z ax % 2) (z ay % 2) (z az % 2))
        bits z ax = omega arith
        bits z ay = omega arith
        bits z az = omega arith

        whole_child : (z : Pos) → child (parent z) (pos (z ax % 2) (z ay % 2) (z az % 2)) ≡ z
        whole_child z = fun_ext go
          where
            go : (a : Axis) → child (parent z) (pos (z ax % 2) (z ay % 2) (z az % 2)) a ≡ z a
            go ax = omega arith
            go ay = omega arith
            go az = omega arith

    pub some_leaves : (n : ℕ) (y : Pos) → IsLeaf l d t n y → h (f n y) ≡ true → h (over_leaves l d t f) ≡ true
    some_leaves n y p s =
        let q = reached_leaf l d t p in
        rise (l - n) n y (omega (arith, p.fits)) p.inside q.0.under (sym (at_leaf n y q.1) ∙ s)
