-- The side of a leaf of a graded octree, by the splits of the neighbour and of its parent alone.
use mathlib.Core.Path.{◌≡◌, refl, ap, sym, ◌∙◌, subst, subst₂, fun_ext}
use mathlib.Core.Bool.{Bool, true, false, cond, not, ◌||◌}
use mathlib.Core.Logic.{⊎_elim}
use Prim.Native.Nat.{ℕ, suc, ◌+◌, ◌*◌, ◌-◌, ◌/◌, ◌%◌, ◌≤◌, ◌<◌}
use native.Mathlib.Omega.{arith}
use native.Mathlib.Decide.{dec_le}
use lib.Dec.{eqb}
use borrow.Author.Tests.{eq-eqb, ne_eqb, ltb-true}
use Rattle.space.specs.Space.{Axis, ax, ay, az, Pos, next}
use Rattle.octants.specs.Oct.{Tree, counts, parent, In, Closed}
use Rattle.lists.proofs.Bools.{and_both, both_and, bool_cases, clash}
use Rattle.octants.proofs.Least.{closed_octree}
use Rattle.octree_cells.specs.Cells.{Side, split, equal, coarser, border, side, reaches, beside, stepped, end, face, face_centre, turns_to}
use Rattle.octree_cells.specs.Leaf.{own, IsLeaf, turn_at, Found}
use Rattle.octree_cells.proofs.Local.{own_local, own_root}
use Rattle.octree_cells.proofs.Sides.{beside_in_lem, side_split, side_coarser, side_equal, turns_parity, centre_in}

-- what the code finds: r, there is a neighbour; b, it is split; p, it is a root or its parent is split
abbrev pub local_side : (r b p : Bool) → Side → Side
local_side r b p other = cond r (cond b split (cond p equal other)) border

module _ (l : ℕ) (d : Pos) (t : Tree) (c : Closed l d t) (m : ℕ) (x : Pos) (a : Axis) (s : Bool) (leaf : IsLeaf l d t m x) where
  abbrev y : Pos
  y = beside a s x

  pub under_split : m < l → t (suc m) (parent x) ≡ true
  under_split h = (and_both (t (suc m) (parent x)) (not (t m x)) (sym (own_local l d t (closed_octree l d t c) m x h leaf.inside) ∙ leaf.owns)).0

  module _ (r : reaches (counts l d m a) s (x a) ≡ true) where
    inside_y : In l d m (beside a s x)
    inside_y = beside_in_lem (counts l d m) a s x leaf.inside r

    inner : (b p : Bool) → t m (beside a s x) ≡ b → (eqb m l || t (suc m) (parent (beside a s x))) ≡ p
        → side l d t m x a s ≡ cond b split (cond p equal (coarser (suc m) (parent (beside a s x))))
    inner true p e f = side_split l d t c m x a s leaf.inside r e
    inner false p e f = go (dec_le l m) p f
      where
        own_true : own t m (beside a s x) (l - m) ≡ true → side l d t m x a s ≡ equal
        own_true = side_equal l d t c m x a s leaf.inside r e

        go : Dec (l ≤ m) → (p : Bool) → (eqb m l || t (suc m) (parent (beside a s x))) ≡ p → side l d t m x a s ≡ cond p equal (coarser (suc m) (parent (beside a s x)))
        go (yes h) true f =
            let g : m ≡ l = omega (arith, leaf.fits) in
            own_true (subst (λ (n : ℕ). own t n (beside a s x) (l - n) ≡ true) (sym g) (own_root l d t (beside a s x) ∙ ap not (subst (λ (n : ℕ). t n (beside a s x) ≡ false) g e)))
        go (yes h) false f =
            let g : m ≡ l = omega (arith, leaf.fits) in
            clash (ap (λ (b : Bool). b || t (suc m) (parent (beside a s x))) (eq-eqb m l g)) f
        go (no h) p f =
            let g : eqb m l ≡ false = ne_eqb m l (λ k. omega arith) in
            below p (sym (ap (λ (b : Bool). b || t (suc m) (parent (beside a s x))) g) ∙ f)
          where
            less : m < l
            less = omega arith

            below : (p : Bool) → t (suc m) (parent (beside a s x)) ≡ p → side l d t m x a s ≡ cond p equal (coarser (suc m) (parent (beside a s x)))
            below true f = own_true (own_local l d t (closed_octree l d t c) m (beside a s x) less inside_y ∙ both_and _ _ f (ap not e))
            below false f = side_coarser l d t c m x a s leaf.inside r less (under_split less) e f

  pub side_local : side l d t m x a s
      ≡ local_side (reaches (counts l d m a) s (x a)) (t m (beside a s x)) (eqb m l || t (suc m) (parent (beside a s x))) (coarser (suc m) (parent (beside a s x)))
  unfolding side
  side_local = ⊎_elim
      (λ r. inner r (t m (beside a s x)) (eqb m l || t (suc m) (parent (beside a s x))) refl refl
      ∙ sym (ap (λ (b : Bool). local_side b (t m (beside a s x)) (eqb m l || t (suc m) (parent (beside a s x))) (coarser (suc m) (parent (beside a s x)))) r))
      (λ r. rw r)
      (bool_cases (reaches (counts l d m a) s (x a)))

-- a neighbour under another parent has its face in the plane of the leaf's
plane_of : (s : Bool) (n i : ℕ) → reaches n s i ≡ true → (stepped s i / 2 ≡ i / 2 → ⊥) → i + end s ≡ 2 * (stepped s i / 2 + end (not s))
plane_of true n i r h = go (dec_le (i % 2) 0)
  where
    go : Dec (i % 2 ≤ 0) → i + 1 ≡ 2 * ((i + 1) / 2 + 0)
    go (yes e) = let g : (i + 1) / 2 ≡ i / 2 = omega arith in absurd (h g)
    go (no e) = omega arith
plane_of false n i r h = let p : 0 < i = ltb-true 0 i r in go p (dec_le (i % 2) 0)
  where
    go : 0 < i → Dec (i % 2 ≤ 0) → i + 0 ≡ 2 * ((i - 1) / 2 + 1)
    go p (yes e) = omega arith
    go p (no e) = let g : (i - 1) / 2 ≡ i / 2 = omega arith in absurd (h g)

-- a step within one parent
same_parent : (a : Axis) (s : Bool) (x : Pos) → stepped s (x a) / 2 ≡ x a / 2 → parent (beside a s x) ≡ parent x
same_parent ax s x h = fun_ext go
  where
    go : (b : Axis) → beside ax s x b / 2 ≡ x b / 2
    go ax = h
    go ay = refl
    go az = refl
same_parent ay s x h = fun_ext go
  where
    go : (b : Axis) → beside ay s x b / 2 ≡ x b / 2
    go ax = refl
    go ay = h
    go az = refl
same_parent az s x h = fun_ext go
  where
    go : (b : Axis) → beside az s x b / 2 ≡ x b / 2
    go ax = refl
    go ay = refl
    go az = h

beside_at : (a : Axis) (s : Bool) (x : Pos) → (beside a s x a ≡ stepped s (x a)) × (beside a s x (next a) ≡ x (next a)) × (beside a s x (next (next a)) ≡ x (next (next a)))
beside_at ax s x = (refl, refl, refl)
beside_at ay s x = (refl, refl, refl)
beside_at az s x = (refl, refl, refl)

-- a coarser neighbour
module _ (t : Tree) (m : ℕ) (x : Pos) (a : Axis) (s : Bool) (n : ℕ) (r : reaches n s (x a) ≡ true)
    (p : t (suc m) (parent x) ≡ true) (f : t (suc m) (parent (beside a s x)) ≡ false) where
  plane : x a + end s ≡ 2 * (parent (beside a s x) a + end (not s))
  plane =
      plane_of s n (x a) r (λ e. clash (ap (t (suc m)) (same_parent a s x e) ∙ p) f)
      ∙ ap (λ (i : ℕ). 2 * (i / 2 + end (not s))) (sym (beside_at a s x).0)

  on1 : parent (beside a s x) (next a) ≡ x (next a) / 2
  on1 = ap (λ (i : ℕ). i / 2) (beside_at a s x).1

  on2 : parent (beside a s x) (next (next a)) ≡ x (next (next a)) / 2
  on2 = ap (λ (i : ℕ). i / 2) (beside_at a s x).2

  -- the turn of the half-pyramids
  pub turn_local : turns_to (face_centre (face (suc m) (parent (beside a s x)) a (not s))) (face m x a s) ≡ turn_at (x (next a)) (x (next (next a)))
  turn_local = turns_parity a m x (parent (beside a s x)) s plane on1 on2

  found_local : Found (face_centre (face (suc m) (parent (beside a s x)) a (not s))) (face m x a s)
  found_local = centre_in a m x (parent (beside a s x)) s plane on1 on2

-- rule 4.7: beside a leaf of a graded octree a coarser leaf is of the next level, and the centre of its face is one of the four corners
pub coarse_found : (l : ℕ) (d : Pos) (t : Tree) → Closed l d t → (m : ℕ) (x : Pos) (a : Axis) (s : Bool) → IsLeaf l d t m x
    → (n : ℕ) (z : Pos) → side l d t m x a s ≡ coarser n z → (n ≡ suc m) × Found (face_centre (face n z a (not s))) (face m x a s)
coarse_found l d t c m x a s h n z e =
    go (reaches (counts l d m a) s (x a)) (t m (beside a s x)) (eqb m l) (t (suc m) (parent (beside a s x))) refl refl refl (sym (side_local l d t c m x a s h) ∙ e)
  where
    go : (r b i p : Bool) → reaches (counts l d m a) s (x a) ≡ r → eqb m l ≡ i → t (suc m) (parent (beside a s x)) ≡ p
        → local_side r b (i || p) (coarser (suc m) (parent (beside a s x))) ≡ coarser n z → (n ≡ suc m) × Found (face_centre (face n z a (not s))) (face m x a s)
    go false b i p er ei ep q = let k : ◌≡◌ {A = ℕ} 0 1 = cc in absurd (omega arith)
    go true true i p er ei ep q = let k : ◌≡◌ {A = ℕ} 0 1 = cc in absurd (omega arith)
    go true false true p er ei ep q = let k : ◌≡◌ {A = ℕ} 0 1 = cc in absurd (omega arith)
    go true false false true er ei ep q = let k : ◌≡◌ {A = ℕ} 0 1 = cc in absurd (omega arith)
    go true false false false er ei ep q =
        let en : n ≡ suc m = cc in
        let ez : z ≡ parent (beside a s x) = cc in
        let less : m < l = below in
        (en, subst₂ (λ (k : ℕ) (y : Pos). Found (face_centre (face k y a (not s))) (face m x a s)) (sym en) (sym ez) (found_local t m x a s (counts l d m a) er (under_split l d t c m x a s h less) ep))
      where
        below : m < l
        below = go2 (dec_le l m)
          where
            go2 : Dec (l ≤ m) → m < l
            go2 (yes w) = let k : m ≡ l = omega (arith, h.fits) in clash (eq-eqb m l k) ei
            go2 (no w) = omega arith
