-- A leaf as grading has it (`Leaf`: not split, under a split parent) and as the cells have it (`IsLeaf`: what covers itself) are one. Assumes nothing.
use mathlib.Core.Path.{◌≡◌, ap, sym, ◌∙◌, subst}
use mathlib.Core.Bool.{true, not}
use mathlib.Core.Logic.{◌↔◌}
use Prim.Native.Nat.{ℕ, suc, ◌-◌, ◌≤◌, ◌<◌}
use native.Mathlib.Omega.{arith}
use native.Mathlib.Decide.{dec_le}
use Rattle.lists.proofs.Bools.{and_left, both_and}
use Rattle.space.specs.Space.{Pos}
use Rattle.octants.specs.Oct.{Tree, Octree, Leaf, Graded, parent}
use Rattle.octree_cells.specs.Leaf.{opened, own, IsLeaf, GradedOctree}
use Rattle.octree_cells.proofs.Opened.{own_opened, opened_parent}
use Rattle.octree_cells.proofs.LeafSome.{whole_of}
use Rattle.octree_cells.proofs.Local.{own_local, own_root}

module _ (l : ℕ) (d : Pos) (t : Tree) (m : ℕ) (x : Pos) where
  pub leaf_of : IsLeaf l d t m x → Leaf l d t m x
  leaf_of h = record { fits = h.fits; inside = h.inside; whole = whole_of l d t m x h; under = under }
    where
      open' : opened t m x (l - m) ≡ true
      open' = and_left (opened t m x (l - m)) (not (t m x)) (sym (own_opened t m x (l - m)) ∙ h.owns)

      under : m < l → t (suc m) (parent x) ≡ true
      under f =
          let e : l - m ≡ suc (l - suc m) = omega arith in
          and_left (t (suc m) (parent x)) (opened t (suc m) (parent x) (l - suc m))
          (sym (opened_parent t m x (l - suc m)) ∙ subst (λ (k : ℕ). opened t m x k ≡ true) e open')

  pub is_leaf_lem : Octree l d t → Leaf l d t m x → IsLeaf l d t m x
  is_leaf_lem o h = record { fits = h.fits; inside = h.inside; owns = go (dec_le l m) }
    where
      free : not (t m x) ≡ true
      free = ap not h.whole

      go : Dec (l ≤ m) → own t m x (l - m) ≡ true
      go (yes p) =
          let f : m ≤ l = h.fits in
          let e : l ≡ m = omega arith in
          subst (λ (k : ℕ). own t k x (l - k) ≡ true) e (own_root l d t x ∙ subst (λ (k : ℕ). not (t k x) ≡ true) (sym e) free)
      go (no p) =
          let f : m < l = omega arith in
          own_local l d t o m x f h.inside ∙ both_and (t (suc m) (parent x)) (not (t m x)) (h.under f) free

  -- in an octree they are one
  pub one_leaf : Octree l d t → Leaf l d t m x ↔ IsLeaf l d t m x
  one_leaf o = (is_leaf_lem o, leaf_of)

-- so an octree is graded by the one exactly when it is by the other
pub one_grading : (l : ℕ) (d : Pos) (t : Tree) → (Octree l d t × Graded l d t) ↔ GradedOctree l d t
one_grading l d t = (
  λ h. record { octree = h.0; graded = λ m n x y p q. h.1 m n x y ((one_leaf l d t m x h.0).1 p) ((one_leaf l d t n y h.0).1 q) },
  λ h. (h.octree, λ m n x y p q. h.graded m n x y ((one_leaf l d t m x h.octree).0 p) ((one_leaf l d t n y h.octree).0 q)),
)
