-- The descent is the Rust's covering_leaf. Assumes nothing.
use mathlib.Core.Path.{◌≡◌, refl, ap, ap₂, ◌∙◌}
use mathlib.Core.Bool.{Bool, true, false, cond}
use Prim.Native.Nat.{ℕ, zero, suc, ◌+◌, ◌-◌}
use native.Mathlib.Nat.{add-zero}
use Rattle.space.specs.Space.{Pos}
use Rattle.octants.specs.Oct.{Tree, counts, within}
use Rattle.octree.specs.Parts.{place_of}
use Rattle.octree.specs.declared.Octant.{Octant}
use Rattle.octree_cells.specs.Cells.{Cover, none, leaf, descent, covering, of_level, is_leaf}
use Rattle.octree_cells.proofs.Shell.{up_zero}
use Rattle.lookup.specs.Parts.{ancestor_of, descent_of, covered_of, cover_of}
use Rattle.lookup.specs.declared.Covered.{Covered}
use Rattle.lookup.specs.declared.Covered.TheVariants.{Leaf, Split, Outside}
use Rattle.lookup.proofs.Descent.{place_up}

choose : (b : Bool) (p q : Covered) → cover_of (cond b p q) ≡ cond b (cover_of p) (cover_of q)
choose true p q = refl
choose false p q = refl

module _ (l : ℕ) (d : Pos) (t : Tree) (o : Octant) where
  descent_is : (k : ℕ) → cover_of (descent_of t o k) ≡ descent t o.level (place_of o) k
  unfolding descent_of descent
  descent_is zero =
      choose (t (o.level + 0) (place_of (ancestor_of 0 o))) Split (Leaf (ancestor_of 0 o))
      ∙ ap₂ (λ (n : ℕ) (p : Pos). cond (t n p) none (leaf n p)) (add-zero o.level) (place_up o 0 ∙ up_zero (place_of o))
  descent_is (suc k) =
      choose (t (o.level + suc k) (place_of (ancestor_of (suc k) o))) (descent_of t o k) (Leaf (ancestor_of (suc k) o))
      ∙ ap₂ (λ (c : Cover) (p : Pos). cond (t (o.level + suc k) p) c (leaf (o.level + suc k) p)) (descent_is k) (place_up o (suc k))

  -- what `covering_leaf` answers, read as the Rust's Option
  pub covering_is : cover_of (covered_of l d t o) ≡ covering l d t o.level (place_of o)
  unfolding covered_of
  covering_is =
      choose (within (counts l d o.level) (place_of o)) (descent_of t o (l - o.level)) Outside
      ∙ ap (λ (c : Cover). cond (within (counts l d o.level) (place_of o)) c none) (descent_is (l - o.level))

  -- a leaf of its own level
  pub leaf_is : {r : Bool} {a : Covered} → a ≡ covered_of l d t o → r ≡ of_level o.level (cover_of a) → r ≡ is_leaf l d t o.level (place_of o)
  leaf_is e f = f ∙ ap (λ (c : Covered). of_level o.level (cover_of c)) e ∙ ap (of_level o.level) covering_is
