-- An octant is a leaf of its level exactly when all its ancestors are split and it is not. Assumes nothing.
use mathlib.Core.Path.{◌≡◌, refl, ap, ap₂, sym, ◌∙◌, fun_ext, subst}
use mathlib.Core.Bool.{Bool, true, false, cond, not, ◌&&◌}
use Prim.Native.Nat.{ℕ, zero, suc, ◌+◌, ◌-◌, ◌/◌, ◌*◌, ◌^◌, ◌<◌}
use native.Mathlib.Omega.{arith}
use native.Mathlib.Nat.{div-div-eq-div-mul, pow-succ'}
use borrow.Author.Tests.{eq-eqb, ne_eqb, not-true}
use Rattle.lists.proofs.Bools.{and_both, both_and}
use Rattle.space.specs.Space.{Axis, ax, ay, az, Pos, Inside}
use Rattle.octants.specs.Oct.{Tree, parent, In}
use Rattle.octants.proofs.Axis1.{child_in, child_parent}
use Rattle.octree_cells.specs.Cells.{two, child, up, none, leaf, descent, of_level}
use Rattle.octree_cells.specs.Leaf.{opened, own, IsLeaf, Reached}

pub own_opened : (t : Tree) (m : ℕ) (y : Pos) (k : ℕ) → own t m y k ≡ opened t m y k && not (t m y)
unfolding opened descent
own_opened t m y zero = go (t m y)
  where
    go : (b : Bool) → of_level m (cond b none (leaf m y)) ≡ true && not b
    go true = refl
    go false = eq-eqb m m refl
own_opened t m y (suc k) = go (t (m + suc k) (up (suc k) y)) (own_opened t m y k)
  where
    ne : m + suc k ≡ m → ⊥
    ne e = omega arith

    go : (b : Bool) → own t m y k ≡ opened t m y k && not (t m y)
        → of_level m (cond b (descent t m y k) (leaf (m + suc k) (up (suc k) y))) ≡ b && opened t m y k && not (t m y)
    go true h = h
    go false h = ne_eqb (m + suc k) m ne

-- one level more
pub up_parent : (k : ℕ) (y : Pos) → up (suc k) y ≡ up k (parent y)
up_parent k y = fun_ext (λ a. ap (λ (n : ℕ). y a / n) (pow-succ' 2 k) ∙ sym (div-div-eq-div-mul (y a) 2 (2 ^ k)))

and_swap : (a b c : Bool) → a && (b && c) ≡ b && (a && c)
and_swap true true c = refl
and_swap true false c = refl
and_swap false true c = refl
and_swap false false c = refl

pub opened_parent : (t : Tree) (m : ℕ) (y : Pos) (k : ℕ) → opened t m y (suc k) ≡ t (suc m) (parent y) && opened t (suc m) (parent y) k
unfolding opened
opened_parent t m y zero =
    let e : m + 1 ≡ suc m = omega arith in
    ap (λ (n : ℕ). t n (parent y) && true) e
opened_parent t m y (suc k) =
    let e : m + suc (suc k) ≡ suc m + suc k = omega arith in
    ap₂ (λ (n : ℕ) (z : Pos). t n z && opened t m y (suc k)) e (up_parent (suc k) y)
    ∙ ap (λ (b : Bool). t (suc m + suc k) (up (suc k) (parent y)) && b) (opened_parent t m y k)
    ∙ and_swap (t (suc m + suc k) (up (suc k) (parent y))) (t (suc m) (parent y)) (opened t (suc m) (parent y) k)

parent_child : (x o : Pos) → ((a : Axis) → o a < 2) → parent (child x o) ≡ x
parent_child x o h = fun_ext go
  where
    go : (a : Axis) → child x o a / 2 ≡ x a
    go ax = child_parent (x ax) (o ax) (h ax)
    go ay = child_parent (x ay) (o ay) (h ay)
    go az = child_parent (x az) (o az) (h az)

pub two_lt : (o : Pos) → Inside two o → (a : Axis) → o a < 2
two_lt o h ax = h ax
two_lt o h ay = h ay
two_lt o h az = h az

-- ---- a walk from the roots

module _ (l : ℕ) (d : Pos) (t : Tree) where
  roots_own : (a : Axis) → d a * 2 ^ (l - l) ≡ d a
  roots_own a = let z : l - l ≡ 0 = omega arith in ap (λ (k : ℕ). d a * 2 ^ k) z ∙ omega arith

  pub root_reached : (x : Pos) → Inside d x → Reached l d t l x
  unfolding opened
  root_reached x h =
      let z : l - l ≡ 0 = omega arith in
      record { fits = omega arith; inside = λ a. subst (λ (n : ℕ). x a < n) (sym (roots_own a)) (h a); under = ap (opened t l x) z }

  pub reached_root : (x : Pos) → In l d l x → Inside d x
  reached_root x h a = subst (λ (n : ℕ). x a < n) (roots_own a) (h a)

  pub child_reached : {m : ℕ} {x : Pos} → Reached l d t (suc m) x → t (suc m) x ≡ true → (c : Pos) → Inside two c → Reached l d t m (child x c)
  child_reached {m} {x} r e c h = record { fits = omega (arith, r.fits); inside = inside'; under = under' }
    where
      inside' : In l d m (child x c)
      inside' ax = child_in l (d ax) m (x ax) (c ax) r.fits (h ax) (r.inside ax)
      inside' ay = child_in l (d ay) m (x ay) (c ay) r.fits (h ay) (r.inside ay)
      inside' az = child_in l (d az) m (x az) (c az) r.fits (h az) (r.inside az)

      under' : opened t m (child x c) (l - m) ≡ true
      under' =
          let z : l - m ≡ suc (l - suc m) = omega (arith, r.fits) in
          ap (opened t m (child x c)) z ∙ opened_parent t m (child x c) (l - suc m)
          ∙ ap (λ (y : Pos). t (suc m) y && opened t (suc m) y (l - suc m)) (parent_child x c (two_lt c h))
          ∙ both_and (t (suc m) x) (opened t (suc m) x (l - suc m)) e r.under

  pub leaf_reached : {m : ℕ} {x : Pos} → Reached l d t m x → t m x ≡ false → IsLeaf l d t m x
  leaf_reached {m} {x} r e =
      record { fits = r.fits; inside = r.inside; owns = own_opened t m x (l - m) ∙ both_and (opened t m x (l - m)) (not (t m x)) r.under (ap not e) }

  pub reached_leaf : {m : ℕ} {x : Pos} → IsLeaf l d t m x → Reached l d t m x × (t m x ≡ false)
  reached_leaf {m} {x} h =
      let r = and_both (opened t m x (l - m)) (not (t m x)) (sym (own_opened t m x (l - m)) ∙ h.owns) in
      (record { fits = h.fits; inside = h.inside; under = r.0 }, not-true (t m x) r.1)
