-- What stands beside a leaf of a graded octree, told by two splits; and where a coarser face's centre is.
use mathlib.Core.Path.{◌≡◌, refl, ap, ap₂, sym, ◌∙◌, fun_ext}
use mathlib.Core.Logic.{◌⊎◌, inl, inr}
use mathlib.Core.Bool.{Bool, true, false, cond, not, ◌&&◌, ◌||◌}
use Prim.Native.Nat.{ℕ, zero, suc, ◌+◌, ◌*◌, ◌-◌, ◌/◌, ◌%◌, ◌≤◌, ◌<◌}
use native.Mathlib.Omega.{arith}
use native.Mathlib.Decide.{dec_le}
use native.Mathlib.Nat.{two-pow-succ, eq_of_mul-eq-mul_right}
use lib.Dec.{eqb}
use lib.Pow.{pow_pos}
use borrow.Author.Tests.{eqb-true, eq-eqb, ne_eqb, ltb-true}
use Rattle.space.specs.Space.{Axis, ax, ay, az, Pos, next, frame}
use Rattle.octants.specs.Oct.{Tree, counts, width, parent, In, Closed}
use Rattle.octants.proofs.Axis1.{close_meet, Close}
use Rattle.lists.proofs.Bools.{and_both, both_and, bool_ext, clash}
use Rattle.octants.proofs.Least.{closed_octree, parent_inside}
use Rattle.octree_cells.specs.Cells.{Cover, none, leaf, descent, of_level, up, split, equal, coarser, side, covered_by, reaches, beside, stepped, Face, face, face_centre, corner, end, same, turned, turns_to}
use Rattle.octree_cells.specs.Leaf.{own, opened}
use Rattle.octree_cells.proofs.Opened.{opened_parent, up_parent}
use Rattle.octree_cells.proofs.Local.{opened_under}
use Rattle.octree_cells.specs.Leaf.{central, turn_at, Found}

-- under split ones, an unsplit parent is what covers
descent_parent : (t : Tree) (m : ℕ) (y : Pos) (k : ℕ) → opened t (suc m) (parent y) k ≡ true → t (suc m) (parent y) ≡ false
    → descent t m y (suc k) ≡ leaf (suc m) (parent y)
unfolding descent opened
descent_parent t m y zero h f =
    let e : m + 1 ≡ suc m = omega arith in
    ap (λ (n : ℕ). cond (t n (parent y)) (descent t m y zero) (leaf n (parent y))) e
    ∙ ap (λ (b : Bool). cond b (descent t m y zero) (leaf (suc m) (parent y))) f
descent_parent t m y (suc k) h f =
    let e : m + suc (suc k) ≡ suc m + suc k = omega arith in
    let s = and_both (t (suc m + suc k) (up (suc k) (parent y))) (opened t (suc m) (parent y) k) h in
    ap₂ (λ (n : ℕ) (z : Pos). cond (t n z) (descent t m y (suc k)) (leaf n z)) e (up_parent (suc k) y)
    ∙ ap (λ (b : Bool). cond b (descent t m y (suc k)) (leaf (suc m + suc k) (up (suc k) (parent y)))) s.0
    ∙ descent_parent t m y k s.1 f

step_near : (s : Bool) (n : ℕ) → (stepped s n ≤ n + 1) × (n ≤ stepped s n + 1)
step_near true n = (omega arith, omega arith)
step_near false n = (omega arith, omega arith)

near_self : (n : ℕ) → (n ≤ n + 1) × (n ≤ n + 1)
near_self n = (omega arith, omega arith)

beside_near : (a : Axis) (s : Bool) (x : Pos) (b : Axis) → (beside a s x b ≤ x b + 1) × (x b ≤ beside a s x b + 1)
beside_near ax s x ax = step_near s (x ax)
beside_near ax s x ay = near_self (x ay)
beside_near ax s x az = near_self (x az)
beside_near ay s x ax = near_self (x ax)
beside_near ay s x ay = step_near s (x ay)
beside_near ay s x az = near_self (x az)
beside_near az s x ax = near_self (x ax)
beside_near az s x ay = near_self (x ay)
beside_near az s x az = step_near s (x az)

step_in : (n : ℕ) (s : Bool) (i : ℕ) → i < n → reaches n s i ≡ true → stepped s i < n
step_in n true i h r = ltb-true _ _ r
step_in n false i h r = omega arith

pub beside_in_lem : (n : Pos) (a : Axis) (s : Bool) (x : Pos) → ((b : Axis) → x b < n b) → reaches (n a) s (x a) ≡ true → (b : Axis) → beside a s x b < n b
beside_in_lem n ax s x h r ax = step_in (n ax) s (x ax) (h ax) r
beside_in_lem n ax s x h r ay = h ay
beside_in_lem n ax s x h r az = h az
beside_in_lem n ay s x h r ax = h ax
beside_in_lem n ay s x h r ay = step_in (n ay) s (x ay) (h ay) r
beside_in_lem n ay s x h r az = h az
beside_in_lem n az s x h r ax = h ax
beside_in_lem n az s x h r ay = h ay
beside_in_lem n az s x h r az = step_in (n az) s (x az) (h az) r

near_up : (x y : ℕ) → y ≤ x + 1 → x ≤ y + 1 → Close (y / 2 / 2) (x / 2)
near_up x y h g = (omega arith, omega arith)

module _ (l : ℕ) (d : Pos) (t : Tree) (c : Closed l d t) (m : ℕ) (x : Pos) (a : Axis) (s : Bool)
    (inside : In l d m x) (r : reaches (counts l d m a) s (x a) ≡ true) where
  y_in : In l d m (beside a s x)
  y_in = beside_in_lem (counts l d m) a s x inside r

  pub side_split : t m (beside a s x) ≡ true → side l d t m x a s ≡ split
  unfolding side
  side_split e = rw (r, e)

  -- the parent of a neighbour stands under split ones
  parent_opened : m < l → t (suc m) (parent x) ≡ true → opened t (suc m) (parent (beside a s x)) (l - suc m) ≡ true
  unfolding opened
  parent_opened h p = go (dec_le l (suc m))
    where
      y : Pos
      y = beside a s x

      go : Dec (l ≤ suc m) → opened t (suc m) (parent y) (l - suc m) ≡ true
      go (yes e) = let z : l - suc m ≡ 0 = omega arith in ap (opened t (suc m) (parent y)) z
      go (no e) =
          let z : l - suc m ≡ suc (l - suc (suc m)) = omega arith in
          let i1 : In l d (suc m) (parent y) = parent_inside l d m y h y_in in
          let i2 : In l d (suc (suc m)) (parent (parent y)) = parent_inside l d (suc m) (parent y) (omega arith) i1 in
          let q : t (suc (suc m)) (parent (parent y)) ≡ true
          = c.push (suc m) (parent (parent y)) (parent x) (omega arith) i2 (parent_inside l d m x h inside)
          (λ b. close_meet (suc m) (y b / 2 / 2) (x b / 2) (near_up (x b) (y b) (beside_near a s x b).0 (beside_near a s x b).1)) p in
          ap (opened t (suc m) (parent y)) z ∙ opened_parent t (suc m) (parent y) (l - suc (suc m))
          ∙ both_and (t (suc (suc m)) (parent (parent y))) (opened t (suc (suc m)) (parent (parent y)) (l - suc (suc m))) q
          (opened_under l d t (closed_octree l d t c) (l - suc (suc m)) (suc (suc m)) (parent (parent y)) (omega arith) i2 q)

  pub side_coarser : m < l → t (suc m) (parent x) ≡ true → t m (beside a s x) ≡ false → t (suc m) (parent (beside a s x)) ≡ false
      → side l d t m x a s ≡ coarser (suc m) (parent (beside a s x))
  unfolding side
  side_coarser h p e f =
      let z : l - m ≡ suc (l - suc m) = omega arith in
      let g : descent t m (beside a s x) (l - m) ≡ leaf (suc m) (parent (beside a s x))
      = ap (descent t m (beside a s x)) z ∙ descent_parent t m (beside a s x) (l - suc m) (parent_opened h p) f in
      let n : eqb (suc m) m ≡ false = ne_suc m in
      rw (r, e, g, n)
    where
      ne_suc : (m : ℕ) → eqb (suc m) m ≡ false
      ne_suc m = ne_eqb (suc m) m (λ e. omega arith)

  pub side_equal : t m (beside a s x) ≡ false → own t m (beside a s x) (l - m) ≡ true → side l d t m x a s ≡ equal
  unfolding side
  side_equal e o = rw (r, e) (go (descent t m (beside a s x) (l - m)) o)
    where
      go : (v : Cover) → of_level m v ≡ true → covered_by m v ≡ equal
      go none h = clash h refl
      go (leaf n z) h = rw h

corner_central : (w j f : ℕ) → 0 < w → f ≤ 1 → eqb ((j + f) * w) ((2 * (j / 2) + 1) * w) ≡ central f j
corner_central w j f h g = bool_ext (eqb ((j + f) * w) ((2 * (j / 2) + 1) * w)) (central f j)
    (λ e. eq-eqb (j % 2 + f) 1 (let q : j + f ≡ 2 * (j / 2) + 1 = eq_of_mul-eq-mul_right w h (j + f) (2 * (j / 2) + 1) (eqb-true _ _ e) in omega arith))
    (λ e. let q : j % 2 + f ≡ 1 = eqb-true (j % 2 + f) 1 e in
    let z : j + f ≡ 2 * (j / 2) + 1 = omega arith in
    eq-eqb _ _ (ap (λ (n : ℕ). n * w) z))

same_turn : (a : Axis) (p q : Pos) → same p q ≡ eqb (p a) (q a) && eqb (p (next a)) (q (next a)) && eqb (p (next (next a))) (q (next (next a)))
same_turn ax p q = refl
same_turn ay p q = and_turn (eqb (p ax) (q ax)) (eqb (p ay) (q ay)) (eqb (p az) (q az))
  where
    and_turn : (x y z : Bool) → x && y && z ≡ y && z && x
    and_turn true true true = refl
    and_turn true true false = refl
    and_turn true false z = refl
    and_turn false true true = refl
    and_turn false true false = refl
    and_turn false false z = refl
same_turn az p q = and_turn (eqb (p ax) (q ax)) (eqb (p ay) (q ay)) (eqb (p az) (q az))
  where
    and_turn : (x y z : Bool) → x && y && z ≡ z && x && y
    and_turn true true true = refl
    and_turn true true false = refl
    and_turn true false true = refl
    and_turn true false false = refl
    and_turn false y true = refl
    and_turn false y false = refl

-- coordinates in a frame
pub record Coords (a : Axis) (p : Pos) (u v w : ℕ) : Type 0 where
  pub o0 : p a ≡ u
  pub o1 : p (next a) ≡ v
  pub o2 : p (next (next a)) ≡ w

corner_coords : (a : Axis) (m : ℕ) (x : Pos) (e f g : ℕ)
    → Coords a (corner m x (frame a e f g)) ((x a + e) * width m) ((x (next a) + f) * width m) ((x (next (next a)) + g) * width m)
corner_coords ax m x e f g = record { o0 = refl; o1 = refl; o2 = refl }
corner_coords ay m x e f g = record { o0 = refl; o1 = refl; o2 = refl }
corner_coords az m x e f g = record { o0 = refl; o1 = refl; o2 = refl }

wide_mid : (n q : ℕ) → ((q + 0) * (2 * n) + (q + 1) * (2 * n)) / 2 ≡ (2 * q + 1) * n
wide_mid n q = omega arith

flat_mid : (n q e : ℕ) → ((q + e) * (2 * n) + (q + e) * (2 * n)) / 2 ≡ (2 * (q + e)) * n
flat_mid n q e = omega arith

centre_coords : (a : Axis) (m : ℕ) (z : Pos) (s : Bool)
    → Coords a (face_centre (face (suc m) z a s)) ((2 * (z a + end s)) * width m) ((2 * z (next a) + 1) * width m) ((2 * z (next (next a)) + 1) * width m)
centre_coords a m z s = record {
  o0 = ap₂ (λ (p q : ℕ). (p + q) / 2) lo.o0 hi.o0 ∙ ap (λ (w : ℕ). ((z a + end s) * w + (z a + end s) * w) / 2) e ∙ flat_mid (width m) (z a) (end s);
  o1 = ap₂ (λ (p q : ℕ). (p + q) / 2) lo.o1 hi.o1 ∙ ap (λ (w : ℕ). ((z (next a) + 0) * w + (z (next a) + 1) * w) / 2) e ∙ wide_mid (width m) (z (next a));
  o2 = ap₂ (λ (p q : ℕ). (p + q) / 2) lo.o2 hi.o2 ∙ ap (λ (w : ℕ). ((z (next (next a)) + 0) * w + (z (next (next a)) + 1) * w) / 2) e ∙ wide_mid (width m) (z (next (next a)));
}
  where
    e : width (suc m) ≡ 2 * width m
    e = omega (arith, two-pow-succ m)

    lo : Coords a (corner (suc m) z (frame a (end s) 0 0)) ((z a + end s) * width (suc m)) ((z (next a) + 0) * width (suc m)) ((z (next (next a)) + 0) * width (suc m))
    lo = corner_coords a (suc m) z (end s) 0 0

    hi : Coords a (corner (suc m) z (frame a (end s) 1 1)) ((z a + end s) * width (suc m)) ((z (next a) + 1) * width (suc m)) ((z (next (next a)) + 1) * width (suc m))
    hi = corner_coords a (suc m) z (end s) 1 1

-- one corner of an octant is the centre of its parent along an axis
one_central : (j : ℕ) → ((central 0 j ≡ true) × (central 1 j ≡ false)) ⊎ ((central 0 j ≡ false) × (central 1 j ≡ true))
one_central j = go (dec_le (j % 2) 0)
  where
    go : Dec (j % 2 ≤ 0) → ((central 0 j ≡ true) × (central 1 j ≡ false)) ⊎ ((central 0 j ≡ false) × (central 1 j ≡ true))
    go (yes e) = inr (ne_eqb (j % 2 + 0) 1 (λ q. omega arith), eq-eqb (j % 2 + 1) 1 (omega arith))
    go (no e) = inl (eq-eqb (j % 2 + 0) 1 (omega arith), ne_eqb (j % 2 + 1) 1 (λ q. omega arith))

-- so one of four is, along two axes
corner_central_some : (j k : ℕ)
    → ((central 0 j && central 0 k) || (central 1 j && central 0 k) || (central 1 j && central 1 k) || (central 0 j && central 1 k)) ≡ true
corner_central_some j k = go (one_central j) (one_central k)
  where
    go : ((central 0 j ≡ true) × (central 1 j ≡ false)) ⊎ ((central 0 j ≡ false) × (central 1 j ≡ true))
        → ((central 0 k ≡ true) × (central 1 k ≡ false)) ⊎ ((central 0 k ≡ false) × (central 1 k ≡ true))
        → ((central 0 j && central 0 k) || (central 1 j && central 0 k) || (central 1 j && central 1 k) || (central 0 j && central 1 k)) ≡ true
    go (inl p) (inl q) = rw (p.0, q.0) refl
    go (inl p) (inr q) = rw (p.0, p.1, q.0, q.1) refl
    go (inr p) (inl q) = rw (p.0, p.1, q.0) refl
    go (inr p) (inr q) = rw (p.0, p.1, q.0, q.1) refl

same_is : (p q : Pos) → same p q ≡ true → p ≡ q
same_is p q e = fun_ext go
  where
    r : (eqb (p ax) (q ax) && eqb (p ay) (q ay) ≡ true) × (eqb (p az) (q az) ≡ true)
    r = and_both (eqb (p ax) (q ax) && eqb (p ay) (q ay)) (eqb (p az) (q az)) e

    go : (a : Axis) → p a ≡ q a
    go ax = eqb-true (p ax) (q ax) (and_both (eqb (p ax) (q ax)) (eqb (p ay) (q ay)) r.0).0
    go ay = eqb-true (p ay) (q ay) (and_both (eqb (p ax) (q ax)) (eqb (p ay) (q ay)) r.0).1
    go az = eqb-true (p az) (q az) r.1

-- a search among four that finds something ends at it
walked_from : (v : Pos) (f : Face) → (same f.p0 v || same f.p1 v || same f.p2 v || same f.p3 v) ≡ true → (turned (turns_to v f) f).p0 ≡ v
walked_from v f = go (same f.p0 v) (same f.p1 v) (same f.p2 v) (same f.p3 v) (same_is f.p0 v) (same_is f.p1 v) (same_is f.p2 v) (same_is f.p3 v)
  where
    go : (b0 b1 b2 b3 : Bool) → (b0 ≡ true → f.p0 ≡ v) → (b1 ≡ true → f.p1 ≡ v) → (b2 ≡ true → f.p2 ≡ v) → (b3 ≡ true → f.p3 ≡ v)
        → (b0 || b1 || b2 || b3) ≡ true → (turned (cond b0 0 (cond b1 1 (cond b2 2 (cond b3 3 0)))) f).p0 ≡ v
    go true b1 b2 b3 h0 h1 h2 h3 e = h0 refl
    go false true b2 b3 h0 h1 h2 h3 e = h1 refl
    go false false true b3 h0 h1 h2 h3 e = h2 refl
    go false false false true h0 h1 h2 h3 e = h3 refl
    go false false false false h0 h1 h2 h3 e = clash e refl

module _ (a : Axis) (m : ℕ) (x z : Pos) (s : Bool)
    (plane : x a + end s ≡ 2 * (z a + end (not s))) (on1 : z (next a) ≡ x (next a) / 2) (on2 : z (next (next a)) ≡ x (next (next a)) / 2) where
  corner_same : (f g : ℕ) → f ≤ 1 → g ≤ 1
      → same (corner m x (frame a (end s) f g)) (face_centre (face (suc m) z a (not s))) ≡ central f (x (next a)) && central g (x (next (next a)))
  corner_same f g hf hg =
      let p : Pos = corner m x (frame a (end s) f g) in
      let q : Pos = face_centre (face (suc m) z a (not s)) in
      let P = corner_coords a m x (end s) f g in
      let Q = centre_coords a m z (not s) in
      let w : 0 < width m = omega (arith, pow_pos m) in
      let b0 : eqb (p a) (q a) ≡ true = eq-eqb _ _ (P.o0 ∙ ap (λ (n : ℕ). n * width m) plane ∙ sym Q.o0) in
      let b1 : eqb (p (next a)) (q (next a)) ≡ central f (x (next a))
      = ap₂ eqb P.o1 (Q.o1 ∙ ap (λ (n : ℕ). (2 * n + 1) * width m) on1) ∙ corner_central (width m) (x (next a)) f w hf in
      let b2 : eqb (p (next (next a))) (q (next (next a))) ≡ central g (x (next (next a)))
      = ap₂ eqb P.o2 (Q.o2 ∙ ap (λ (n : ℕ). (2 * n + 1) * width m) on2) ∙ corner_central (width m) (x (next (next a))) g w hg in
      same_turn a p q ∙ ap₂ (λ (u v : Bool). u && v) (ap₂ (λ (u v : Bool). u && v) b0 b1) b2

  pub turns_parity : turns_to (face_centre (face (suc m) z a (not s))) (face m x a s) ≡ turn_at (x (next a)) (x (next (next a)))
  turns_parity =
      rw (
        corner_same 0 0 (omega arith) (omega arith),
        corner_same 1 0 (omega arith) (omega arith),
        corner_same 1 1 (omega arith) (omega arith),
        corner_same 0 1 (omega arith) (omega arith),
      )

  -- the search for the centre of the coarse face finds it
  pub centre_in : Found (face_centre (face (suc m) z a (not s))) (face m x a s)
  centre_in = record { corner = found; walked = walked_from (face_centre (face (suc m) z a (not s))) (face m x a s) found }
    where
      found : (same (face m x a s).p0 (face_centre (face (suc m) z a (not s))) || same (face m x a s).p1 (face_centre (face (suc m) z a (not s)))
          || same (face m x a s).p2 (face_centre (face (suc m) z a (not s))) || same (face m x a s).p3 (face_centre (face (suc m) z a (not s)))) ≡ true
      found =
          rw (
            corner_same 0 0 (omega arith) (omega arith),
            corner_same 1 0 (omega arith) (omega arith),
            corner_same 1 1 (omega arith) (omega arith),
            corner_same 0 1 (omega arith) (omega arith),
          )
          (corner_central_some (x (next a)) (x (next (next a))))
