-- From a leaf of a table to its sides: what is read stands in the table, and numbers are small. Assumes nothing.
use mathlib.Core.Path.{◌≡◌, refl, ap, sym, ◌∙◌, subst}
use mathlib.Core.Bool.{true, false}
use mathlib.Core.List.{List}
use Prim.Native.Nat.{ℕ, zero, suc, ◌+◌, ◌-◌, ◌*◌, ◌^◌, ◌≤◌, ◌<◌}
use native.Mathlib.Omega.{arith}
use native.Mathlib.Nat.{mul-le-mul, lt_of_lt_of_le, one-mul}
use lib.ListN.{length}
use lib.Pow.{pow_mono}
use Rattle.space.specs.Space.{Axis, ax, ay, az, Pos, pos}
use Rattle.space.specs.Levels.{most_levels, most_roots, most_along, Counts}
use Rattle.octants.specs.Oct.{In}
use Rattle.octants.proofs.TableLaws.{off_le}
use Rattle.octree.specs.Parts.{roots_of, place_of, level_at, Held}
use Rattle.octree.specs.declared.Roots.{Roots}
use Rattle.octree.specs.declared.Octant.{Octant}
use Rattle.octree.specs.declared.Level.{Level}
use Rattle.octree.proofs.Levels.{level_end}
use Rattle.sides.specs.declared.Around.{Around}
use Rattle.sides.specs.declared.Axis.{Axis as Along}
use Rattle.sides.specs.declared.Sides.{Sides}
use Rattle.sides.specs.declared.Beside.{Beside}
use Rattle.sides.specs.Parts.{Taken, LeafIn, cells_at, sides_of, facing, level_of, around_of, HeldAround, Near, given_at, given_by}
use Rattle.sides.proofs.Ties.{sides_read, leaf_count}

-- ---- a level

pub level_none : (d : Pos) (l m : ℕ) → m ≡ 0 → record { start = 0; nx = 0; ny = 0; nz = 0 } ≡ level_of d l m
unfolding level_of
level_none d l zero e = refl
level_none d l (suc m) e = absurd (omega arith)

pub level_some : (d : Pos) (l m k : ℕ) {v : Level} → (m ≡ 0 → ⊥) → v ≡ level_at d k → k ≡ l - m → v ≡ level_of d l m
unfolding level_of
level_some d l zero k n e f = absurd (n refl)
level_some d l (suc m) k n e f = e ∙ ap (level_at d) f

-- along an axis a place is small
pub in_small : (d : Pos) (l m : ℕ) (x : Pos) → Counts most_roots d → l ≤ most_levels → In l d m x → (a : Axis) → x a < most_along
in_small d l m x h f p a =
    let e : l - m ≤ 5 = omega arith in
    let i : d a * 2 ^ (l - m) ≤ 64 * 32 = mul-le-mul (h.few a) (pow_mono e) in
    lt_of_lt_of_le (p a) i

module _ (s : List ℕ) (d : Roots) (h : Taken s d) where
  -- the table holds every level up to the roots, and the roots' once more
  level_held : (m : ℕ) → m ≤ suc d.levels → Held s (level_of (roots_of d) d.levels m)
  unfolding level_of
  level_held zero k = omega arith
  level_held (suc m) k =
      omega (arith, level_end (roots_of d) (d.levels - suc m) refl, off_le (roots_of d) (suc (d.levels - suc m)) d.levels (omega (arith, h.some)), h.covers.octants)

  module _ (o : Octant) (leaf : LeafIn s d o) where
    pub leaf_small : (a : Axis) → place_of o a < most_along
    leaf_small = in_small (roots_of d) d.levels o.level (place_of o) h.covers.roots h.covers.levels leaf.inside

    pub near : {n : ℕ} {k : Along} (a b c : Axis) → Near (record { axis = k; n = n; u = place_of o a; v = place_of o b; w = place_of o c })
    near a b c = record { u_few = omega (arith, leaf_small a); v_few = omega (arith, leaf_small b); w_few = omega (arith, leaf_small c) }

    pub around_held : {l : Around} → l ≡ around_of (roots_of d) d.levels o.level → HeldAround s l
    around_held e =
        subst (HeldAround s) (sym e)
        (record { here = level_held o.level (omega (arith, leaf.fits)); above = level_held (suc o.level) (omega (arith, leaf.fits)) })

    -- so many octants of its level stand along an axis
    pub along_small : (w : ℕ) → w ≡ 1 * 2 ^ (d.levels - o.level) → (a : Axis) → roots_of d a * w ≤ most_along
    along_small w e a =
        let f : d.levels - o.level ≤ 5 = omega (arith, h.covers.levels) in
        let g : w ≤ 32 = let q : 2 ^ (d.levels - o.level) ≤ 32 = pow_mono f in omega arith in
        mul-le-mul (h.covers.roots.few a) g

    pub sides_link : {l : Around} (w : ℕ) {x0 x1 y0 y1 z0 z1 : Beside} → l ≡ around_of (roots_of d) d.levels o.level → w ≡ 1 * 2 ^ (d.levels - o.level)
        → let n : Pos = pos (d.nx * w) (d.ny * w) (d.nz * w) in
        x0 ≡ facing s l n (place_of o) ax false → x1 ≡ facing s l n (place_of o) ax true
        → y0 ≡ facing s l n (place_of o) ay false → y1 ≡ facing s l n (place_of o) ay true
        → z0 ≡ facing s l n (place_of o) az false → z1 ≡ facing s l n (place_of o) az true
        → record { x0 = x0; x1 = x1; y0 = y0; y1 = y1; z0 = z0; z1 = z1 } ≡ sides_of s d o
    sides_link w e f p q r t u v =
        rw (p, q, r, t, u, v, e, f, one-mul) (sides_read (roots_of d) d.levels s h.graded o.level (place_of o) leaf)

    pub count_link : {f : Sides} {a b c p e g : ℕ} → f ≡ sides_of s d o
        → a ≡ given_at f.x0 → b ≡ given_at f.x1 → c ≡ given_at f.y0 → p ≡ given_at f.y1 → e ≡ given_at f.z0 → g ≡ given_at f.z1
        → a + b + (c + p) + (e + g) ≡ length (cells_at s d o)
    unfolding given_by
    count_link k q r t u v w = rw (q, r, t, u, v, w) (ap given_by k ∙ sym (leaf_count (roots_of d) d.levels s h.graded o.level (place_of o) leaf))
