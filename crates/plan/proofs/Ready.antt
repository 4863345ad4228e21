-- What is known of a plan that is ready: its bounds, and the length of its octant tables. Assumes nothing.
use mathlib.Core.Path.{◌≡◌, refl, subst}
use mathlib.Core.Bool.{Bool, true, false, cond}
use Prim.Native.Nat.{ℕ, ◌≤◌}
use native.Mathlib.Omega.{arith}
use borrow.Author.Tests.{leb-true, eqb-true}
use lib.Dec.{leb, eqb}
use Rattle.std.specs.Prelude.{Option, Some, None}
use lib.Ieee.{Float}
use lib.Ieee.Positive.{positive}
use Rattle.space.specs.Space.{Axis, ax, ay, az}
use Rattle.space.proofs.Space.{on_all}
use Rattle.space.specs.Levels.{most_levels, most_roots, most_octants}
use Rattle.plan.specs.Step.{most_lattice, lattice_scale, octree_scale, scale_of, stretch_at, straight_box, on_axis, counted, axes_of, plan_of, low, high}
use Rattle.plan.specs.Parts.{Planful}
use Rattle.plan.specs.declared.Bounds.{Bounds}
use Rattle.plan.specs.declared.Plan.{Plan}
use Rattle.plan.specs.declared.Stretch.{Stretch}
use Rattle.plan.specs.declared.Fault.TheVariants.{Octants}
use Rattle.plan.specs.declared.Refusal.{Refusal}
use Rattle.plan.specs.declared.Refusal.TheVariants.{Number, TooLarge}
use Rattle.plan.specs.declared.Planned.{Planned}
use Rattle.plan.specs.declared.Planned.TheVariants.{Ready, Refused}
use Rattle.plan.proofs.Axes.{stretch_fits}

-- an axis' dimension: at least 1, at most 128 in a lattice and 64 in an octree
record Along (levels n : ℕ) : Type 0 where
  some : 1 ≤ n
  few : n ≤ most_lattice
  roots : 1 ≤ levels → n ≤ most_roots

scale_fits : (c : Float) (levels n : ℕ) → (scale_of c levels).least ≤ n → n ≤ (scale_of c levels).most → Along levels n
unfolding scale_of
scale_fits c levels n p q = go (eqb levels 0) refl p q
  where
    go : (t : Bool) → eqb levels 0 ≡ t → (cond t (lattice_scale c) (octree_scale c levels)).least ≤ n → n ≤ (cond t (lattice_scale c) (octree_scale c levels)).most → Along levels n
    go true e p q = let z : levels ≡ 0 = eqb-true levels 0 e in record { some = omega arith; few = q; roots = λ h. absurd (omega arith) }
    go false e p q = record { some = p; few = omega arith; roots = λ h. q }

-- an axis that is covered, and what follows it
on_axis_lem : (b : Bounds) (c : Float) (levels : ℕ) (a : Axis) (k : Float → ℕ → Planned) (p : Plan) → on_axis a (stretch_at (scale_of c levels) b c a) k ≡ Ready p
    → (o : Float) × (n : ℕ) × (Along levels n) × (k o n ≡ Ready p)
on_axis_lem b c levels a k p e = go (stretch_at (scale_of c levels) b c a) refl e
  where
    go : (s : Option Stretch) → stretch_at (scale_of c levels) b c a ≡ s → on_axis a s k ≡ Ready p → (o : Float) × (n : ℕ) × (Along levels n) × (k o n ≡ Ready p)
    go None f g =
        let no : ◌≡◌ {A = ℕ} 0 1 = cc in
        absurd (omega arith)
    go (Some s) f g =
        let h = stretch_fits (scale_of c levels) c (low b a) (high b a) s f in
        (s.origin, s.count, scale_fits c levels s.count h.0 h.1, g)

counted_ready : (q p : Plan) → counted q ≡ Ready p → (q ≡ p) × (q.octants ≤ most_octants)
unfolding counted
counted_ready q p e = go (leb q.octants most_octants) refl e
  where
    go : (t : Bool) → leb q.octants most_octants ≡ t → cond t (Ready q) (Refused (TooLarge Octants)) ≡ Ready p → (q ≡ p) × (q.octants ≤ most_octants)
    go true f g =
        let same : q ≡ p = cc in
        (same, leb-true q.octants most_octants f)
    go false f g =
        let no : ◌≡◌ {A = ℕ} 0 1 = cc in
        absurd (omega arith)

axes_ready : (b : Bounds) (c : Float) (levels : ℕ) (p : Plan) → levels ≤ most_levels → axes_of (scale_of c levels) b c levels ≡ Ready p → (p.levels ≡ levels) × Planful p
unfolding axes_of
axes_ready b c levels p h e =
    let x = on_axis_lem b c levels ax _ p e in
    let y = on_axis_lem b c levels ay _ p x.3 in
    let z = on_axis_lem b c levels az _ p y.3 in
    let k = counted_ready _ p z.3 in
    subst (λ (p : Plan). (p.levels ≡ levels) × Planful p) k.0 (
      refl,
      record {
        dims = record { some = on_all _ x.2.some y.2.some z.2.some; few = on_all _ x.2.few y.2.few z.2.few };
        roots = λ i. record { some = on_all _ x.2.some y.2.some z.2.some; few = on_all _ (x.2.roots i) (y.2.roots i) (z.2.roots i) };
        levels_few = h;
        octants_are = refl;
        octants_few = k.1;
      },
    )

planned_ready : (b : Bounds) (c : Float) (levels : ℕ) (p : Plan) → plan_of b c levels ≡ Ready p → (p.levels ≡ levels) × Planful p
unfolding plan_of
planned_ready b c levels p e = go (positive c) (straight_box b) (leb levels most_levels) refl e
  where
    none : {why : Refusal} → Refused why ≡ Ready p → (p.levels ≡ levels) × Planful p
    none g =
        let no : ◌≡◌ {A = ℕ} 0 1 = cc in
        absurd (omega arith)

    go : (q r t : Bool) → leb levels most_levels ≡ t
        → cond q (cond r (cond t (axes_of (scale_of c levels) b c levels) (Refused (Number 3))) (Refused (Number 2))) (Refused (Number 1)) ≡ Ready p → (p.levels ≡ levels) × Planful p
    go true true true f g = axes_ready b c levels p (leb-true levels most_levels f) g
    go true true false f g = none g
    go true false t f g = none g
    go false r t f g = none g

-- the levels are those asked for
pub ready_levels : (b : Bounds) (c : Float) (levels : ℕ) (p : Plan) → plan_of b c levels ≡ Ready p → p.levels ≡ levels
ready_levels b c levels p e = (planned_ready b c levels p e).0

pub ready : (b : Bounds) (c : Float) (levels : ℕ) (p : Plan) → plan_of b c levels ≡ Ready p → Planful p
ready b c levels p e = (planned_ready b c levels p e).1
