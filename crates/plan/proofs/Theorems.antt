-- Refusals 1 to 4 are given exactly when rules 11.1 and 11.6 say, a 4 names what rule R2.1 says, and a plan has one outcome. Assumes
-- nothing.
use mathlib.Core.Path.{◌≡◌, refl, sym, ap, subst, ◌∙◌}
use mathlib.Core.Bool.{Bool, true, false, not, ◌&&◌, cond}
use mathlib.Core.List.{List, [], ◌∷◌}
use mathlib.Core.Logic.{◌↔◌, ◌⊎◌, inl, inr}
use Prim.Native.Nat.{ℕ, zero, suc, ◌≤◌, ◌<◌}
use native.Mathlib.Omega.{arith}
use borrow.Author.Tests.{leb-true, leb-false, lt-leb, lt-ltb, le-ltb}
use lib.Dec.{leb, ltb}
use Rattle.std.specs.Prelude.{Option, Some, None}
use lib.Ieee.{Float}
use lib.ListN.{get_or}
use lib.Ieee.Positive.{positive}
use Rattle.space.specs.Space.{Axis, ax, ay, az}
use Rattle.space.specs.Levels.{most_levels, most_octants, off}
use Rattle.space.proofs.Space.{on_all}
use Rattle.refusals.specs.Rows.{first, InTurn, caused, lower, rising}
use Rattle.refusals.proofs.Rows.{in_turn, exactly}
use Rattle.lists.specs.Tables.{Determined}
use Rattle.lists.proofs.Lent.{determined}
use Rattle.plan.specs.Step.{scale_of, stretch_at, fits_at, dims_at, fits_all, stretch_of, straight_box, fault_at, octants_fault, axis_fault, fault_number, on_axis, counted, axes_of, plan_of, plan_rows}
use Rattle.plan.specs.Step.{refusal_number, refusal_values, refusal_of, number_of, fault_of, on_plan, FirstAtFault, OctantsAtFault}
use Rattle.plan.specs.declared.Bounds.{Bounds}
use Rattle.plan.specs.declared.Scale.{Scale}
use Rattle.plan.specs.declared.Plan.{Plan}
use Rattle.plan.specs.declared.Stretch.{Stretch}
use Rattle.plan.specs.declared.Fault.TheVariants.{Octants}
use Rattle.plan.specs.declared.Refusal.{Refusal}
use Rattle.plan.specs.declared.Refusal.TheVariants.{Number, TooLarge}
use Rattle.plan.specs.declared.Planned.{Planned}
use Rattle.plan.specs.declared.Planned.TheVariants.{Ready, Refused}

-- ---- the refusal by which axes fit, and whether N is in its bound

abbrev in_order : (x y z n : Bool) → Refusal
in_order x y z n =
    cond x (cond y (cond z (cond n (Number 0) (TooLarge Octants)) (TooLarge (axis_fault az))) (TooLarge (axis_fault ay))) (TooLarge (axis_fault ax))

abbrev refusal_by : (Axis → Bool) → Bool → Refusal
refusal_by f n = in_order (f ax) (f ay) (f az) n

abbrev fault_in : Refusal → ℕ
fault_in why = get_or (refusal_values why) 0 0

-- the axis of this number
axis_at : ℕ → Axis
axis_at zero = ax
axis_at (suc zero) = ay
axis_at (suc (suc n)) = az

below : (a : Axis) → fault_at a < octants_fault
below = on_all (λ a. fault_at a < octants_fault) (omega arith) (omega arith) (omega arith)

-- what a 4 says of an axis is what it says of its fault
fault_same : (a : Axis) → fault_number (axis_fault a) ≡ fault_at a
fault_same = on_all (λ a. fault_number (axis_fault a) ≡ fault_at a) refl refl refl

axis_at_lem : (a : Axis) → axis_at (fault_at a) ≡ a
unfolding axis_at
axis_at_lem = on_all (λ a. axis_at (fault_at a) ≡ a) refl refl refl

module _ (f : Axis → Bool) (n : ℕ) where
  -- a 4 has its cause
  fault_there : refusal_number (refusal_by f (leb n most_octants)) ≡ 4 → ((a : Axis) × FirstAtFault f a) ⊎ OctantsAtFault f n
  fault_there = go (f ax) (f ay) (f az) (leb n most_octants) refl refl refl refl
    where
      go : (x y z t : Bool) → f ax ≡ x → f ay ≡ y → f az ≡ z → leb n most_octants ≡ t
          → refusal_number (in_order x y z t) ≡ 4
          → ((a : Axis) × FirstAtFault f a) ⊎ OctantsAtFault f n
      go true true true true p q r s h = absurd (omega arith)
      go true true true false p q r s h = inr (record { fit = on_all (λ a. f a ≡ true) p q r; above = leb-false n most_octants s })
      go true true false t p q r s h = inl (az, record { fault = r; before = on_all (λ e. fault_at e < fault_at az → f e ≡ true) (λ l. p) (λ l. q) (λ l. absurd (omega arith)) })
      go true false z t p q r s h = inl (ay, record { fault = q; before = on_all (λ e. fault_at e < fault_at ay → f e ≡ true) (λ l. p) (λ l. absurd (omega arith)) (λ l. absurd (omega arith)) })
      go false y z t p q r s h = inl (ax, record { fault = p; before = on_all (λ e. fault_at e < fault_at ax → f e ≡ true) (λ l. absurd (omega arith)) (λ l. absurd (omega arith)) (λ l. absurd (omega arith)) })

  -- and names it
  axis_named : (a : Axis) → FirstAtFault f a → refusal_by f (leb n most_octants) ≡ TooLarge (axis_fault a)
  axis_named ax h = rw h.fault
  axis_named ay h = rw (h.before ax (omega arith), h.fault)
  axis_named az h = rw (h.before ax (omega arith), h.before ay (omega arith), h.fault)

  octants_named : OctantsAtFault f n → refusal_by f (leb n most_octants) ≡ TooLarge Octants
  octants_named h = rw (h.fit ax, h.fit ay, h.fit az, lt-leb n most_octants h.above)

-- an axis that fits or not, then what follows: refused with that axis where it does not fit, else as what follows
on_axis_lem : (a : Axis) (f : Bool) (o : Float) (n : ℕ) (k : Float → ℕ → Planned) (why : Refusal) → refusal_of (k o n) ≡ why
    → refusal_of (on_axis a (cond f (Some (record { origin = o; count = n })) None) k) ≡ cond f why (TooLarge (axis_fault a))
on_axis_lem a true o n k why h = h
on_axis_lem a false o n k why h = refl

in_bound : (p : Plan) → refusal_of (counted p) ≡ cond (leb p.octants most_octants) (Number 0) (TooLarge Octants)
unfolding counted
in_bound p = go (leb p.octants most_octants)
  where
    go : (t : Bool) → refusal_of (cond t (Ready p) (Refused (TooLarge Octants))) ≡ cond t (Number 0) (TooLarge Octants)
    go true = refl
    go false = refl

axes : (s : Scale) (b : Bounds) (c : Float) (levels : ℕ)
    → refusal_of (axes_of s b c levels) ≡ refusal_by (fits_at s b c) (leb (off (dims_at s b c) levels) most_octants)
unfolding axes_of stretch_of
axes s b c levels =
    on_axis_lem ax (fits_at s b c ax) _ _ _ _ (on_axis_lem ay (fits_at s b c ay) _ _ _ _ (on_axis_lem az (fits_at s b c az) _ _ _ _ (in_bound _)))

axes_number : (s : Scale) (b : Bounds) (c : Float) (levels : ℕ) → number_of (axes_of s b c levels) ≡ cond (fits_all s b c levels) 0 4
unfolding fits_all
axes_number s b c levels =
    ap refusal_number (axes s b c levels) ∙ go (fits_at s b c ax) (fits_at s b c ay) (fits_at s b c az) (leb (off (dims_at s b c) levels) most_octants)
  where
    go : (x y z t : Bool) → refusal_number (in_order x y z t) ≡ cond (x && (y && (z && t))) 0 4
    go true true true true = refl
    go true true true false = refl
    go true true false t = refl
    go true false z t = refl
    go false y z t = refl

above : (levels : ℕ) → ltb most_levels levels ≡ not (leb levels most_levels)
above levels = go (leb levels most_levels) refl
  where
    go : (t : Bool) → leb levels most_levels ≡ t → ltb most_levels levels ≡ not t
    go true e = le-ltb most_levels levels (leb-true levels most_levels e)
    go false e = lt-ltb most_levels levels (leb-false levels most_levels e)

-- a refusal has a number, and one that carries nothing is below 4
abbrev Told : Planned → Type 0
Told (Ready p) = Unit
Told (Refused (Number n)) = (1 ≤ n) × (n ≤ 3)
Told (Refused (TooLarge fault)) = Unit

told_axis : (a : Axis) (s : Option Stretch) (k : Float → ℕ → Planned) → ((o : Float) (n : ℕ) → Told (k o n)) → Told (on_axis a s k)
told_axis a None k h = tt
told_axis a (Some s) k h = h s.origin s.count

told_cond : (t : Bool) (p q : Planned) → Told p → Told q → Told (cond t p q)
told_cond true p q g h = g
told_cond false p q g h = h

told_counted : (p : Plan) → Told (counted p)
unfolding counted
told_counted p = told_cond (leb p.octants most_octants) (Ready p) (Refused (TooLarge Octants)) tt tt

told_axes : (s : Scale) (b : Bounds) (c : Float) (levels : ℕ) → Told (axes_of s b c levels)
unfolding axes_of
told_axes s b c levels =
    told_axis ax (stretch_at s b c ax) _ (λ ox nx. told_axis ay (stretch_at s b c ay) _ (λ oy ny. told_axis az (stretch_at s b c az) _ (λ oz nz. told_counted _)))

told_plan : (b : Bounds) (c : Float) (levels : ℕ) → Told (plan_of b c levels)
unfolding plan_of
told_plan b c levels =
    let p : Planned = axes_of (scale_of c levels) b c levels in
    let q : Planned = cond (leb levels most_levels) p (Refused (Number 3)) in
    let r : Planned = cond (straight_box b) q (Refused (Number 2)) in
    told_cond (positive c) r (Refused (Number 1))
    (told_cond (straight_box b) q (Refused (Number 2))
    (told_cond (leb levels most_levels) p (Refused (Number 3)) (told_axes (scale_of c levels) b c levels) (omega arith, omega arith))
    (omega arith, omega arith))
    (omega arith, omega arith)

pub refused_some : (b : Bounds) (c : Float) (levels : ℕ) (why : Refusal) → plan_of b c levels ≡ Refused why → 1 ≤ refusal_number why
refused_some b c levels (Number n) e = (subst Told e (told_plan b c levels)).0
refused_some b c levels (TooLarge fault) e = omega arith

-- a 4 carries one value
four_carries : (b : Bounds) (c : Float) (levels : ℕ) (why : Refusal) → plan_of b c levels ≡ Refused why → refusal_number why ≡ 4
    → refusal_values why ≡ fault_of (Refused why) ∷ []
four_carries b c levels (Number n) e four = absurd (omega (arith, (subst Told e (told_plan b c levels)).1))
four_carries b c levels (TooLarge fault) e four = refl

-- a step that hands a plan's refusal up, and has no 4 of its own: its 4 is the plan's, and carries what the plan's names
pub handed_up : {A : Type 0} (number : A → ℕ) (values : A → List ℕ) (refused : Refusal → A) (answer : Plan → A) (b : Bounds) (c : Float) (levels : ℕ)
    → ((why : Refusal) → number (refused why) ≡ refusal_number why) → ((why : Refusal) → values (refused why) ≡ refusal_values why)
    → ((p : Plan) → number (answer p) ≡ 4 → ⊥) → {r : A} → r ≡ on_plan (plan_of b c levels) refused answer → number r ≡ 4
    → (number_of (plan_of b c levels) ≡ 4) × (values r ≡ fault_of (plan_of b c levels) ∷ [])
handed_up number values refused answer b c levels n v none {r} f four = go (plan_of b c levels) refl f
  where
    go : (a : Planned) → plan_of b c levels ≡ a → r ≡ on_plan a refused answer → (number_of (plan_of b c levels) ≡ 4) × (values r ≡ fault_of (plan_of b c levels) ∷ [])
    go (Ready p) e f = absurd (none p (sym (ap number f) ∙ four))
    go (Refused why) e f =
        let k : refusal_number why ≡ 4 = sym (ap number f ∙ n why) ∙ four in
        (ap number_of e ∙ k, ap values f ∙ v why ∙ four_carries b c levels why e k ∙ ap (λ (a : Planned). fault_of a ∷ []) (sym e))

module _ (b : Bounds) (c : Float) (levels : ℕ) where
  -- the number is that of the first row whose cause is there
  pub number_is : number_of (plan_of b c levels) ≡ first (plan_rows b c levels)
  unfolding plan_of plan_rows first
  number_is =
      rw (above levels) (go (positive c) (straight_box b) (leb levels most_levels) (fits_all (scale_of c levels) b c levels) (axes_number (scale_of c levels) b c levels))
    where
      go : (p q r t : Bool) → number_of (axes_of (scale_of c levels) b c levels) ≡ cond t 0 4
          → number_of (cond p (cond q (cond r (axes_of (scale_of c levels) b c levels) (Refused (Number 3))) (Refused (Number 2))) (Refused (Number 1)))
          ≡ cond (not p) 1 (cond (not q) 2 (cond (not r) 3 (cond (not t) 4 0)))
      go true true true true h = h
      go true true true false h = h
      go true true false t h = refl
      go true false r t h = refl
      go false q r t h = refl

  -- a number is given exactly when a row of this number has its cause and no row before it has one
  pub plan_in_turn : (k : ℕ) → 0 < k → (number_of (plan_of b c levels) ≡ k) ↔ InTurn k (plan_rows b c levels)
  plan_in_turn = in_turn (plan_rows b c levels) number_is

  -- so the lowest number is given first
  pub plan_exactly : (k : ℕ) → 0 < k → (number_of (plan_of b c levels) ≡ k) ↔ ((caused k (plan_rows b c levels) ≡ true) × (lower k (plan_rows b c levels) ≡ false))
  unfolding rising plan_rows
  plan_exactly = exactly (plan_rows b c levels) refl number_is

  -- the contract of `Plan::new` allows one answer
  pub plan_one : Determined (λ (r : Planned). r ≡ plan_of b c levels)
  plan_one = determined (λ r e. e)

  -- ---- what a 4 names, of any answer that the contract allows

  -- which axes fit, and N
  abbrev pub fits : Axis → Bool
  fits = fits_at (scale_of c levels) b c

  abbrev pub octants : ℕ
  octants = off (dims_at (scale_of c levels) b c) levels

  module _ {r : Planned} (e : r ≡ plan_of b c levels) (four : number_of r ≡ 4) where
    -- a 4 comes of the axes and N
    four_is : refusal_of r ≡ refusal_by fits (leb octants most_octants)
    unfolding plan_of
    four_is = go (positive c) (straight_box b) (leb levels most_levels) e
      where
        -- the number of r is that of a refusal before the axes
        early : {n : ℕ} → r ≡ Refused (Number n) → n ≡ 4
        early f = sym (ap number_of f) ∙ four

        go : (p q t : Bool)
            → r ≡ cond p (cond q (cond t (axes_of (scale_of c levels) b c levels) (Refused (Number 3))) (Refused (Number 2))) (Refused (Number 1))
            → refusal_of r ≡ refusal_by fits (leb octants most_octants)
        go true true true f = ap refusal_of f ∙ axes (scale_of c levels) b c levels
        go true true false f = absurd (omega (arith, early f))
        go true false t f = absurd (omega (arith, early f))
        go false q t f = absurd (omega (arith, early f))

    -- the axis named is at fault, and none before it is; and the first axis at fault is named
    pub fault_axis : (a : Axis) → (fault_of r ≡ fault_at a) ↔ FirstAtFault fits a
    fault_axis a = (λ v. go (fault_there fits octants (sym (ap refusal_number four_is) ∙ four)) v, λ h. ap fault_in (four_is ∙ axis_named fits octants a h) ∙ fault_same a)
      where
        go : ((d : Axis) × FirstAtFault fits d) ⊎ OctantsAtFault fits octants → fault_of r ≡ fault_at a → FirstAtFault fits a
        go (inl (d, h)) v =
            let w : fault_at d ≡ fault_at a = sym (ap fault_in (four_is ∙ axis_named fits octants d h) ∙ fault_same d) ∙ v in
            subst (FirstAtFault fits) (sym (axis_at_lem d) ∙ ap axis_at w ∙ axis_at_lem a) h
        go (inr h) v = absurd (omega (arith, below a, sym (ap fault_in (four_is ∙ octants_named fits octants h)) ∙ v))

    -- 3 is named exactly when every axis fits and there are more octants than the bound
    pub fault_octants : (fault_of r ≡ octants_fault) ↔ OctantsAtFault fits octants
    fault_octants = (λ v. go (fault_there fits octants (sym (ap refusal_number four_is) ∙ four)) v, λ h. ap fault_in (four_is ∙ octants_named fits octants h))
      where
        go : ((d : Axis) × FirstAtFault fits d) ⊎ OctantsAtFault fits octants → fault_of r ≡ octants_fault → OctantsAtFault fits octants
        go (inl (d, h)) v = absurd (omega (arith, below d, sym (ap fault_in (four_is ∙ axis_named fits octants d h) ∙ fault_same d) ∙ v))
        go (inr h) v = h
