-- The refusals of the step refine, its outcome as a whole, and demand 3. Assumes nothing.
use mathlib.Core.Path.{◌≡◌, refl, sym, ap, ◌∙◌}
use mathlib.Core.Logic.{◌↔◌}
use mathlib.Core.Bool.{Bool, true, false, cond, true≢false}
use mathlib.Core.List.{List, [], ◌∷◌, ◌++◌, append-nil}
use Prim.Native.Nat.{ℕ, ◌<◌}
use native.Mathlib.Omega.{arith}
use lib.Dec.{ltb}
use lib.Ieee.{Float}
use lib.ListN.{length, drop}
use Rattle.std.specs.Prelude.{Result, Ok, Err}
use Rattle.refusals.specs.Rows.{first, InTurn, proper, rising, caused, lower}
use Rattle.refusals.specs.Causes.{each_rows, answer_rows, room_rows}
use Rattle.lists.specs.Tables.{front, on, Determined}
use Rattle.refusals.proofs.Rows.{number_rows, goes_on, in_turn, given, exactly}
use Rattle.lists.proofs.Lent.{as_new, determined}
use Rattle.plan.specs.Step.{plan_of, plan_rows, refusal_number, on_plan}
use Rattle.plan.specs.Step as plan
use Rattle.plan.proofs.Theorems as refusals
use Rattle.plan.specs.Vertices.{dims_of}
use Rattle.plan.specs.declared.Bounds.{Bounds}
use Rattle.plan.specs.declared.Plan.{Plan}
use Rattle.plan.specs.declared.Planned.{Planned}
use Rattle.plan.specs.declared.Planned.TheVariants as planned
use Rattle.space.specs.Space.{Pos}
use Rattle.octants.specs.Oct.{Tree, raw}
use Rattle.octants.specs.Table.{read, table, total}
use Rattle.octants.proofs.TableLaws.{length_levels}
use Rattle.octants.specs.Demand.{LeastRefinement, StaysNear, RootsAway}
use Rattle.octants.proofs.DemandTable.{least_agree, table_least, front_agree}
use Rattle.octants.proofs.StaysNear.{least_near, near_border}
use Rattle.octants.specs.Rounds.{Rounds}
use Rattle.octants.proofs.Rounds.{rounds_refined, rounds_table}
use Rattle.refine.specs.Step.{crossing_rows, refine_rows, number_of, values_of, split_of, refused_with, answer_for, refined_of, split_after, RefineDone}
use Rattle.refine.specs.declared.RefineError.{RefineError}
use Rattle.refine.specs.declared.RefineError.TheVariants.{Refused, Short}

answer_number : (p : Plan) (C o : List ℕ) → number_of (answer_for p C o) ≡ first (crossing_rows p.octants C ++ room_rows (length o) p.octants)
unfolding answer_for first room_rows
answer_number p C o =
    number_rows number_of refused_with _ (crossing_rows p.octants C) (room_rows (length o) p.octants) (unfold proper in unfold crossing_rows in unfold each_rows in unfold answer_rows in refl) (λ k. refl) (last (ltb (length o) p.octants))
  where
    last : (t : Bool) → number_of (cond t (Err (Short p.octants)) (Ok (total (split_of p C)))) ≡ cond t 9 0
    last true = refl
    last false = refl

-- no row of the tables has the number 4
answer_not_four : (p : Plan) (C o : List ℕ) → number_of (answer_for p C o) ≡ 4 → ⊥
unfolding rising caused crossing_rows each_rows answer_rows room_rows
answer_not_four p C o e =
    true≢false (sym (given 4 1 (crossing_rows p.octants C ++ room_rows (length o) p.octants) refl (omega arith) (sym (answer_number p C o) ∙ e)).0)

module _ (b : Bounds) (c : Float) (levels : ℕ) (C o : List ℕ) where
  -- the number is that of the first row whose cause is there
  pub number_is : number_of (refined_of b c levels C o) ≡ first (refine_rows b c levels C o)
  unfolding refined_of
  number_is = go (plan_of b c levels) (refusals.number_is b c levels)
    where
      go : (a : Planned) → plan.number_of a ≡ first (plan_rows b c levels)
          → number_of (on_plan a (λ why. Err (Refused why)) (λ p. answer_for p C o)) ≡ first (plan_rows b c levels ++ on_plan a (λ why. []) (λ p. crossing_rows p.octants C ++ room_rows (length o) p.octants))
      go (planned.Ready p) e = answer_number p C o ∙ sym (goes_on (plan_rows b c levels) (crossing_rows p.octants C ++ room_rows (length o) p.octants) (unfold proper in unfold plan_rows in refl) e refl)
      go (planned.Refused why) e = e ∙ ap first (sym (append-nil (plan_rows b c levels)))

  -- a number is given exactly when a row of this number has its cause and no row before it has one
  pub refine_in_turn : (k : ℕ) → 0 < k → (number_of (refined_of b c levels C o) ≡ k) ↔ InTurn k (refine_rows b c levels C o)
  refine_in_turn = in_turn (refine_rows b c levels C o) number_is

  -- so the lowest number is given first
  pub refine_exactly : (k : ℕ) → 0 < k
      → (number_of (refined_of b c levels C o) ≡ k) ↔ ((caused k (refine_rows b c levels C o) ≡ true) × (lower k (refine_rows b c levels C o) ≡ false))
  refine_exactly = exactly (refine_rows b c levels C o) (rise (plan_of b c levels)) number_is
    where
      rise : (a : Planned) → rising 1 (plan_rows b c levels ++ on_plan a (λ why. []) (λ p. crossing_rows p.octants C ++ room_rows (length o) p.octants)) ≡ true
      rise (planned.Ready p) = unfold rising in unfold plan_rows in unfold crossing_rows in unfold each_rows in unfold answer_rows in unfold room_rows in refl
      rise (planned.Refused why) = unfold rising in unfold plan_rows in refl

  -- the contract allows one outcome
  pub refine_one : Determined (λ (z : Result ℕ RefineError × List ℕ). RefineDone b c levels C o z.0 z.1)
  refine_one = determined (λ z a i. (a.answer i, a.split i))

  -- ---- on an answer

  module _ (p : Plan) (e : plan_of b c levels ≡ planned.Ready p) (z : number_of (refined_of b c levels C o) ≡ 0) where
    -- the split table begins with the splits, and is as lent past them
    pub split_is : split_after b c levels C o ≡ front p.octants (split_of p C) o
    unfolding refined_of
    split_is =
        let y : number_of (answer_for p C o) ≡ 0 = rw e at z in
        rw e (ap (λ (k : ℕ). on (0 ∷ []) k (front p.octants (split_of p C) o) o) y ∙ as_new [] (front p.octants (split_of p C) o) o)

    -- demand 3: in the split table crossed octants under crossed ancestors are split, touching leaves differ by at most one level, and
    -- every octree over the same roots and levels with these two properties splits all that ours splits
    pub demand_3 : LeastRefinement p.levels (dims_of p) (read (dims_of p) p.levels C) (read (dims_of p) p.levels (split_after b c levels C o))
    unfolding read
    demand_3 =
        let d : Pos = dims_of p in
        let l : ℕ = p.levels in
        let r : List ℕ = drop p.octants o in
        rw split_is
        (least_agree l d (read d l (split_of p C)) (read d l (split_of p C ++ r)) (front_agree d l (split_of p C) r (length_levels d l _ l)) (read d l C) (λ x. refl)
        (table_least d l C))

  -- demand 3 from the contract: where the number is 0 there is a plan, and the split table at exit is the least refinement of the crossing table
  pub refine_least : {r : Result ℕ RefineError} {o' : List ℕ} → RefineDone b c levels C o r o' → number_of r ≡ 0
      → (p : Plan) × (plan_of b c levels ≡ planned.Ready p) × LeastRefinement p.levels (dims_of p) (read (dims_of p) p.levels C) (read (dims_of p) p.levels o')
  unfolding refined_of
  refine_least {r} {o'} h z = go (plan_of b c levels) refl
    where
      z' : number_of (refined_of b c levels C o) ≡ 0
      z' = sym (ap number_of h.answer) ∙ z

      go : (a : Planned) → plan_of b c levels ≡ a
          → (p : Plan) × (plan_of b c levels ≡ planned.Ready p) × LeastRefinement p.levels (dims_of p) (read (dims_of p) p.levels C) (read (dims_of p) p.levels o')
      go (planned.Ready p) e = (p, e, rw h.split (demand_3 p e z'))
      go (planned.Refused why) e =
          let y : refusal_number why ≡ 0 = rw e at z' in
          absurd (omega (arith, refusals.refused_some b c levels why e))

  -- the balance stays near: every octant that is split at exit meets a crossed octant of its own level whose ancestors are all crossed; so
  -- where every crossed root keeps two roots away from the border, no root at the border is split
  pub refine_near : {r : Result ℕ RefineError} {o' : List ℕ} → RefineDone b c levels C o r o' → number_of r ≡ 0
      → (p : Plan) × (plan_of b c levels ≡ planned.Ready p) × StaysNear p.levels (dims_of p) (read (dims_of p) p.levels C) (read (dims_of p) p.levels o')
      × (RootsAway 2 p.levels (dims_of p) (read (dims_of p) p.levels C) → RootsAway 1 p.levels (dims_of p) (read (dims_of p) p.levels o'))
  refine_near {r} {o'} h z =
      let k = refine_least h z in
      let l = k.0.levels in
      let d = dims_of k.0 in
      let n = least_near l d (read d l C) (read d l o') k.2 in
      (k.0, k.1, n, near_border l d (read d l C) (read d l o') n)

  -- a 4 of refine is the plan's, and names what that names
  pub refine_fault : {r : Result ℕ RefineError} {o' : List ℕ} → RefineDone b c levels C o r o' → number_of r ≡ 4
      → (plan.number_of (plan_of b c levels) ≡ 4) × (values_of r ≡ plan.fault_of (plan_of b c levels) ∷ [])
  unfolding refined_of
  refine_fault h = refusals.handed_up number_of values_of (λ why. Err (Refused why)) (λ p. answer_for p C o) b c levels (λ why. refl) (λ why. refl) (λ p. answer_not_four p C o) h.answer

-- the Rust's balance of the octree that the answers split: its rounds over a snapshot end, and wherever they end is our split table
module _ (p : Plan) (C : List ℕ) where
  abbrev pub answered : Tree
  answered = raw p.levels (read (dims_of p) p.levels C)

  pub rounds_end : (t : Tree) × Rounds p.levels (dims_of p) answered t
  unfolding read
  rounds_end = (rounds_refined p.levels (dims_of p) (read (dims_of p) p.levels C) (λ x. refl)).ends

  pub rounds_split : (t : Tree) → Rounds p.levels (dims_of p) answered t → table (dims_of p) p.levels t ≡ split_of p C
  rounds_split t r = rounds_table (dims_of p) p.levels C t r
