-- The refusals of the step grid, its outcome as a whole, and its octree: refusal 7, and where coarser leaves are met. Assumes nothing.
use mathlib.Core.Path.{◌≡◌, refl, sym, ap, ◌∙◌}
use mathlib.Core.Logic.{◌⊎◌, inl, inr, ◌↔◌}
use mathlib.Core.Bool.{Bool, true, false, cond, not, true≢false}
use mathlib.Core.List.{List, [], ◌∷◌, ◌++◌, append-nil}
use Prim.Native.Nat.{ℕ, suc, ◌<◌}
use native.Mathlib.Omega.{arith}
use borrow.Author.Tests.{eqb-true, eq-eqb}
use lib.Dec.{eqb}
use lib.ListN.{length}
use lib.Ieee.{Float}
use Rattle.refusals.specs.Rows.{first, InTurn, proper, under, rising, caused, lower, unless}
use Rattle.refusals.specs.Causes.{each_rows, answer_rows}
use Rattle.refusals.proofs.Rows.{number_rows, goes_on, in_turn, given as first-given, exactly, first_under}
use Rattle.lists.specs.Tables.{all_at_most, Determined}
use Rattle.lists.proofs.Bools.{bool_cases, clash}
use Rattle.lists.proofs.Lent.{determined}
use Rattle.space.specs.Space.{Axis, Pos}
use Rattle.octants.specs.Judge.{is_graded}
use Rattle.octants.proofs.Judge.{graded_exactly, graded_closes}
use Rattle.octree_cells.specs.Cells.{coarser, side, face, face_centre}
use Rattle.octree_cells.specs.Leaf.{IsLeaf, Found}
use Rattle.octree_cells.proofs.OneLeaf.{one_grading}
use Rattle.octree_cells.proofs.LocalSide.{coarse_found}
use Rattle.plan.specs.Step.{plan_of, plan_rows, on_plan}
use Rattle.plan.specs.Step as plan
use Rattle.plan.proofs.Theorems as refusals
use Rattle.plan.specs.Vertices.{dims_of}
use Rattle.plan.specs.declared.Bounds.{Bounds}
use Rattle.plan.specs.declared.Plan.{Plan}
use Rattle.plan.specs.declared.Planned.{Planned}
use Rattle.plan.specs.declared.Planned.TheVariants as planned
use Rattle.grid.specs.Step.{cell_count, vertex_count, lacks_cells, lacks_vertices, graded_rows, split_rows, fill_rows, table_rows, grid_rows, number_of, values_of, filled_of, refused_with, grid_of, GridDone, so_many}
use Rattle.grid.specs.Octrees.{split_tree, IsGradedOctree, NoGradedOctree}
use Rattle.grid.specs.declared.Gridded.{Gridded}
use Rattle.std.specs.Prelude.{Result, Err}
use Rattle.grid.specs.declared.GridError.{GridError}
use Rattle.grid.specs.declared.GridError.TheVariants.{Refused, NoCells, NoVertices}
use Rattle.grid.proofs.WaysOut.{graded}
use Rattle.grid.proofs.Whole.{Answered, answered}

-- the number of what follows the split table's refusals
fill_number : (p : Plan) (s : List ℕ) (cells triples points work : ℕ) → number_of (filled_of p s cells triples points work) ≡ first (fill_rows p s cells triples points work)
unfolding filled_of fill_rows first
fill_number p s cells triples points work = go (lacks_cells (cell_count p s) cells work) (lacks_vertices (vertex_count p s) triples points)
  where
    go : (t u : Bool) → number_of (cond t (Err (NoCells (cell_count p s))) (cond u (Err (NoVertices (cell_count p s) (vertex_count p s))) (so_many (cell_count p s) (vertex_count p s)))) ≡ cond t 9 (cond u 9 0)
    go true u = refl
    go false true = refl
    go false false = refl

-- the number with a plan: never a 4
module _ (p : Plan) (s : List ℕ) (cells triples points work : ℕ) where
  abbrev table_answer : Result Gridded GridError
  table_answer = unless (first (split_rows p s)) refused_with (filled_of p s cells triples points work)

  table_number : number_of table_answer ≡ first (table_rows p s cells triples points work)
  unfolding split_rows each_rows answer_rows graded_rows proper
  table_number =
      number_rows number_of refused_with (filled_of p s cells triples points work) (split_rows p s) (fill_rows p s cells triples points work) refl (λ k. refl)
      (fill_number p s cells triples points work)

  table_not_four : number_of table_answer ≡ 4 → ⊥
  unfolding rising caused split_rows each_rows answer_rows graded_rows fill_rows
  table_not_four e = true≢false (sym (first-given 4 1 (table_rows p s cells triples points work) refl (omega arith) (sym table_number ∙ e)).0)

module _ (b : Bounds) (c : Float) (levels : ℕ) (s C T P w : List ℕ) where
  -- the number is that of the first row whose cause is there
  pub number_is : number_of (grid_of b c levels s C T P w) ≡ first (grid_rows b c levels s C T P w)
  unfolding grid_of
  number_is = go (plan_of b c levels) (refusals.number_is b c levels)
    where
      go : (a : Planned) → plan.number_of a ≡ first (plan_rows b c levels)
          → number_of (on_plan a (λ why. Err (Refused why)) (λ p. unless (first (split_rows p s)) refused_with (filled_of p s (length C) (length T) (length P) (length w))))
          ≡ first (plan_rows b c levels ++ on_plan a (λ why. []) (λ p. table_rows p s (length C) (length T) (length P) (length w)))
      go (planned.Ready p) e =
          table_number p s (length C) (length T) (length P) (length w)
          ∙ sym (goes_on (plan_rows b c levels) (table_rows p s (length C) (length T) (length P) (length w)) (unfold proper in unfold plan_rows in refl) e refl)
      go (planned.Refused why) e = e ∙ ap first (sym (append-nil (plan_rows b c levels)))

  -- a number is given exactly when a row of this number has its cause and no row before it has one
  pub grid_in_turn : (k : ℕ) → 0 < k → (number_of (grid_of b c levels s C T P w) ≡ k) ↔ InTurn k (grid_rows b c levels s C T P w)
  grid_in_turn = in_turn (grid_rows b c levels s C T P w) number_is

  -- so the lowest number is given first
  pub grid_exactly : (k : ℕ) → 0 < k
      → (number_of (grid_of b c levels s C T P w) ≡ k) ↔ ((caused k (grid_rows b c levels s C T P w) ≡ true) × (lower k (grid_rows b c levels s C T P w) ≡ false))
  grid_exactly = exactly (grid_rows b c levels s C T P w) (rise (plan_of b c levels)) number_is
    where
      rise : (a : Planned) → rising 1 (plan_rows b c levels ++ on_plan a (λ why. []) (λ p. table_rows p s (length C) (length T) (length P) (length w))) ≡ true
      rise (planned.Ready p) = unfold rising in unfold plan_rows in unfold split_rows in unfold each_rows in unfold answer_rows in unfold graded_rows in unfold fill_rows in refl
      rise (planned.Refused why) = unfold rising in unfold plan_rows in refl

  -- a 4 of the grid is the plan's, and names what that names
  pub grid_fault : {r : Result Gridded GridError} {C' T' P' w' : List ℕ} → GridDone b c levels s C T P w r C' T' P' w' → number_of r ≡ 4
      → (plan.number_of (plan_of b c levels) ≡ 4) × (values_of r ≡ plan.fault_of (plan_of b c levels) ∷ [])
  unfolding grid_of
  grid_fault g =
      refusals.handed_up number_of values_of (λ why. Err (Refused why)) (λ p. table_answer p s (length C) (length T) (length P) (length w)) b c levels (λ why. refl) (λ why. refl)
      (λ p. table_not_four p s (length C) (length T) (length P) (length w)) g.answer

  -- the contract allows one outcome
  pub grid_one : Determined (λ (z : Result Gridded GridError × List ℕ × List ℕ × List ℕ × List ℕ). GridDone b c levels s C T P w z.0 z.1 z.2 z.3 z.4)
  grid_one = determined (λ z a i. (a.answer i, a.cells i, a.triples i, a.points i, a.work i))

-- ---- the octree

-- the test of the rows is passed by a graded octree alone, its leaves being those of the cells
graded_is : (p : Plan) (s : List ℕ) → (is_graded (dims_of p) p.levels s ≡ true) ↔ IsGradedOctree p s
graded_is p s =
    let g = graded_exactly (dims_of p) p.levels s in
    let o = one_grading p.levels (dims_of p) (split_tree p s) in
    (λ e. o.0 (g.0 e), λ h. g.1 (o.1 h))

-- 7 among the numbers of a plan's tables
seven : (a b g t u : Bool) → (◌≡◌ {A = ℕ} (cond (not a) 5 (cond (not b) 6 (cond (not g) 7 (cond t 9 (cond u 9 0))))) 7) ↔ ((a ≡ true) × (b ≡ true) × (g ≡ false))
seven true true false t u = (λ e. (refl, refl, refl), λ h. refl)
seven true true true true u = (λ e. absurd (omega arith), λ h. clash refl h.2)
seven true true true false true = (λ e. absurd (omega arith), λ h. clash refl h.2)
seven true true true false false = (λ e. absurd (omega arith), λ h. clash refl h.2)
seven true false g t u = (λ e. absurd (omega arith), λ h. clash h.1 refl)
seven false b g t u = (λ e. absurd (omega arith), λ h. clash h.0 refl)

module _ (b : Bounds) (c : Float) (levels : ℕ) (s C T P w : List ℕ) {r : Result Gridded GridError} {C' T' P' w' : List ℕ} (d : GridDone b c levels s C T P w r C' T' P' w') where
  number : number_of r ≡ first (grid_rows b c levels s C T P w)
  number = ap number_of d.answer ∙ number_is b c levels s C T P w

  -- the number with a plan
  module _ (p : Plan) (e : plan_of b c levels ≡ planned.Ready p) where
    rows_are : number_of r
        ≡ cond (not (eqb (length s) p.octants)) 5 (cond (not (all_at_most 1 s)) 6 (cond (not (is_graded (dims_of p) p.levels s)) 7
        (cond (lacks_cells (cell_count p s) (length C) (length w)) 9 (cond (lacks_vertices (vertex_count p s) (length T) (length P)) 9 0))))
    unfolding first split_rows each_rows answer_rows graded_rows fill_rows
    rows_are =
        let z : first (plan_rows b c levels) ≡ 0 = sym (refusals.number_is b c levels) ∙ ap plan.number_of e in
        number
        ∙ ap (λ (a : Planned). first (plan_rows b c levels ++ on_plan a (λ n. []) (λ q. table_rows q s (length C) (length T) (length P) (length w)))) e
        ∙ goes_on (plan_rows b c levels) (table_rows p s (length C) (length T) (length P) (length w)) (unfold proper in unfold plan_rows in refl) (sym z) refl

    tests : (number_of r ≡ 7) ↔ ((eqb (length s) p.octants ≡ true) × (all_at_most 1 s ≡ true) × (is_graded (dims_of p) p.levels s ≡ false))
    tests =
        let k = seven (eqb (length s) p.octants) (all_at_most 1 s) (is_graded (dims_of p) p.levels s) (lacks_cells (cell_count p s) (length C) (length w)) (lacks_vertices (vertex_count p s) (length T) (length P)) in
        (λ n. k.0 (sym rows_are ∙ n), λ h. rows_are ∙ k.1 h)

  -- refusal 7 is given exactly when nothing of a lower number is refused and the table is no graded octree
  pub refused_7 : (number_of r ≡ 7) ↔ NoGradedOctree b c levels s
  refused_7 = (λ n. given n (plan_of b c levels) refl, gives)
    where
      given : number_of r ≡ 7 → (a : Planned) → plan_of b c levels ≡ a → NoGradedOctree b c levels s
      given n (planned.Ready p) e =
          let h = (tests p e).0 n in
          record {
            plan = p;
            ready = e;
            long = eqb-true (length s) p.octants h.0;
            bytes = h.1;
            ungraded = λ g. clash ((graded_is p s).1 g) h.2;
          }
      given n (planned.Refused k) e =
          let f : first (plan_rows b c levels) < 5 = first_under 5 (plan_rows b c levels) (omega arith) (unfold under in unfold plan_rows in refl) in
          let q : number_of r ≡ first (plan_rows b c levels)
          = number ∙ ap (λ (a : Planned). first (plan_rows b c levels ++ on_plan a (λ n. []) (λ p. table_rows p s (length C) (length T) (length P) (length w)))) e ∙ ap first (append-nil (plan_rows b c levels)) in
          absurd (omega (arith, f, q, n))

      gives : NoGradedOctree b c levels s → number_of r ≡ 7
      gives h = (tests h.plan h.ready).1 (eq-eqb (length s) h.plan.octants h.long, h.bytes, no (bool_cases (is_graded (dims_of h.plan) h.plan.levels s)))
        where
          no : (is_graded (dims_of h.plan) h.plan.levels s ≡ true) ⊎ (is_graded (dims_of h.plan) h.plan.levels s ≡ false) → is_graded (dims_of h.plan) h.plan.levels s ≡ false
          no (inl g) = absurd (h.ungraded ((graded_is h.plan s).0 g))
          no (inr g) = g

  -- an answer is of a graded octree, and wherever a leaf of it meets a coarser one, of the next level, the search for the centre of the coarse
  -- face among the corners of its own finds it (rule 4.7)
  module _ (n v : ℕ) (e : r ≡ so_many n v) where
    of : (p : Plan) × Answered b c levels s n v p
    of = answered b c levels s C T P w n v (sym d.answer ∙ e)

    passed : is_graded (dims_of of.0) of.0.levels s ≡ true
    passed = graded b c levels of.0 of.1.ready s of.1.accepted

    pub answer_graded : (p : Plan) × (plan_of b c levels ≡ planned.Ready p) × IsGradedOctree p s
    answer_graded = (of.0, of.1.ready, (graded_is of.0 s).0 passed)

    pub centre_found : (p : Plan) × (plan_of b c levels ≡ planned.Ready p) × ((m : ℕ) (x : Pos) (a : Axis) (t : Bool) → IsLeaf p.levels (dims_of p) (split_tree p s) m x
        → (k : ℕ) (z : Pos) → side p.levels (dims_of p) (split_tree p s) m x a t ≡ coarser k z → (k ≡ suc m) × Found (face_centre (face k z a (not t))) (face m x a t))
    centre_found = (of.0, of.1.ready, coarse_found of.0.levels (dims_of of.0) (split_tree of.0 s) (graded_closes (dims_of of.0) of.0.levels s passed))
