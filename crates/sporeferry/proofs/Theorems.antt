-- Two outcomes that the contract of a C function allows are equal: one law, from the step's own. Assumes nothing.
use mathlib.Core.Path.{◌≡◌, sym, subst, ◌∙◌}
use mathlib.Core.List.{List}
use Rattle.std.specs.Prelude.{Result}
use Prim.Native.Nat.{ℕ}
use lib.Ieee.{Float}
use Rattle.lists.specs.Tables.{Determined}
use Rattle.plan.specs.declared.Bounds.{Bounds}
use Rattle.plan.specs.declared.Plan.{Plan}
use Rattle.plan.specs.declared.Planned.{Planned}
use Rattle.plan.specs.Step.{plan_of}
use Rattle.refine.specs.Step.{RefineDone}
use Rattle.refine.proofs.Theorems.{refine_one}
use Rattle.grid.specs.Step.{GridDone}
use Rattle.grid.proofs.Theorems.{grid_one}
use Rattle.representatives.specs.Step.{RepresentativesDone}
use Rattle.representatives.proofs.Theorems.{representatives_one}
use Rattle.keep.specs.Step.{KeepDone, cover_of, cover_cells, crust_of, crust_cells}
use Rattle.keep.proofs.Theorems.{cover_one, crust_one}
use Rattle.components.specs.Step.{ComponentsDone}
use Rattle.components.proofs.Theorems.{components_one}
use Rattle.pieces.specs.Step.{FaceComponentsDone, OnePieceDone}
use Rattle.pieces.proofs.Theorems.{face_components_one, one_piece_one}
use Rattle.refusals.specs.Rows.{Row}
use Rattle.file_components.specs.declared.Blocks.{Blocks}
use Rattle.file_steps.specs.Reader.{Reads}
use Rattle.file_steps.specs.Writer.{Writes}
use Rattle.file_steps.proofs.Theorems.{write_one, read_one}
use Rattle.mesh_reader.specs.Step.{ReadDone}
use Rattle.vtk_reader.specs.Step.{ReadDone as VtkReadDone}
use Rattle.marks.specs.Step.{MarksDone}
use Rattle.marks.proofs.Theorems.{marks_one}
use Rattle.coverage.specs.declared.Totals.{Totals}
use Rattle.coverage.specs.declared.Uncovered.{Uncovered}
use Rattle.coverage.specs.Step.{CoverageDone}
use Rattle.coverage.proofs.Theorems.{coverage_one}
use Rattle.sporeferry.specs.Calls.{Called, Tells, TellsPlan, TellsTotals, planned, refined, gridded, counted, piece, kept, told, covered, loaded}
use Rattle.sporeferry.specs.declared.outcomes.Answer.{Answer}

-- where a step allows one outcome, and an outcome is told in one way, C finds one answer and one set of tables
pub called_one : {A B T : Type 0} {tells : A → B → Type 0} (done : A → T → Type 0) → ((a : A) → Determined (tells a))
    → Determined (λ (z : A × T). done z.0 z.1) → Determined (λ (z : B × T). Called tells (λ a. done a z.1) z.0)
called_one {A} {B} {T} {tells} done told one x y p q =
    let e : ◌≡◌ {A = A × T} (p.outcome, x.1) (q.outcome, y.1) = one (p.outcome, x.1) (q.outcome, y.1) p.step q.step in
    let h : tells q.outcome x.0 = subst (λ (z : A × T). tells z.0 x.0) e p.answer in
    λ i. (told q.outcome x.0 y.0 h q.answer i, (e i).1)

-- the same with two, three and four tables
pub called_two : {A B : Type 0} {tells : A → B → Type 0} (done : A → (t u : List ℕ) → Type 0) → ((a : A) → Determined (tells a))
    → Determined (λ (z : A × List ℕ × List ℕ). done z.0 z.1 z.2)
    → Determined (λ (z : B × List ℕ × List ℕ). Called tells (λ a. done a z.1 z.2) z.0)
called_two {A} done told one x y p q =
    let e =
    called_one (λ (a : A) (t : List ℕ × List ℕ). done a t.0 t.1) told
    (λ x y p q. let e = one (x.0, x.1.0, x.1.1) (y.0, y.1.0, y.1.1) p q in λ i. ((e i).0, ((e i).1, (e i).2)))
    (x.0, (x.1, x.2)) (y.0, (y.1, y.2)) p q in
    λ i. ((e i).0, (e i).1.0, (e i).1.1)

pub called_three : {A B : Type 0} {tells : A → B → Type 0} (done : A → (t u v : List ℕ) → Type 0) → ((a : A) → Determined (tells a))
    → Determined (λ (z : A × List ℕ × List ℕ × List ℕ). done z.0 z.1 z.2 z.3)
    → Determined (λ (z : B × List ℕ × List ℕ × List ℕ). Called tells (λ a. done a z.1 z.2 z.3) z.0)
called_three {A} done told one x y p q =
    let e =
    called_one (λ (a : A) (t : List ℕ × List ℕ × List ℕ). done a t.0 t.1 t.2) told
    (λ x y p q. let e = one (x.0, x.1.0, x.1.1, x.1.2) (y.0, y.1.0, y.1.1, y.1.2) p q in λ i. ((e i).0, ((e i).1, (e i).2, (e i).3)))
    (x.0, (x.1, x.2, x.3)) (y.0, (y.1, y.2, y.3)) p q in
    λ i. ((e i).0, (e i).1.0, (e i).1.1, (e i).1.2)

pub called_four : {A B : Type 0} {tells : A → B → Type 0} (done : A → (t u v w : List ℕ) → Type 0) → ((a : A) → Determined (tells a))
    → Determined (λ (z : A × List ℕ × List ℕ × List ℕ × List ℕ). done z.0 z.1 z.2 z.3 z.4)
    → Determined (λ (z : B × List ℕ × List ℕ × List ℕ × List ℕ). Called tells (λ a. done a z.1 z.2 z.3 z.4) z.0)
called_four {A} done told one x y p q =
    let e =
    called_one (λ (a : A) (t : List ℕ × List ℕ × List ℕ × List ℕ). done a t.0 t.1 t.2 t.3) told
    (λ x y p q. let e = one (x.0, x.1.0, x.1.1, x.1.2, x.1.3) (y.0, y.1.0, y.1.1, y.1.2, y.1.3) p q in λ i. ((e i).0, ((e i).1, (e i).2, (e i).3, (e i).4)))
    (x.0, (x.1, x.2, x.3, x.4)) (y.0, (y.1, y.2, y.3, y.4)) p q in
    λ i. ((e i).0, (e i).1.0, (e i).1.1, (e i).1.2, (e i).1.3)

-- an outcome is told in one way
pub tells_one : (n : ℕ) (values : List ℕ) → Determined (Tells n values)
tells_one n values r s p q i =
    record {
      number = (p.number ∙ sym q.number) i;
      first = (p.first ∙ sym q.first) i;
      second = (p.second ∙ sym q.second) i;
      third = (p.third ∙ sym q.third) i;
    }

pub tells_plan_one : (n fault : ℕ) (p : Plan) → Determined (TellsPlan n fault p)
tells_plan_one n fault p r s f g i =
    record {
      number = (f.number ∙ sym g.number) i;
      value = (f.value ∙ sym g.value) i;
      ox = (f.ox ∙ sym g.ox) i;
      oy = (f.oy ∙ sym g.oy) i;
      oz = (f.oz ∙ sym g.oz) i;
      half = (f.half ∙ sym g.half) i;
      nx = (f.nx ∙ sym g.nx) i;
      ny = (f.ny ∙ sym g.ny) i;
      nz = (f.nz ∙ sym g.nz) i;
      octants = (f.octants ∙ sym g.octants) i;
    }

pub tells_totals_one : (n : ℕ) (t : Totals) → Determined (TellsTotals n t)
tells_totals_one n t r s p q i = record { number = (p.number ∙ sym q.number) i; totals = (p.totals ∙ sym q.totals) i }

-- ---- each C function

pub sf_add_coverage_one : (t : Totals) (T C M : List ℕ) → Determined (Called covered (λ (a : Result Totals Uncovered). CoverageDone t T C M a))
sf_add_coverage_one t T C M r s p q =
    let e : p.outcome ≡ q.outcome = coverage_one t T C M _ _ p.step q.step in
    tells_totals_one _ _ r s (subst (λ (a : Result Totals Uncovered). covered a r) e p.answer) q.answer

module _ (b : Bounds) (c : Float) (levels : ℕ) where
  pub sf_plan_one : Determined (Called planned (λ (a : Planned). a ≡ plan_of b c levels))
  sf_plan_one r s p q =
      let e : p.outcome ≡ q.outcome = p.step ∙ sym q.step in
      tells_plan_one _ _ _ r s (subst (λ (a : Planned). planned a r) e p.answer) q.answer

  pub sf_refine_one : (C o : List ℕ) → Determined (λ (z : Answer × List ℕ). Called refined (λ a. RefineDone b c levels C o a z.1) z.0)
  sf_refine_one C o = called_one (RefineDone b c levels C o) (λ a. tells_one _ _) (refine_one b c levels C o)

  pub sf_grid_one : (s C T P w : List ℕ)
      → Determined
      (λ (z : Answer × List ℕ × List ℕ × List ℕ × List ℕ). Called gridded (λ a. GridDone b c levels s C T P w a z.1 z.2 z.3 z.4) z.0)
  sf_grid_one s C T P w = called_four (GridDone b c levels s C T P w) (λ a. tells_one _ _) (grid_one b c levels s C T P w)

module _ (P C : List ℕ) where
  pub sf_representatives_one : (X o v w : List ℕ)
      → Determined
      (λ (z : Answer × List ℕ × List ℕ × List ℕ). Called counted (λ a. RepresentativesDone P C X o v w a z.1 z.2 z.3) z.0)
  sf_representatives_one X o v w = called_three (RepresentativesDone P C X o v w) (λ a. tells_one _ _) (representatives_one P C X o v w)

  module _ (c : Float) (X p q w : List ℕ) where
    pub sf_keep_cover_one : (Q : List ℕ)
        → Determined
        (λ (z : Answer × List ℕ × List ℕ × List ℕ).
        Called kept (λ a. KeepDone (cover_of c P C X Q p q w) P C (cover_cells c P C X Q) p q w a z.1 z.2 z.3) z.0)
    sf_keep_cover_one Q =
        called_three (KeepDone (cover_of c P C X Q p q w) P C (cover_cells c P C X Q) p q w) (λ a. tells_one _ _) (cover_one c P C X Q p q w)

    pub sf_keep_crust_one
        : Determined
        (λ (z : Answer × List ℕ × List ℕ × List ℕ).
        Called kept (λ a. KeepDone (crust_of c P C X p q w) P C (crust_cells c P C X) p q w a z.1 z.2 z.3) z.0)
    sf_keep_crust_one = called_three (KeepDone (crust_of c P C X p q w) P C (crust_cells c P C X) p q w) (λ a. tells_one _ _) (crust_one c P C X p q w)

  pub sf_marks_one : (c : Float) (X Q o w : List ℕ)
      → Determined (λ (z : Answer × List ℕ × List ℕ). Called told (λ a. MarksDone c P C X Q o w a z.1 z.2) z.0)
  sf_marks_one c X Q o w = called_two (MarksDone c P C X Q o w) (λ a. tells_one _ _) (marks_one c P C X Q o w)

  pub sf_components_one : (o w : List ℕ)
      → Determined (λ (z : Answer × List ℕ × List ℕ). Called counted (λ a. ComponentsDone P C o w a z.1 z.2) z.0)
  sf_components_one o w = called_two (ComponentsDone P C o w) (λ a. tells_one _ _) (components_one P C o w)

  pub sf_face_components_one : (o w : List ℕ)
      → Determined (λ (z : Answer × List ℕ × List ℕ). Called counted (λ a. FaceComponentsDone P C o w a z.1 z.2) z.0)
  sf_face_components_one o w = called_two (FaceComponentsDone P C o w) (λ a. tells_one _ _) (face_components_one P C o w)

  pub sf_one_piece_one : (w : List ℕ) → Determined (λ (z : Answer × List ℕ). Called piece (λ a. OnePieceDone P C w a z.1) z.0)
  sf_one_piece_one w = called_one (OnePieceDone P C w) (λ a. tells_one _ _) (one_piece_one P C w)

  -- both writers: f is the file, n how long it is, e the work entries a point
  pub sf_write_one : (e n : ℕ) (f o w : List ℕ)
      → Determined (λ (z : Answer × List ℕ × List ℕ). Called counted (λ a. Writes e n f P C o w a z.1 z.2) z.0)
  sf_write_one e n f o w = called_two (Writes e n f P C o w) (λ a. tells_one _ _) (write_one e n f P C o w)

-- both readers: rows are the refusals by the file alone, s says where its mesh stands
module _ (rows : List Row) (b : List ℕ) (s : Blocks) (x y w : List ℕ) where
  pub sf_read_one : Determined (λ (z : Answer × List ℕ × List ℕ × List ℕ). Called loaded (λ a. Reads rows b s x y w a z.1 z.2 z.3) z.0)
  sf_read_one = called_three (Reads rows b s x y w) (λ a. tells_one _ _) (read_one rows b s x y w)

module _ (b x y w : List ℕ) where
  pub sf_read_mesh_one : Determined (λ (z : Answer × List ℕ × List ℕ × List ℕ). Called loaded (λ a. ReadDone b x y w a z.1 z.2 z.3) z.0)
  sf_read_mesh_one = sf_read_one _ b _ x y w

  pub sf_read_vtk_one : Determined (λ (z : Answer × List ℕ × List ℕ × List ℕ). Called loaded (λ a. VtkReadDone b x y w a z.1 z.2 z.3) z.0)
  sf_read_vtk_one = sf_read_one _ b _ x y w
