-- The outcomes of the step, one law for each way out. Assumes nothing.
use mathlib.Core.Path.{◌≡◌, refl, sym, ap, ◌∙◌}
use mathlib.Core.Logic.{◌≢◌}
use mathlib.Core.List.{List, [], ◌∷◌, ◌++◌}
use Prim.Native.Nat.{ℕ, ◌≤◌, ◌<◌}
use native.Mathlib.Omega.{arith}
use borrow.Author.Tests.{lt-ltb, le-ltb}
use lib.Ieee.{Float}
use lib.ListN.{length, take, drop}
use Rattle.std.specs.Prelude.{Result, Ok, Err}
use lib.Seq.{length-take-le}
use Rattle.refusals.specs.Rows.{first, proper}
use Rattle.lists.specs.Tables.{front, on}
use Rattle.refusals.specs.Causes.{each_rows, answer_rows}
use Rattle.refusals.proofs.Rows.{front_clear, rest_clear, unless_none, unless_some}
use Rattle.refusals.proofs.Causes.{each_fits, answers_fit}
use Rattle.lists.proofs.Lent.{as_lent, as_new}
use Rattle.plan.specs.Step.{refusal_of, plan_of}
use Rattle.plan.specs.declared.Bounds.{Bounds}
use Rattle.plan.specs.declared.Plan.{Plan}
use Rattle.plan.specs.declared.Refusal.{Refusal}
use Rattle.plan.specs.declared.Planned.{Planned}
use Rattle.plan.specs.declared.Planned.TheVariants as planned
use Rattle.plan.specs.Parts.{Planful}
use Rattle.plan.proofs.Ready.{ready}
use Rattle.refine.specs.Parts.{TableAsked, TableDone}
use Rattle.refine.specs.Step.{crossing_rows, number_of, split_of, refused_with, answer_for, refined_of, split_for, RefineDone}
use Rattle.refine.specs.declared.RefineError.{RefineError}
use Rattle.refine.specs.declared.RefineError.TheVariants.{Refused, Short}

module _ (b : Bounds) (c : Float) (levels : ℕ) (C o : List ℕ) where
  -- refused by the plan
  pub refused_plan : {r : Planned} {k n : Refusal} → r ≡ plan_of b c levels → r ≡ planned.Refused k → n ≡ refusal_of r → RefineDone b c levels C o (Err (Refused n)) o
  unfolding refined_of
  refused_plan {r} {k} {n} e f g =
      let p : plan_of b c levels ≡ planned.Refused k = sym e ∙ f in
      let q : n ≡ k = g ∙ ap refusal_of f in
      record { answer = rw (p, q); split = rw p }

  module _ {p : Plan} (e : plan_of b c levels ≡ planned.Ready p) where
    -- what is asked of the tables that are lent on
    pub asked : first (crossing_rows p.octants C) ≡ 0 → p.octants ≤ length o
        → TableAsked (record { nx = p.nx; ny = p.ny; nz = p.nz; levels = p.levels }) C (take p.octants o)
    unfolding crossing_rows proper each_rows
    asked z h =
        let r : Planful p = ready b c levels p e in
        let each = each_rows p.octants (length C) in
        let n : length C ≡ p.octants = each_fits _ _ (front_clear each (answer_rows C) z) in
        record {
          covers = λ i. record { roots = r.roots i; levels = r.levels_few; octants = n ∙ r.octants_are };
          octants = n ∙ r.octants_are;
          few = omega (arith, r.octants_few);
          same = length-take-le p.octants o h ∙ sym n;
          answers = answers_fit C (rest_clear each (answer_rows C) refl z);
        }

    -- the outcome, by the answer of the plan
    by_answer : {r : Result ℕ RefineError} {o' : List ℕ} → r ≡ answer_for p C o → o' ≡ split_for p C o → RefineDone b c levels C o r o'
    unfolding refined_of
    by_answer f g = record { answer = f ∙ rw e; split = g ∙ rw e }

    -- refused by the crossing table
    pub refused : {n : ℕ} → n ≡ first (crossing_rows p.octants C) → n ≢ 0 → RefineDone b c levels C o (refused_with n) o
    unfolding answer_for
    refused {n} f h =
        let d : first (crossing_rows p.octants C) ≢ 0 = λ q. h (f ∙ q) in
        let a : refused_with n ≡ answer_for p C o = ap refused_with f ∙ sym (unless_some (first (crossing_rows p.octants C)) refused_with _ d) in
        by_answer a (sym (as_lent (number_of (answer_for p C o)) _ o (λ q. h (ap number_of a ∙ q))))

    module _ (z : first (crossing_rows p.octants C) ≡ 0) where
      pub short : length o < p.octants → RefineDone b c levels C o (Err (Short p.octants)) o
      unfolding answer_for
      short h =
          let a : Err (Short p.octants) ≡ answer_for p C o = sym (unless_none (first (crossing_rows p.octants C)) refused_with _ z ∙ rw (lt-ltb (length o) p.octants h)) in
          by_answer a (sym (as_lent (number_of (answer_for p C o)) _ o (λ q. nine (ap number_of a ∙ q))))
        where
          nine : ◌≡◌ {A = ℕ} 9 0 → ⊥
          nine q = omega arith

      pub done : {n : ℕ} {s : List ℕ} → p.octants ≤ length o → TableDone (record { nx = p.nx; ny = p.ny; nz = p.nz; levels = p.levels }) C n s
          → RefineDone b c levels C o (Ok n) (s ++ drop p.octants o)
      unfolding answer_for
      done {n} {s} h t =
          let a : Ok n ≡ answer_for p C o = ap Ok t.ones ∙ sym (unless_none (first (crossing_rows p.octants C)) refused_with _ z ∙ rw (le-ltb (length o) p.octants h)) in
          by_answer a (ap (λ (l : List ℕ). l ++ drop p.octants o) t.split ∙ sym (ap (λ (k : ℕ). on (0 ∷ []) k (front p.octants (split_of p C) o) o) (sym (ap number_of a)) ∙ as_new [] _ o))
