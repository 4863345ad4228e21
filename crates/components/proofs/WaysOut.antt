-- The outcomes of the step, one law for each way out. Assumes nothing.
use mathlib.Core.Path.{◌≡◌, refl, sym, ap, subst, ◌∙◌}
use mathlib.Core.List.{List, [], ◌++◌}
use Prim.Native.Nat.{ℕ, ◌*◌, ◌/◌, ◌≤◌, ◌<◌}
use native.Mathlib.Omega.{arith}
use borrow.Author.Tests.{lt-ltb, le-ltb}
use lib.ListN.{length, take, drop, replicate}
use lib.Seq.{length-take-le}
use Rattle.lists.proofs.Parts.{sets_whole}
use Rattle.lists.proofs.Lent.{as_lent, as_new}
use Rattle.refusals.specs.Rows.{first}
use Rattle.refusals.specs.Refusals.{as_number}
use Rattle.refusals.specs.declared.Refusal.{Refusal}
use Rattle.refusals.specs.declared.CountError.TheVariants.{Refused, Short}
use Rattle.refusals.proofs.Rows.{unless_none}
use Rattle.refusals.proofs.Refusals.{above_none, handed_up}
use Rattle.std.specs.Prelude.{Ok, Err}
use Rattle.mesh.specs.Mesh.{points_of, cells_of, Cells}
use Rattle.mesh.proofs.Unrefused.{Fitting, mesh_fits, points_work}
use Rattle.components.specs.Numbers.{component_numbers}
use Rattle.components.specs.Parts.{Listed, Fits}
use Rattle.components.specs.Step.{piece_rows, components_of, ComponentsDone}
use Rattle.components.proofs.Patterns.{length_components}

-- the front of the work table that is lent on
pub asks : (p : ℕ) (C w : List ℕ) → Fitting p C (length w) 0 2 → Fits C (take (2 * (p / 3)) w)
asks p C w f =
    let e : length (take (2 * (p / 3)) w) ≡ 2 * (p / 3) = length-take-le (2 * (p / 3)) w (points_work p C (length w) 2 f) in
    let h : length (take (2 * (p / 3)) w) / 2 ≡ p / 3 = omega arith in
    record { cells = subst (Cells C) (sym h) f.cells; even = omega arith }

-- and that of the table of numbers
pub numbers_fit : (o : List ℕ) (n : ℕ) → n ≤ length o → length (take n o) ≤ n
numbers_fit o n h = omega (arith, length-take-le n o h)

zeros_lent : (P C w : List ℕ) {w' : List ℕ} → first (piece_rows P C w) ≡ 0 → w' ≡ replicate (length (take (2 * points_of P) w)) 0
    → w' ≡ replicate (2 * points_of P) 0
zeros_lent P C w z e =
    e ∙ ap (λ (k : ℕ). replicate k 0) (length-take-le (2 * points_of P) w (points_work (length P) C (length w) 2 (mesh_fits (length P) C (length w) 0 2 z)))

module _ (P C o w : List ℕ) where
  pub refused : {why : Refusal} → as_number why ≡ first (piece_rows P C w) → ComponentsDone P C o w (Err (Refused why)) o w
  unfolding components_of
  refused {why} e =
      let d = above_none why in
      let a : components_of P C o w ≡ Err (Refused why) = handed_up (λ e. Err (Refused e)) _ why e in
      record { answer = sym a; numbers = rw a (sym (as_lent _ _ o d)); work = rw a (sym (as_lent _ _ w d)) }

  module _ (z : first (piece_rows P C w) ≡ 0) where
    pub short : length o < cells_of C → ComponentsDone P C o w (Err (Short (cells_of C))) o w
    unfolding components_of
    short h =
        let a : components_of P C o w ≡ Err (Short (cells_of C)) = unless_none _ _ _ z ∙ rw (lt-ltb _ _ h) refl in
        record { answer = sym a; numbers = rw a (sym (as_lent 9 _ o (λ q. omega arith))); work = rw a (sym (as_lent 9 _ w (λ q. omega arith))) }

    pub done : {r : ℕ} {o' w' : List ℕ} → cells_of C ≤ length o → Listed C (take (cells_of C) o) o' r
        → w' ≡ replicate (length (take (2 * points_of P) w)) 0
        → ComponentsDone P C o w (Ok r) (o' ++ drop (cells_of C) o) (w' ++ drop (2 * points_of P) w)
    unfolding components_of
    done {r} {o'} h l ew =
        let a : components_of P C o w ≡ Ok r = unless_none _ _ _ z ∙ rw (le-ltb _ _ h, ← l.count) refl in
        let eo : o' ≡ component_numbers C (cells_of C) = l.numbers ∙ sets_whole _ _ (length_components C (cells_of C) ∙ sym (length-take-le (cells_of C) o h)) in
        record { answer = sym a; numbers = rw (a, eo) (sym (as_new [] _ o)); work = rw (a, zeros_lent P C w z ew) (sym (as_new [] _ w)) }
