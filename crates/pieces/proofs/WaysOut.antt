-- The outcomes of the two steps, one law for each way out. Assumes nothing.
use mathlib.Core.Path.{◌≡◌, refl, sym, ap, ◌∙◌}
use mathlib.Core.Bool.{Bool}
use mathlib.Core.List.{List, [], ◌++◌}
use Prim.Native.Nat.{ℕ, ◌*◌, ◌/◌, ◌≤◌, ◌<◌}
use native.Mathlib.Omega.{arith}
use borrow.Author.Tests.{lt-ltb, le-ltb}
use lib.Dec.{eqb}
use lib.ListN.{length, take, drop, replicate}
use lib.Seq.{length-take-le}
use Rattle.lists.proofs.Parts.{sets_whole}
use Rattle.lists.proofs.Lent.{as_lent, as_new}
use Rattle.refusals.specs.Rows.{first}
use Rattle.refusals.specs.Refusals.{as_number}
use Rattle.refusals.specs.declared.Refusal.{Refusal}
use Rattle.refusals.specs.declared.CountError.TheVariants.{Refused, Short}
use Rattle.refusals.proofs.Rows.{unless_none}
use Rattle.refusals.proofs.Refusals.{above_none, handed_up}
use Rattle.std.specs.Prelude.{Ok, Err}
use Rattle.mesh.specs.Mesh.{cells_of}
use Rattle.faces.specs.Judged.{face_rows}
use Rattle.faces.proofs.Twice.{faces_fit, once}
use Rattle.pieces.specs.Pieces.{face_numbers, face_count}
use Rattle.pieces.specs.Parts.{Fits, Listed}
use Rattle.pieces.specs.Step.{piece_rows, face_components_of, FaceComponentsDone, one_piece_of, OnePieceDone}
use Rattle.pieces.proofs.Labelled.{length_faces}

-- the work that is asked is there
pub work_in : (p : ℕ) (C : List ℕ) (room : ℕ) → first (face_rows p C room) ≡ 0 → 16 * cells_of C ≤ room
work_in p C room z = omega (arith, (faces_fit p C room z).work)

-- the front of the work table that is lent on
pub asks : (p : ℕ) (C w : List ℕ) → first (face_rows p C (length w)) ≡ 0 → Fits C (take (16 * cells_of C) w) (p / 3)
asks p C w z = record {
  cells = (faces_fit p C (length w) z).cells;
  proper = once p C (length w) z;
  long = length-take-le (16 * cells_of C) w (work_in p C (length w) z);
}

zeros_lent : (P C w : List ℕ) {w' : List ℕ} → first (piece_rows P C w) ≡ 0 → w' ≡ replicate (length (take (16 * cells_of C) w)) 0
    → w' ≡ replicate (16 * cells_of C) 0
zeros_lent P C w z e = e ∙ ap (λ (k : ℕ). replicate k 0) (length-take-le (16 * cells_of C) w (work_in (length P) C (length w) z))

-- ---- the numbering by faces

module _ (P C o w : List ℕ) where
  pub refused : {why : Refusal} → as_number why ≡ first (piece_rows P C w) → FaceComponentsDone P C o w (Err (Refused why)) o w
  unfolding face_components_of
  refused {why} e =
      let d = above_none why in
      let a : face_components_of P C o w ≡ Err (Refused why) = handed_up (λ e. Err (Refused e)) _ why e in
      record { answer = sym a; numbers = rw a (sym (as_lent _ _ o d)); work = rw a (sym (as_lent _ _ w d)) }

  module _ (z : first (piece_rows P C w) ≡ 0) where
    pub short : length o < cells_of C → FaceComponentsDone P C o w (Err (Short (cells_of C))) o w
    unfolding face_components_of
    short h =
        let a : face_components_of P C o w ≡ Err (Short (cells_of C)) = unless_none _ _ _ z ∙ rw (lt-ltb _ _ h) refl in
        record { answer = sym a; numbers = rw a (sym (as_lent 9 _ o (λ q. omega arith))); work = rw a (sym (as_lent 9 _ w (λ q. omega arith))) }

    pub done : {r : ℕ} {o' w' : List ℕ} → cells_of C ≤ length o → Listed C (take (cells_of C) o) o' (take (16 * cells_of C) w) w' r
        → FaceComponentsDone P C o w (Ok r) (o' ++ drop (cells_of C) o) (w' ++ drop (16 * cells_of C) w)
    unfolding face_components_of
    done {r} {o'} h l =
        let a : face_components_of P C o w ≡ Ok r = unless_none _ _ _ z ∙ rw (le-ltb _ _ h, ← l.count) refl in
        let eo : o' ≡ face_numbers C (cells_of C) = l.numbers ∙ sets_whole _ _ (length_faces C (cells_of C) ∙ sym (length-take-le (cells_of C) o h)) in
        record { answer = sym a; numbers = rw (a, eo) (sym (as_new [] _ o)); work = rw (a, zeros_lent P C w z l.zero) (sym (as_new [] _ w)) }

-- ---- one piece

module _ (P C w : List ℕ) where
  pub piece_refused : {why : Refusal} → as_number why ≡ first (piece_rows P C w) → OnePieceDone P C w (Err why) w
  unfolding one_piece_of
  piece_refused {why} e =
      let a : one_piece_of P C w ≡ Err why = handed_up (λ e. Err e) _ why e in
      record { answer = sym a; work = rw a (sym (as_lent _ _ w (above_none why))) }

  pub piece_told : {b : Bool} {w' : List ℕ} → first (piece_rows P C w) ≡ 0 → b ≡ eqb (face_count C (cells_of C)) 1
      → w' ≡ replicate (length (take (16 * cells_of C) w)) 0 → OnePieceDone P C w (Ok b) (w' ++ drop (16 * cells_of C) w)
  unfolding one_piece_of
  piece_told {b} z eb ew =
      let a : one_piece_of P C w ≡ Ok b = unless_none _ _ _ z ∙ rw (← eb) refl in
      record { answer = sym a; work = rw (a, zeros_lent P C w z ew) (sym (as_new [] _ w)) }
