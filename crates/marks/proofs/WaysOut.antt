-- The outcomes of `marks`, one law for each way out. Assumes nothing.
use mathlib.Core.Path.{◌≡◌, refl, sym, ap, subst, ◌∙◌}
use mathlib.Core.Bool.{Bool, true, false, cond}
use mathlib.Core.List.{List, [], ◌∷◌, ◌++◌}
use Prim.Native.Nat.{ℕ, ◌+◌, ◌≤◌, ◌<◌}
use native.Mathlib.Omega.{arith}
use borrow.Author.Tests.{lt-ltb, le-ltb}
use lib.Dec.{ltb}
use lib.Ieee.{Float}
use lib.ListN.{length, take, drop, replicate}
use lib.Seq.{length-take-le, take_at}
use Rattle.std.specs.Prelude.{Result, Ok, Err}
use Rattle.lists.specs.Tables.{among, all_from}
use Rattle.lists.proofs.Lent.{as_lent, as_lent_below, as_new}
use Rattle.lists.proofs.Listing.{length_list}
use Rattle.refusals.specs.Rows.{first}
use Rattle.refusals.specs.Refusals.{as_number}
use Rattle.refusals.specs.declared.Refusal.{Refusal}
use Rattle.refusals.specs.declared.CountError.{CountError}
use Rattle.refusals.specs.declared.CountError.TheVariants.{Refused, Short}
use Rattle.refusals.proofs.Rows.{unless_none}
use Rattle.refusals.proofs.Refusals.{above_none, handed_up}
use Rattle.mesh.specs.Mesh.{points_of, cells_of}
use Rattle.groups.proofs.Unrefused.{sized_front}
use Rattle.sorting.specs.Numbers.{cnt}
use Rattle.volume.specs.Volume.{least_of}
use Rattle.keep.specs.Marked.{cover_mark}
use Rattle.keep.specs.Parts.{MarksOf}
use Rattle.keep.proofs.WaysOut.{cover_fits, cover_low}
use Rattle.marks.specs.Marks.{marks_of}
use Rattle.marks.specs.Step.{input_rows, stored_of, told_of, work_after, MarksDone}
use Rattle.marks.specs.Parts.{marks_by, AllMarked, TellAsked, ToldAs}
use Rattle.marks.specs.declared.Told.{Told}
use Rattle.marks.proofs.Storing.{marks_are}

-- ---- short of room, or all

abbrev as_told : ℕ → ℕ → Told
as_told kept dropped = record { kept = kept; dropped = dropped }

module _ (c : Float) (P C X Q o : List ℕ) where
  pub short : length o < cells_of C → ToldAs c P C X Q o (Err (Short (cells_of C))) o
  unfolding stored_of
  short h =
      let a : stored_of c P C X Q o ≡ Err (Short (cells_of C)) = rw (lt-ltb (length o) (cells_of C) h) refl in
      record { answer = sym a; marks = rw a (sym (as_lent 9 _ o (λ q. omega arith))) }

  length_marks : length (marks_of c P C X Q) ≡ cells_of C
  unfolding marks_of
  length_marks = length_list _ (cells_of C)

  pub front_is : take (cells_of C) (marks_of c P C X Q ++ drop (cells_of C) o) ≡ marks_of c P C X Q
  front_is = take_at (marks_of c P C X Q) (drop (cells_of C) o) (cells_of C) length_marks

  pub all_told : {m w : List ℕ} {n : ℕ} {least : Float} {r : Told} → cells_of C ≤ length o → least ≡ least_of c → MarksOf (cover_mark C X Q (cells_of C)) C w n
      → AllMarked (marks_by P C w n least) r m → ToldAs c P C X Q o (Ok r) (m ++ drop (cells_of C) o)
  unfolding stored_of
  all_told {m} {w} {n} {least} {r} h l q a =
      let t : marks_by P C w n least ≡ marks_of c P C X Q = marks_are c P C X Q w n l q in
      let s : stored_of c P C X Q o ≡ Ok (as_told (cnt 1 (marks_of c P C X Q)) (cnt 2 (marks_of c P C X Q))) = rw (le-ltb (length o) (cells_of C) h) refl in
      record {
        answer = ap Ok (a.answer ∙ ap (λ (M : List ℕ). as_told (cnt 1 M) (cnt 2 M)) t) ∙ sym s;
        marks = ap (λ (M : List ℕ). M ++ drop (cells_of C) o) (a.marks ∙ t) ∙ rw s (sym (as_new [] _ o));
      }

-- ---- the step

module _ (c : Float) (P C X Q o w : List ℕ) where
  pub refused : {why : Refusal} → as_number why ≡ first (input_rows c P C X Q w) → MarksDone c P C X Q o w (Err (Refused why)) o w
  unfolding told_of all_from
  refused {why} e =
      let a : told_of c P C X Q o w ≡ Err (Refused why) = handed_up (λ z. Err (Refused z)) _ why e in
      let d = above_none why in
      record {
        answer = sym a;
        marks = rw a (sym (as_lent (as_number why) _ o d));
        work = rw a (sym (as_lent_below 9 (9 ∷ []) (as_number why) _ w d (subst (λ (k : ℕ). k < 9) (sym e) (cover_low c (length P) C X Q (length w) 1)) refl));
      }

  -- short of room or not, the work is zero
  work_after_lem : work_after (stored_of c P C X Q o) P C w ≡ replicate (points_of P + cells_of C) 0 ++ drop (points_of P + cells_of C) w
  unfolding stored_of among
  work_after_lem = go (ltb (length o) (cells_of C))
    where
      go : (s : Bool)
          → work_after (cond s (Err (Short (cells_of C))) (Ok (as_told (cnt 1 (marks_of c P C X Q)) (cnt 2 (marks_of c P C X Q))))) P C w
          ≡ replicate (points_of P + cells_of C) 0 ++ drop (points_of P + cells_of C) w
      go true = refl
      go false = refl

  module _ (z : first (input_rows c P C X Q w) ≡ 0) where
    pub work_fits : points_of P + cells_of C ≤ length w
    work_fits = omega (arith, (cover_fits c (length P) C X Q (length w) 1 z).mesh.work)

    pub asked : TellAsked P C Q (take (points_of P + cells_of C) w)
    asked =
        let f = cover_fits c (length P) C X Q (length w) 1 z in
        record { laid = record { points = refl; sized = sized_front C w (points_of P) f.mesh.cells work_fits }; probes = f.probes }

    pub told : {r : Result Told CountError} {o' w' : List ℕ} → ToldAs c P C X Q o r o' → w' ≡ replicate (length (take (points_of P + cells_of C) w)) 0
        → MarksDone c P C X Q o w r o' (w' ++ drop (points_of P + cells_of C) w)
    unfolding told_of
    told {r} {o'} {w'} t e =
        let a : told_of c P C X Q o w ≡ stored_of c P C X Q o = unless_none _ _ _ z in
        let zw : w' ≡ replicate (points_of P + cells_of C) 0 = e ∙ ap (λ (k : ℕ). replicate k 0) (length-take-le _ w work_fits) in
        record { answer = t.answer ∙ sym a; marks = rw a t.marks; work = rw (a, zw) (sym work_after_lem) }
