-- The outcomes of `representatives`, one law for each way out. Assumes nothing.
use mathlib.Core.Path.{◌≡◌, refl, sym, ap, subst, ◌∙◌}
use mathlib.Core.Bool.{Bool, true, false, cond}
use mathlib.Core.List.{List, [], ◌∷◌, ◌++◌}
use Prim.Native.Nat.{ℕ, ◌+◌, ◌*◌, ◌/◌, ◌≤◌, ◌<◌}
use native.Mathlib.Omega.{arith}
use borrow.Author.Tests.{lt-ltb, le-ltb}
use lib.Dec.{ltb}
use lib.ListN.{length, take, drop, replicate}
use lib.Seq.{length-take-le}
use Rattle.refusals.specs.Rows.{first, under}
use Rattle.refusals.specs.Causes.{work_rows, each_rows, answer_rows}
use Rattle.refusals.specs.Refusals.{as_number}
use Rattle.refusals.specs.declared.Refusal.{Refusal}
use Rattle.refusals.specs.declared.CountError.{CountError}
use Rattle.refusals.specs.declared.CountError.TheVariants.{Refused, Short}
use Rattle.refusals.proofs.Refusals.{above_none, handed_up}
use Rattle.std.specs.Prelude.{Result, Ok, Err}
use Rattle.mesh.specs.Mesh.{points_of, cells_of}
use Rattle.mesh.specs.Judged.{count_rows, whole_rows, size_rows, name_rows}
use Rattle.lists.specs.Tables.{among, all_from}
use Rattle.refusals.proofs.Rows.{unless_none, first_under}
use Rattle.lists.proofs.Lent.{as_lent, as_lent_below, as_new}
use Rattle.groups.specs.Parts.{Laid}
use Rattle.groups.specs.Judged.{crossed_rows}
use Rattle.groups.proofs.Unrefused.{Answered, crossed_fits, sized_front}
use Rattle.representatives.specs.Parts.{Storing, Listed, Found, Represents}
use Rattle.representatives.specs.Step.{count_of, input_rows, listed_of, represented_of, work_after, RepresentativesDone}

-- ---- short of room, or all

module _ (P C X o z : List ℕ) {k : ℕ} (e : k ≡ count_of C X) where
  pub short_numbers : length o < k → Represents P C X o z (Err (Short k)) o z
  unfolding listed_of
  short_numbers h =
      let a : listed_of C X o z ≡ Err (Short k) = rw (← e, lt-ltb (length o) k h) refl in
      record { answer = sym a; numbers = rw a (sym (as_lent 9 _ o (λ q. omega arith))); centroids = rw a (sym (as_lent 9 _ z (λ q. omega arith))) }

  pub short_centroids : k ≤ length o → length z / 3 < k → Represents P C X o z (Err (Short k)) o z
  unfolding listed_of
  short_centroids g h =
      let a : listed_of C X o z ≡ Err (Short k) = rw (← e, le-ltb (length o) k g, lt-ltb (length z / 3) k h) refl in
      record { answer = sym a; numbers = rw a (sym (as_lent 9 _ o (λ q. omega arith))); centroids = rw a (sym (as_lent 9 _ z (λ q. omega arith))) }

  module _ (g : k ≤ length o) (h : k ≤ length z / 3) where
    pub all_listed : {o' z' : List ℕ} → Listed P C X o' z' → Represents P C X o z (Ok k) (o' ++ drop k o) (z' ++ drop (3 * k) z)
    unfolding listed_of
    all_listed {o'} {z'} l =
        let a : listed_of C X o z ≡ Ok k = rw (← e, le-ltb (length o) k g, le-ltb (length z / 3) k h) refl in
        record {
          answer = sym a;
          numbers = rw (a, l.numbers, e) (sym (as_new [] _ o));
          centroids = rw (a, l.centroids, e) (sym (as_new [] _ z));
        }

    pub storing : (w : List ℕ) (n : ℕ) → Found P C X w n → Storing P C X (take k o) (take (3 * k) z) w n
    storing w n f = record {
      found = f;
      numbers = length-take-le k o g ∙ e;
      centroids = length-take-le (3 * k) z (omega arith) ∙ ap (λ (m : ℕ). 3 * m) e;
    }

-- ---- the step

pub work_fits : (p : ℕ) (C X : List ℕ) (room : ℕ) → first (crossed_rows p C X room 1 1) ≡ 0 → p / 3 + cells_of C ≤ room
work_fits p C X room e = omega (arith, (crossed_fits p C X room 1 1 e).mesh.work)

module _ (P C X o z w : List ℕ) where
  low : first (input_rows P C X w) < 9
  unfolding crossed_rows size_rows count_rows whole_rows work_rows each_rows answer_rows name_rows under
  low = first_under 9 (input_rows P C X w) (omega arith) refl

  -- short of room or not, the work is zero
  work_after_lem : work_after (listed_of C X o z) P C w ≡ replicate (points_of P + cells_of C) 0 ++ drop (points_of P + cells_of C) w
  unfolding listed_of among
  work_after_lem = go (ltb (length o) (count_of C X)) (ltb (length z / 3) (count_of C X))
    where
      go : (s t : Bool)
          → work_after (cond s (Err (Short (count_of C X))) (cond t (Err (Short (count_of C X))) (Ok (count_of C X)))) P C w
          ≡ replicate (points_of P + cells_of C) 0 ++ drop (points_of P + cells_of C) w
      go true t = refl
      go false true = refl
      go false false = refl

  pub refused : {why : Refusal} → as_number why ≡ first (input_rows P C X w) → RepresentativesDone P C X o z w (Err (Refused why)) o z w
  unfolding represented_of all_from
  refused {why} e =
      let d = above_none why in
      let a : represented_of P C X o z w ≡ Err (Refused why) = handed_up (λ e. Err (Refused e)) _ why e in
      record {
        answer = sym a;
        numbers = rw a (sym (as_lent _ _ o d));
        centroids = rw a (sym (as_lent _ _ z d));
        work = rw a (sym (as_lent_below 9 (9 ∷ []) (as_number why) _ w d (subst (λ (k : ℕ). k < 9) (sym e) low) refl));
      }

  module _ (c : first (input_rows P C X w) ≡ 0) where
    fits : Answered (length P) C X (length w) 1 1
    fits = crossed_fits (length P) C X (length w) 1 1 c

    pub laid : Laid P C (take (points_of P + cells_of C) w) (points_of P)
    laid = record { points = refl; sized = sized_front C w (points_of P) fits.mesh.cells (work_fits (length P) C X (length w) c) }

    pub done : {r : Result ℕ CountError} {o' z' w' : List ℕ} → Represents P C X o z r o' z' → w' ≡ replicate (length (take (points_of P + cells_of C) w)) 0
        → RepresentativesDone P C X o z w r o' z' (w' ++ drop (points_of P + cells_of C) w)
    unfolding represented_of
    done {r} {o'} {z'} {w'} l ew =
        let a : represented_of P C X o z w ≡ listed_of C X o z = unless_none _ _ _ c in
        let zw : w' ≡ replicate (points_of P + cells_of C) 0 = ew ∙ ap (λ (k : ℕ). replicate k 0) (length-take-le _ w (work_fits (length P) C X (length w) c)) in
        record {
          answer = l.answer ∙ sym a;
          numbers = rw a l.numbers;
          centroids = rw a l.centroids;
          work = rw (a, zw) (sym work_after_lem);
        }
