-- The outcomes of the two steps, one law for each way out. Assumes nothing.
use mathlib.Core.Path.{◌≡◌, refl, sym, ap, subst, ◌∙◌}
use mathlib.Core.Logic.{◌⊎◌, inl, inr, ◌≢◌}
use mathlib.Core.Bool.{Bool, true, false, cond}
use mathlib.Core.List.{List, [], ◌∷◌, ◌++◌}
use Prim.Native.Nat.{ℕ, ◌+◌, ◌/◌, ◌≤◌, ◌<◌}
use native.Mathlib.Omega.{arith}
use lib.Dec.{eqb, ltb}
use lib.Ieee.{Float}
use lib.ListN.{length, take, drop, replicate}
use lib.Seq.{length-take-le, length_front, take_at, take-take, drop-append-add, drop-drop}
use Rattle.std.specs.Prelude.{Result, Ok, Err}
use Rattle.lists.specs.Tables.{among, all_from}
use Rattle.lists.proofs.Cases.{eq_or}
use Rattle.lists.proofs.Lent.{as_lent, as_lent_below}
use Rattle.refusals.specs.Rows.{first, proper, under}
use Rattle.refusals.specs.Causes.{work_rows, each_rows, answer_rows}
use Rattle.refusals.specs.Refusals.{as_number, as_refusal, named}
use Rattle.refusals.specs.declared.Refusal.{Refusal}
use Rattle.refusals.specs.declared.Refusal.TheVariants.{NothingKept}
use Rattle.refusals.proofs.Rows.{front_clear, rest_clear, unless_none, unless_some, first_under}
use Rattle.refusals.proofs.Refusals.{above_none, handed_up}
use Rattle.refusals.proofs.Causes.{each_fits}
use Rattle.plan.specs.Step.{cell_size_rows}
use Rattle.mesh.specs.Mesh.{points_of, cells_of}
use Rattle.mesh.specs.Judged.{count_rows, whole_rows, size_rows, name_rows}
use Rattle.mesh.proofs.Unrefused.{Fitting, sizes_proper, sizes_fit, names_fit, named_fit}
use Rattle.groups.specs.Judged.{crossed_rows}
use Rattle.groups.specs.Parts.{Sized}
use Rattle.groups.proofs.Unrefused.{Answered, crossed_fits, sized_front}
use Rattle.volume.specs.Volume.{least_of}
use Rattle.marked.specs.Kept.{number_of, points_kept, cells_kept, kept_of, points_after, cells_after}
use Rattle.marked.specs.Parts.{marked_in, KeptAs, KeptMarked}
use Rattle.marked.specs.declared.Kept.{Kept}
use Rattle.marked.specs.declared.KeepError.{KeepError}
use Rattle.marked.specs.declared.KeepError.TheVariants.{Refused, Short}
use Rattle.marked.proofs.WaysOut.{kept_same}
use Rattle.keep.specs.Step.{need_of, crust_rows, cover_rows, keep_of, work_after, KeepDone}
use Rattle.keep.specs.Parts.{MarksOf, front_of, RestKept}

-- ---- what is known where nothing is refused: p is the length of the table of points, room that of the work

size_proper : (c : Float) → proper (cell_size_rows c) ≡ true
unfolding proper
size_proper c = refl

pub crust_fits : (c : Float) (p : ℕ) (C X : List ℕ) (room : ℕ) → first (crust_rows c p C X room) ≡ 0 → Answered p C X room 1 2
unfolding crust_rows
crust_fits c p C X room e = crossed_fits p C X room 1 2 (rest_clear (cell_size_rows c) _ (size_proper c) e)

pub record CoverFits (p : ℕ) (C Q : List ℕ) (room b : ℕ) : Type 0 where
  pub mesh : Fitting p C room 1 b
  pub probes : length Q ≡ cells_of C

pub cover_fits : (c : Float) (p : ℕ) (C X Q : List ℕ) (room b : ℕ) → first (cover_rows c p C X Q room b) ≡ 0 → CoverFits p C Q room b
unfolding cover_rows proper each_rows answer_rows
cover_fits c p C X Q room b e =
    let sizes = size_rows p (length C) room 1 b in
    let x = each_rows (cells_of C) (length X) in
    let q = each_rows (cells_of C) (length Q) in
    let names = name_rows (p / 3) C in
    let s : first (sizes ++ (x ++ (q ++ (answer_rows X ++ (answer_rows Q ++ names))))) ≡ 0 = rest_clear (cell_size_rows c) _ (size_proper c) e in
    let eq : first (q ++ (answer_rows X ++ (answer_rows Q ++ names))) ≡ 0 = rest_clear x _ refl (rest_clear sizes _ (sizes_proper p (length C) room 1 b) s) in
    let en : first names ≡ 0 = rest_clear (answer_rows Q) names refl (rest_clear (answer_rows X) _ refl (rest_clear q _ refl eq)) in
    record {
      mesh = named_fit p C room 1 b (sizes_fit p (length C) room 1 b (front_clear sizes _ s)) (names_fit (p / 3) C en);
      probes = each_fits (cells_of C) (length Q) (front_clear q _ eq);
    }

pub front_fits : (p : ℕ) (C : List ℕ) (room : ℕ) → Fitting p C room 1 2 → p / 3 + cells_of C ≤ room
front_fits p C room f = omega (arith, f.work)

-- ---- the front of the work is lent on, to be marked, and is now s

module _ (P C w : List ℕ) (f : Fitting (length P) C (length w) 1 2) where
  pub front_sized : Sized C (take (front_of P C) w) (points_of P)
  front_sized = sized_front C w (points_of P) f.cells (front_fits (length P) C (length w) f)

  module _ (s : List ℕ) (ls : length s ≡ length (take (front_of P C) w)) where
    abbrev lent : List ℕ
    lent = s ++ drop (front_of P C) w

    s_long : length s ≡ front_of P C
    s_long = ls ∙ length-take-le (front_of P C) w (front_fits (length P) C (length w) f)

    pub need_fits : need_of P C ≤ length lent
    need_fits = omega (arith, f.work, length_front w s (front_of P C) ls)

    -- then all that is asked of the work is lent on: its front is s
    front_again : take (front_of P C) (take (need_of P C) lent) ≡ s
    front_again =
        take-take (front_of P C) (need_of P C) lent (omega arith) ∙ take_at s (drop (front_of P C) w) (front_of P C) s_long

    module _ {mark : ℕ → Bool} (m : MarksOf mark C s (points_of P)) where
      pub rest_marked : {c : Float} {p q p' q' z : List ℕ} {r : Result Kept KeepError} → RestKept c P C p q (take (need_of P C) lent) r p' q' z
          → KeptMarked P C mark (least_of c) p q r p' q'
      rest_marked k = k.kept mark (rw front_again m)

    pub work_zero : {z : List ℕ} → z ≡ replicate (length (take (need_of P C) lent)) 0
        → z ++ drop (need_of P C) lent ≡ replicate (need_of P C) 0 ++ drop (need_of P C) w
    work_zero e =
        let n : need_of P C ≡ length s + points_of P = omega (arith, s_long) in
        let m : front_of P C + points_of P ≡ need_of P C = omega arith in
        rw (e, length-take-le (need_of P C) lent need_fits)
        (ap (λ (l : List ℕ). replicate (need_of P C) 0 ++ l)
        (ap (λ (k : ℕ). drop k lent) n ∙ drop-append-add s (drop (front_of P C) w) (points_of P) ∙ drop-drop (points_of P) (front_of P C) w ∙ ap (λ (k : ℕ). drop k w) m))

-- what `keep_rest` keeps, whatever test the front of its work marks the cells by
pub rest_kept : (c : Float) (P C p q w : List ℕ) {least : Float} {r : Result Kept KeepError} {p' q' : List ℕ} → least ≡ least_of c
    → KeptMarked P C (marked_in (drop (points_of P) (take (front_of P C) w))) least p q r p' q'
    → (mark : ℕ → Bool) → MarksOf mark C (take (front_of P C) w) (points_of P) → KeptMarked P C mark (least_of c) p q r p' q'
rest_kept c P C p q w {r = r} {p' = p'} {q' = q'} e k mark m =
    subst (λ (x : Float). KeptMarked P C mark x p q r p' q') e (kept_same P C _ mark _ m.marked k)

-- ---- the two ways out

module _ (P C F : List ℕ) (lost : ℕ) (p q w : List ℕ) (number : ℕ) where
  pub refused : {why : Refusal} → as_number why ≡ number → number < 9 → KeepDone (keep_of number F lost p q) P C F p q w (Err (Refused why)) p q w
  unfolding keep_of all_from
  refused {why} e h =
      let a : keep_of number F lost p q ≡ Err (Refused why) = handed_up (λ z. Err (Refused z)) _ why e in
      let d = above_none why in
      rw a
      (record {
        answer = refl;
        points = sym (as_lent (as_number why) _ p d);
        cells = sym (as_lent (as_number why) _ q d);
        work = sym (as_lent_below 9 (9 ∷ 10 ∷ []) (as_number why) _ w d (omega arith) refl);
      })

  zero_after : work_after (kept_of F lost p q) P C w ≡ replicate (need_of P C) 0 ++ drop (need_of P C) w
  unfolding kept_of among
  zero_after = go (ltb (length p / 3) (points_kept F)) (ltb (length q / 4) (cells_kept F)) (eqb (cells_kept F) 0)
    where
      go : (s t u : Bool)
          → work_after
          (cond s (Err (Short (points_kept F) (cells_kept F)))
          (cond t (Err (Short (points_kept F) (cells_kept F)))
          (cond u (Err (Refused NothingKept)) (Ok (record { points = points_kept F; cells = cells_kept F; dropped = lost }))))) P C w
          ≡ replicate (need_of P C) 0 ++ drop (need_of P C) w
      go true t u = refl
      go false true u = refl
      go false false true = refl
      go false false false = refl

  pub kept : {r : Result Kept KeepError} {p' q' w' : List ℕ} → number ≡ 0 → KeptAs P F lost p q r p' q' → w' ≡ replicate (need_of P C) 0 ++ drop (need_of P C) w
      → KeepDone (keep_of number F lost p q) P C F p q w r p' q' w'
  unfolding keep_of
  kept z k e =
      let a : keep_of number F lost p q ≡ kept_of F lost p q = unless_none number _ _ z in
      rw a (record { answer = k.answer; points = k.points; cells = k.cells; work = e ∙ sym zero_after })

  -- an answer is that of the mesh kept
  pub answer_kept : {r : Result Kept KeepError} {p' q' w' : List ℕ} {points cells dropped : ℕ} → KeepDone (keep_of number F lost p q) P C F p q w r p' q' w'
      → r ≡ Ok (record { points = points; cells = cells; dropped = dropped }) → KeptAs P F lost p q r p' q'
  unfolding keep_of
  answer_kept {r} {p'} {q'} d e = go (eq_or number 0)
    where
      go : (number ≡ 0) ⊎ (number ≢ 0) → KeptAs P F lost p q r p' q'
      go (inl z) =
          let a : keep_of number F lost p q ≡ kept_of F lost p q = unless_none number _ _ z in
          record {
            answer = d.answer ∙ a;
            points = d.points ∙ ap (λ (k : Result Kept KeepError). points_after k P F p) a;
            cells = d.cells ∙ ap (λ (k : Result Kept KeepError). cells_after k F q) a;
          }
      go (inr n) =
          absurd (above_none (as_refusal number) (sym (ap number_of (unless_some number _ (kept_of F lost p q) n)) ∙ ap number_of (sym d.answer ∙ e)))

pub crust_low : (c : Float) (p : ℕ) (C X : List ℕ) (room : ℕ) → first (crust_rows c p C X room) < 9
unfolding crust_rows crossed_rows size_rows count_rows whole_rows work_rows each_rows answer_rows name_rows under
crust_low c p C X room = first_under 9 (crust_rows c p C X room) (omega arith) refl

pub cover_low : (c : Float) (p : ℕ) (C X Q : List ℕ) (room b : ℕ) → first (cover_rows c p C X Q room b) < 9
unfolding cover_rows size_rows count_rows whole_rows work_rows each_rows answer_rows name_rows under
cover_low c p C X Q room b = first_under 9 (cover_rows c p C X Q room b) (omega arith) refl

pub cover_named : (c : Float) (p : ℕ) (C X Q : List ℕ) (room b : ℕ) → named (cover_rows c p C X Q room b) ≡ true
unfolding named as_refusal cover_rows size_rows count_rows whole_rows work_rows each_rows answer_rows name_rows
cover_named c p C X Q room b = refl
