-- What `marks` promises, from its contract: each refusal exactly when, the lowest first; one outcome only; and where keep_cover answers, as many ones
-- as it keeps cells and as many twos as it drops. Assumes nothing.
use mathlib.Core.Path.{◌≡◌, refl, sym, ap, ◌∙◌}
use mathlib.Core.Logic.{◌↔◌, ◌≢◌}
use mathlib.Core.Bool.{Bool, true, false, cond}
use mathlib.Core.List.{List, [], ◌∷◌}
use Prim.Native.Nat.{ℕ, zero, suc, ◌*◌, ◌/◌, ◌<◌}
use native.Mathlib.Omega.{arith}
use borrow.Author.Tests.{eqb-true}
use lib.Dec.{eqb, ltb}
use lib.Ieee.{Float}
use lib.ListN.{length, get_or, take}
use Rattle.std.specs.Prelude.{Result, Ok, Err}
use Rattle.lists.specs.Tables.{Determined}
use Rattle.lists.proofs.Lent.{determined, as_new}
use Rattle.refusals.specs.Rows.{first, unless, InTurn, proper, rising, caused, lower}
use Rattle.refusals.specs.Causes.{work_rows, each_rows, answer_rows, room_rows}
use Rattle.refusals.specs.Refusals.{as_number, as_refusal, named, refused}
use Rattle.refusals.specs.declared.Refusal.TheVariants.{NothingKept}
use Rattle.refusals.specs.declared.CountError.{CountError}
use Rattle.refusals.specs.declared.CountError.TheVariants.{Short}
use Rattle.refusals.proofs.Rows.{in_turn, exactly}
use Rattle.refusals.proofs.Refusals.{above_none, first_named, named_rows}
use Rattle.mesh.specs.Mesh.{cells_of}
use Rattle.mesh.specs.Judged.{count_rows, whole_rows, size_rows, name_rows}
use Rattle.sorting.specs.Numbers.{cnt}
use Rattle.volume.specs.Volume.{least_of}
use Rattle.marked.specs.Kept.{cells_kept, points_kept, kept_of}
use Rattle.marked.specs.Kept as marked
use Rattle.marked.proofs.WaysOut.{done_is}
use Rattle.marked.specs.declared.KeepError.TheVariants as kept
use Rattle.keep.specs.Marked.{cover_mark}
use Rattle.keep.specs.Step.{cover_cells, cover_dropped, cover_rows, keep_of, CoverDone}
use Rattle.keep.proofs.WaysOut.{answer_kept, cover_low, cover_named}
use Rattle.marks.specs.Marks.{marks_of}
use Rattle.marks.specs.Step.{input_rows, marks_rows, number_of, values_of, stored_of, told_of, marks_after, MarksDone}
use Rattle.marks.specs.declared.Told.{Told}
use Rattle.marks.proofs.Counting.{ones, twos}
use Rattle.marks.proofs.WaysOut.{front_is}

-- ---- each refusal exactly when

module _ (c : Float) (P C X Q o w : List ℕ) where
  stored_number : number_of (stored_of c P C X Q o) ≡ first (room_rows (length o) (cells_of C))
  unfolding stored_of room_rows first
  stored_number = go (ltb (length o) (cells_of C))
    where
      go : (s : Bool) → number_of (cond s (Err (Short (cells_of C))) (Ok (record { kept = cnt 1 (marks_of c P C X Q); dropped = cnt 2 (marks_of c P C X Q) }))) ≡ cond s 9 0
      go true = refl
      go false = refl

  number_is : number_of (told_of c P C X Q o w) ≡ first (marks_rows c P C X Q o w)
  unfolding told_of proper named as_refusal cover_rows size_rows count_rows whole_rows work_rows each_rows answer_rows name_rows
  number_is = named_rows number_of refused _ (input_rows c P C X Q w) (room_rows (length o) (cells_of C)) refl refl (λ k. refl) stored_number

  pub marks_in_turn : (k : ℕ) → 0 < k → (number_of (told_of c P C X Q o w) ≡ k) ↔ InTurn k (marks_rows c P C X Q o w)
  marks_in_turn = in_turn (marks_rows c P C X Q o w) number_is

  pub marks_exactly : (k : ℕ) → 0 < k
      → (number_of (told_of c P C X Q o w) ≡ k) ↔ ((caused k (marks_rows c P C X Q o w) ≡ true) × (lower k (marks_rows c P C X Q o w) ≡ false))
  unfolding rising cover_rows size_rows count_rows whole_rows work_rows each_rows answer_rows name_rows room_rows
  marks_exactly = exactly (marks_rows c P C X Q o w) refl number_is

  pub marks_one : Determined (λ (a : Result Told CountError × List ℕ × List ℕ). MarksDone c P C X Q o w a.0 a.1 a.2)
  marks_one = determined (λ a d i. (d.answer i, d.marks i, d.work i))

-- ---- as keeping has it

-- an answer is that of cells that are not refused
told_done : (n : ℕ) (s : Bool) (many a b : ℕ) {x y : ℕ}
    → ◌≡◌ {A = Result Told CountError} (Ok (record { kept = x; dropped = y })) (unless n refused (cond s (Err (Short many)) (Ok (record { kept = a; dropped = b }))))
    → (x ≡ a) × (y ≡ b)
unfolding unless
told_done zero true many a b e = absurd (omega (arith, ap number_of e))
told_done zero false many a b {x} {y} e =
    let v : x ∷ y ∷ [] ≡ a ∷ b ∷ [] = ap values_of e in
    (ap (λ (l : List ℕ). get_or l 0 0) v, ap (λ (l : List ℕ). get_or l 1 0) v)
told_done (suc n) s many a b e = absurd (above_none (as_refusal (suc n)) (sym (ap number_of e)))

-- nothing is kept where no refusal before has its number, and no cell stays
kept_none : (n : ℕ) (s t u : Bool) (i j a b d : ℕ) → (n ≢ 0 → as_number (as_refusal n) ≢ 10)
    → Err (kept.Refused NothingKept)
    ≡ unless n marked.refused (cond s (Err (kept.Short i j)) (cond t (Err (kept.Short i j)) (cond u (Err (kept.Refused NothingKept)) (Ok (record { points = a; cells = b; dropped = d })))))
    → u ≡ true
unfolding unless
kept_none zero true t u i j a b d h e = absurd (omega (arith, ap marked.number_of e))
kept_none zero false true u i j a b d h e = absurd (omega (arith, ap marked.number_of e))
kept_none zero false false true i j a b d h e = refl
kept_none zero false false false i j a b d h e = absurd (omega (arith, ap marked.number_of e))
kept_none (suc n) s t u i j a b d h e = absurd (h (λ z. omega arith) (sym (ap marked.number_of e)))

-- the refusals found before have lower ones
cover_other : (c : Float) (p : ℕ) (C X Q : List ℕ) (room b : ℕ)
    → first (cover_rows c p C X Q room b) ≢ 0 → as_number (as_refusal (first (cover_rows c p C X Q room b))) ≢ 10
cover_other c p C X Q room b d e = omega (arith, first_named _ (cover_named c p C X Q room b) d, cover_low c p C X Q room b)

module _ (c : Float) (P C X Q : List ℕ) where
  marked_cells : 4 * cnt 1 (marks_of c P C X Q) ≡ length (cover_cells c P C X Q)
  unfolding marks_of
  marked_cells = ones (cover_mark C X Q (cells_of C)) (least_of c) P C (cells_of C)

  marked_dropped : cnt 2 (marks_of c P C X Q) ≡ cover_dropped c P C X Q
  unfolding marks_of
  marked_dropped = twos (cover_mark C X Q (cells_of C)) (least_of c) P C (cells_of C)

  module _ {o v : List ℕ} {x y : ℕ} {o' v' : List ℕ} (m : MarksDone c P C X Q o v (Ok (record { kept = x; dropped = y })) o' v') where
    counts : (x ≡ cnt 1 (marks_of c P C X Q)) × (y ≡ cnt 2 (marks_of c P C X Q))
    unfolding told_of stored_of
    counts = told_done (first (input_rows c P C X Q v)) (ltb (length o) (cells_of C)) _ _ _ m.answer

    -- the bytes in front are the marks, which the answer counts
    pub marks_stand : take (cells_of C) o' ≡ marks_of c P C X Q
    marks_stand =
        ap (take (cells_of C)) (m.marks ∙ ap (λ (a : Result Told CountError). marks_after a c P C X Q o) (sym m.answer) ∙ as_new [] _ o)
        ∙ front_is c P C X Q o

    module _ {p q w : List ℕ} {p' q' w' : List ℕ} where
      -- an answer of keep_cover: as many ones as cells, and as many twos as are dropped
      pub as_kept : {points cells dropped : ℕ} → CoverDone c P C X Q p q w (Ok (record { points = points; cells = cells; dropped = dropped })) p' q' w'
          → (x ≡ cells) × (y ≡ dropped) × (cnt 1 (take (cells_of C) o') ≡ cells) × (cnt 2 (take (cells_of C) o') ≡ dropped)
      as_kept {points} {cells} {dropped} k =
          let F : List ℕ = cover_cells c P C X Q in
          let lost : ℕ = cover_dropped c P C X Q in
          let a = (answer_kept P C F lost p q w (first (cover_rows c (length P) C X Q (length w) 2)) k refl).answer in
          let values : points ∷ cells ∷ dropped ∷ [] ≡ points_kept F ∷ cells_kept F ∷ lost ∷ [] = ap marked.values_of (a ∙ done_is F lost p q (sym (ap marked.number_of a))) in
          let ex : cnt 1 (marks_of c P C X Q) ≡ cells = omega (arith, ap (λ (l : List ℕ). get_or l 1 0) values, marked_cells) in
          let ey : cnt 2 (marks_of c P C X Q) ≡ dropped = marked_dropped ∙ sym (ap (λ (l : List ℕ). get_or l 2 0) values) in
          (counts.0 ∙ ex, counts.1 ∙ ey, ap (cnt 1) marks_stand ∙ ex, ap (cnt 2) marks_stand ∙ ey)

      -- its 10: no ones
      pub none_kept : CoverDone c P C X Q p q w (Err (kept.Refused NothingKept)) p' q' w' → x ≡ 0
      unfolding keep_of kept_of
      none_kept k =
          let F : List ℕ = cover_cells c P C X Q in
          let u = kept_none (first (cover_rows c (length P) C X Q (length w) 2)) (ltb (length p / 3) (points_kept F)) (ltb (length q / 4) (cells_kept F)) (eqb (cells_kept F) 0) _ _ _ _ _
          (cover_other c (length P) C X Q (length w) 2) k.answer
          in
          omega (arith, counts.0, marked_cells, eqb-true (cells_kept F) 0 u)
