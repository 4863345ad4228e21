-- The outcomes of `keep_marked`. Assumes nothing.
use mathlib.Core.Path.{◌≡◌, refl, sym, ap, subst₂, ◌∙◌}
use mathlib.Core.Logic.{◌⊎◌, inl, inr, ◌≢◌}
use mathlib.Core.Bool.{Bool, true, false, cond}
use mathlib.Core.List.{List, [], ◌++◌, map, map-append}
use Prim.Native.Nat.{ℕ, suc, ◌+◌, ◌-◌, ◌*◌, ◌/◌, ◌≤◌, ◌<◌}
use native.Mathlib.Omega.{arith}
use borrow.Author.Tests.{lt-ltb, le-ltb, eq-eqb, ne_eqb}
use lib.Dec.{eqb, ltb}
use lib.Ieee.{Float}
use lib.ListN.{length, get_or, take, drop}
use lib.Seq.{length-take-le, get_or-take, get_or-drop}
use Rattle.std.specs.Prelude.{Result, Ok, Err}
use Rattle.lists.specs.Appearance.{place}
use Rattle.lists.proofs.Cases.{eq_or}
use Rattle.lists.proofs.Lent.{as_lent, as_new}
use Rattle.lists.proofs.Running.{run_same, run_map}
use Rattle.lists.proofs.Passing.{those_same}
use Rattle.refusals.specs.Rows.{first}
use Rattle.refusals.specs.Causes.{room_rows}
use Rattle.refusals.specs.declared.Refusal.TheVariants.{NothingKept}
use Rattle.mesh.specs.Mesh.{cells_of, cell_of, Each, in_order}
use Rattle.mesh.specs.declared.Cell.{Cell}
use Rattle.mesh.proofs.Named.{cell_points, each_then}
use Rattle.volume.specs.Volume.{verdict_at}
use Rattle.volume.specs.declared.Verdict.{Verdict}
use Rattle.volume.specs.declared.Verdict.TheVariants as verdict
use Rattle.marked.specs.Weighed.{shaped, shape_at, drops_at, final_cells, dropped_count}
use Rattle.marked.specs.Used.{first_uses, used_of, renumbered, points_at}
use Rattle.marked.specs.Kept.{points_kept, cells_kept, kept_rows, number_of, kept_of}
use Rattle.marked.specs.Parts.{marked_in, code_of, code_at, In, Tallied, ordered, shape_of, placed_cell, placed_cells, CellsAsked, PointsStored, KeptAs, KeptMarked}
use Rattle.marked.specs.declared.Counts.{Counts}
use Rattle.marked.specs.declared.Kept.{Kept}
use Rattle.marked.specs.declared.KeepError.{KeepError}
use Rattle.marked.specs.declared.KeepError.TheVariants.{Refused, Short}
use Rattle.marked.proofs.Using.{distinct_uses, distinct_none, renumbered_length}
use Rattle.marked.proofs.Placing.{order_named}

-- what stands in a cell's entry says how its verdict leaves it
code_shape : (v : Verdict) (k : Cell) → shape_of (code_of v) k ≡ shaped v k
unfolding code_of ordered shape_of shaped
code_shape (verdict.Kept x) k = refl
code_shape (verdict.Exchanged x) k = refl
code_shape (verdict.Dropped x) k = refl

entry_shape : (b : Bool) (least : Float) (P C : List ℕ) (i : ℕ) → shape_of (code_at b least P C i) (cell_of C i) ≡ shape_at b least P C i
unfolding code_at shape_at
entry_shape true least P C i = code_shape (verdict_at P C i least) (cell_of C i)
entry_shape false least P C i = unfold shape_of in refl

-- two ways of naming the points of a cell that agree where it stays
shape_same : (f g : ℕ → ℕ) (code : ℕ) (k : Cell) → (code ≢ 0 → Each (λ v. f v ≡ g v) k) → map f (shape_of code k) ≡ map g (shape_of code k)
unfolding shape_of in_order
shape_same f g code k h = go (eq_or code 0)
  where
    four : (m : Cell) → Each (λ v. f v ≡ g v) m → map f (in_order m) ≡ map g (in_order m)
    four m e = rw (e.a_is, e.b_is, e.c_is, e.d_is) refl

    go : (code ≡ 0) ⊎ (code ≢ 0) → map f (shape_of code k) ≡ map g (shape_of code k)
    go (inl z) = rw (eq-eqb code 0 z) refl
    go (inr d) = rw (ne_eqb code 0 d) (four (ordered code k) (order_named code refl (h d)))

module _ (P C M w : List ℕ) (n : ℕ) (least : Float) (r : Counts) (t : Tallied P C M w n least r) where
  s : List ℕ
  s = used_of (final_cells (marked_in M) least P C (cells_of C))

  entry_code : (i : ℕ) → i < cells_of C → get_or w (n + i) 0 ≡ code_at (marked_in M i) least P C i
  entry_code i h = sym (get_or-drop n w i 0) ∙ t.codes i h

  -- the numbers of the points that a cell which stays names
  numbers_are : (i : ℕ) → i < cells_of C → get_or w (n + i) 0 ≢ 0 → Each (λ v. get_or w v 0 ≡ suc (place v s)) (cell_of C i)
  unfolding s
  numbers_are i h d =
      let p = cell_points C n i t.sized.cells h refl in
      let m = t.named i h (λ z. d (entry_code i h ∙ z)) in
      let given : (v : ℕ) → v < n → In s v → get_or w v 0 ≡ suc (place v s) = λ v b q. sym (get_or-take n w v 0 b) ∙ t.table.given v q in
      record {
        a_is = given _ p.a_is m.a_is;
        b_is = given _ p.b_is m.b_is;
        c_is = given _ p.c_is m.c_is;
        d_is = given _ p.d_is m.d_is;
      }

  pub cells_are : placed_cells C w n ≡ renumbered (final_cells (marked_in M) least P C (cells_of C))
  unfolding placed_cells placed_cell renumbered final_cells s
  cells_are =
      run_same (cells_of C) (λ i. map (λ v. get_or w v 0 - 1) (shape_of (get_or w (n + i) 0) (cell_of C i))) (λ i. map (λ v. place v s) (shape_at (marked_in M i) least P C i)) 0
      (λ i a b. let h : i < cells_of C = omega arith in
      shape_same (λ v. get_or w v 0 - 1) (λ v. place v s) (get_or w (n + i) 0) (cell_of C i) (λ d. each_then (λ v e. omega arith) (numbers_are i h d))
      ∙ ap (λ (k : ℕ). map (λ v. place v s) (shape_of k (cell_of C i))) (entry_code i h)
      ∙ ap (map (λ v. place v s)) (entry_shape (marked_in M i) least P C i))
      ∙ sym (run_map (map (λ v. place v s)) refl (λ a b. map-append (λ v. place v s) a b) (cells_of C) (λ i. shape_at (marked_in M i) least P C i) 0)

  pub kept_is : r.cells ≡ length (final_cells (marked_in M) least P C (cells_of C)) / 4
  kept_is = omega (arith, t.cells)

  pub cells_asked : (q : List ℕ) → r.cells ≤ length q / 4 → CellsAsked C (take (4 * r.cells) q) w n
  cells_asked q h = record {
    sized = t.sized;
    named = λ i b d. each_then (λ v e. omega arith) (numbers_are i b d);
    fits = omega (arith, length-take-le (4 * r.cells) q (omega arith), t.cells, ap length cells_are, renumbered_length (final_cells (marked_in M) least P C (cells_of C)));
  }

  pub points_are : (p p' : List ℕ) → r.points ≤ length p / 3 → PointsStored P (take (3 * r.points) p) p' (take n w)
      → p' ≡ points_at P (used_of (final_cells (marked_in M) least P C (cells_of C)))
  unfolding used_of
  points_are p p' h k =
      k.all (first_uses [] (final_cells (marked_in M) least P C (cells_of C))) t.table (distinct_uses (final_cells (marked_in M) least P C (cells_of C)) [] distinct_none)
      (length-take-le (3 * r.points) p (omega arith) ∙ ap (λ (m : ℕ). 3 * m) t.points)

-- ---- the four ways out

module _ (P F : List ℕ) (lost : ℕ) (p q : List ℕ) {used kept : ℕ} (eu : used ≡ length (used_of F)) (ek : kept ≡ length F / 4) where
  pub short_points : length p / 3 < used → KeptAs P F lost p q (Err (Short used kept)) p q
  unfolding kept_of
  short_points h =
      let a : kept_of F lost p q ≡ Err (Short used kept) = rw (← eu, ← ek, lt-ltb (length p / 3) used h) refl in
      record { answer = sym a; points = rw a (sym (as_lent 9 _ p (λ e. omega arith))); cells = rw a (sym (as_lent 9 _ q (λ e. omega arith))) }

  module _ (g : used ≤ length p / 3) where
    pub short_cells : length q / 4 < kept → KeptAs P F lost p q (Err (Short used kept)) p q
    unfolding kept_of
    short_cells h =
        let a : kept_of F lost p q ≡ Err (Short used kept) = rw (← eu, ← ek, le-ltb (length p / 3) used g, lt-ltb (length q / 4) kept h) refl in
        record { answer = sym a; points = rw a (sym (as_lent 9 _ p (λ e. omega arith))); cells = rw a (sym (as_lent 9 _ q (λ e. omega arith))) }

    module _ (h : kept ≤ length q / 4) where
      pub nothing : kept ≡ 0 → KeptAs P F lost p q (Err (Refused NothingKept)) p q
      unfolding kept_of
      nothing z =
          let a : kept_of F lost p q ≡ Err (Refused NothingKept) = rw (← eu, ← ek, le-ltb (length p / 3) used g, le-ltb (length q / 4) kept h, eq-eqb kept 0 z) refl in
          record { answer = sym a; points = rw a (sym (as_lent 10 _ p (λ e. omega arith))); cells = rw a (sym (as_lent 10 _ q (λ e. omega arith))) }

      pub all_kept : {dropped : ℕ} {p' q' : List ℕ} → dropped ≡ lost → kept ≢ 0
          → p' ≡ points_at P (used_of F) → q' ≡ renumbered F
          → KeptAs P F lost p q (Ok (record { points = used; cells = kept; dropped = dropped })) (p' ++ drop (3 * used) p) (q' ++ drop (4 * kept) q)
      unfolding kept_of
      all_kept {dropped} ed d ep eq =
          let a : kept_of F lost p q ≡ Ok (record { points = used; cells = kept; dropped = dropped }) =
          rw (← eu, ← ek, ← ed, le-ltb (length p / 3) used g, le-ltb (length q / 4) kept h, ne_eqb kept 0 d) refl in
          record {
            answer = sym a;
            points = rw (a, ep, eu) (sym (as_new [] _ p));
            cells = rw (a, eq, ek) (sym (as_new [] _ q));
          }

-- the answer by its three tests
abbrev by_tests : List ℕ → ℕ → Bool → Bool → Bool → Result Kept KeepError
by_tests F lost s t u =
    cond s (Err (Short (points_kept F) (cells_kept F)))
    (cond t (Err (Short (points_kept F) (cells_kept F)))
    (cond u (Err (Refused NothingKept)) (Ok (record { points = points_kept F; cells = cells_kept F; dropped = lost }))))

-- the number of the answer is that of its rows
pub kept_number : (F : List ℕ) (lost : ℕ) (p q : List ℕ) → number_of (kept_of F lost p q) ≡ first (kept_rows F p q)
unfolding kept_of first kept_rows room_rows
kept_number F lost p q = go (ltb (length p / 3) (points_kept F)) (ltb (length q / 4) (cells_kept F)) (eqb (cells_kept F) 0)
  where
    go : (s t u : Bool) → number_of (by_tests F lost s t u) ≡ cond s 9 (cond t 9 (cond u 10 0))
    go true t u = refl
    go false true u = refl
    go false false true = refl
    go false false false = refl

-- where it is an answer, with what it carries
pub done_is : (F : List ℕ) (lost : ℕ) (p q : List ℕ) → number_of (kept_of F lost p q) ≡ 0
    → kept_of F lost p q ≡ Ok (record { points = points_kept F; cells = cells_kept F; dropped = lost })
unfolding kept_of
done_is F lost p q = go (ltb (length p / 3) (points_kept F)) (ltb (length q / 4) (cells_kept F)) (eqb (cells_kept F) 0)
  where
    go : (s t u : Bool) → number_of (by_tests F lost s t u) ≡ 0
        → by_tests F lost s t u ≡ Ok (record { points = points_kept F; cells = cells_kept F; dropped = lost })
    go true t u z = absurd (omega arith)
    go false true u z = absurd (omega arith)
    go false false true z = absurd (omega arith)
    go false false false z = refl

-- ---- marks that agree keep the same

pub kept_same : (P C : List ℕ) (mark other : ℕ → Bool) (least : Float) {p q p' q' : List ℕ} {r : Result Kept KeepError} → ((i : ℕ) → i < cells_of C → mark i ≡ other i)
    → KeptMarked P C mark least p q r p' q' → KeptMarked P C other least p q r p' q'
unfolding final_cells dropped_count
kept_same P C mark other least {p} {q} {p'} {q'} {r} h =
    subst₂ (λ (F : List ℕ) (lost : ℕ). KeptAs P F lost p q r p' q')
    (run_same (cells_of C) (λ i. shape_at (mark i) least P C i) (λ i. shape_at (other i) least P C i) 0 (λ i a b. ap (λ (t : Bool). shape_at t least P C i) (h i (omega arith))))
    (ap length (those_same (λ i. drops_at (mark i) least P C i) (λ i. drops_at (other i) least P C i) (cells_of C) (λ i a. ap (λ (t : Bool). drops_at t least P C i) (h i a))))
