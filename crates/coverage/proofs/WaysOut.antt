-- The outcomes of the step. Assumes nothing.
use mathlib.Core.Path.{◌≡◌, refl, sym, ap, ◌∙◌}
use mathlib.Core.Logic.{◌⊎◌, inl, inr}
use mathlib.Core.Bool.{Bool, true, false}
use mathlib.Core.List.{List}
use Prim.Native.Nat.{ℕ, ◌+◌, ◌*◌, ◌/◌, ◌%◌, ◌^◌, ◌≤◌, ◌<◌}
use native.Mathlib.Omega.{arith}
use borrow.Author.Tests.{lt-ltb, le-ltb, eq-eqb, eqb-true, not-false}
use lib.Dec.{eqb}
use lib.ListN.{length, get_or}
use Rattle.std.specs.Prelude.{Some, None, Result, Ok, Err}
use Rattle.sorting.specs.Numbers.{cnt}
use Rattle.lists.specs.Runs.{sums}
use Rattle.lists.specs.Tables.{all_below, all_at_most}
use Rattle.lists.proofs.Bools.{clash}
use Rattle.lists.proofs.Lent.{below_at}
use Rattle.refusals.specs.Rows.{first, proper, unless, cause_at}
use Rattle.refusals.specs.Refusals.{as_number, as_refusal}
use Rattle.refusals.specs.declared.Refusal.{Refusal}
use Rattle.refusals.specs.declared.Refusal.TheVariants.{Range}
use Rattle.refusals.proofs.Rows.{clear, goes_on, stops}
use Rattle.refusals.proofs.Refusals.{above_none, handed_up}
use Rattle.mesh.specs.Mesh.{most, cells_of}
use Rattle.refusals.specs.Causes.{each_rows, work_rows}
use Rattle.mesh.specs.Judged.{count_rows, whole_rows, size_rows, name_rows}
use Rattle.tiling.specs.Tables.{six_at}
use Rattle.coverage.specs.Step.{kept_at, gained, plus, grown, values, fits, mark_rows, coordinate_rows, total_rows, table_rows, coverage_rows, answer_of, CoverageDone}
use Rattle.coverage.specs.Parts.{TablesTaken, fits64, sums_of, with_counts, counted_of, added_of}
use Rattle.coverage.specs.declared.Totals.{Totals}
use Rattle.coverage.specs.declared.Uncovered.{Uncovered}
use Rattle.coverage.specs.declared.Sums.{Sums}
use Rattle.coverage.proofs.Summing.{no_counts, the_counts, no_sums, the_sums}

-- ---- tables that are not refused

pub names_proper : (n : ℕ) (C : List ℕ) → proper (name_rows n C) ≡ true
unfolding proper name_rows
names_proper n C = refl

pub tables_proper : (T C M : List ℕ) → proper (table_rows T C M) ≡ true
unfolding proper table_rows size_rows count_rows whole_rows work_rows each_rows mark_rows name_rows coordinate_rows
tables_proper T C M = refl

pub tables_taken : (T C M : List ℕ) → first (table_rows T C M) ≡ 0 → TablesTaken T C M
unfolding table_rows size_rows count_rows whole_rows work_rows each_rows mark_rows name_rows coordinate_rows
tables_taken T C M e = record {
  coordinates = record { low = λ k h. omega (arith, below_at 4097 T (not-false (all_below 4097 T) (cause 8)) k h) };
  names = λ k h. omega (arith, below_at (length T / 3) C (not-false (all_below (length T / 3) C) (cause 7)) k h);
  marks = eqb-true (length M) (cells_of C) (not-false (eqb (length M) (cells_of C)) (cause 5));
}
  where
    cause : (i : ℕ) → cause_at i (table_rows T C M) ≡ false
    cause = clear (table_rows T C M) (tables_proper T C M) e

pub tables_clear : (T C M : List ℕ) → length T % 3 ≡ 0 → length C % 4 ≡ 0 → length T / 3 ≤ most → length C / 4 ≤ most → length M ≡ cells_of C
    → all_at_most 2 M ≡ true → all_below (length T / 3) C ≡ true → all_at_most 4096 T ≡ true → first (table_rows T C M) ≡ 0
unfolding first table_rows size_rows count_rows whole_rows work_rows each_rows mark_rows name_rows coordinate_rows
tables_clear T C M a b c d e f g h =
    let z : 0 * (length C / 4) + 0 * (length T / 3) ≤ 0 = omega arith in
    rw (le-ltb most (length T / 3) c, le-ltb most (length C / 4) d, eq-eqb _ _ a, eq-eqb _ _ b, le-ltb _ _ z, eq-eqb _ _ e, f, g, h) refl

-- ---- totals that do not fit, and that do

not_below : (l : List ℕ) (i : ℕ) → i < length l → fits64 (get_or l i 0) ≡ false → all_below (2 ^ 64) l ≡ false
not_below l i h e = go (all_below (2 ^ 64) l) refl
  where
    go : (b : Bool) → all_below (2 ^ 64) l ≡ b → b ≡ false
    go true q = clash (lt-ltb (get_or l i 0) (2 ^ 64) (below_at (2 ^ 64) l q i h)) e
    go false q = refl

-- refused for this, with the totals that were handed in
abbrev handed_back : Totals → Refusal → Result Totals Uncovered
handed_back t why = Err (record { why = why; totals = t })

module _ (t u : Totals) where
  refused_16 : fits u ≡ false → handed_back t Range ≡ answer_of (total_rows u) t u
  unfolding total_rows first unless as_refusal
  refused_16 e = rw e refl

  pub answered : fits u ≡ true → Ok u ≡ answer_of (total_rows u) t u
  unfolding total_rows first unless
  answered e = rw e refl

module _ (t : Totals) (T C M : List ℕ) where
  over : (i : ℕ) → i < 5 → fits64 (get_or (values (grown t T C M)) i 0) ≡ false → handed_back t Range ≡ added_of t T C M
  unfolding fits
  over i h e = refused_16 t (grown t T C M) (not_below (values (grown t T C M)) i h e)

  -- the marks are as many as the cells
  module _ (m : length M ≡ cells_of C) where
    pub over_counts : None ≡ counted_of t M → handed_back t Range ≡ added_of t T C M
    unfolding plus gained
    over_counts e = go (no_counts t M (sym e))
      where
        go : (fits64 (t.cells + length M) ≡ false) ⊎ ((fits64 (t.kept + cnt 1 M) ≡ false) ⊎ (fits64 (t.dropped + cnt 2 M) ≡ false)) → handed_back t Range ≡ added_of t T C M
        go (inl p) = over 0 (omega arith) (rw m at p)
        go (inr (inl p)) = over 1 (omega arith) p
        go (inr (inr p)) = over 2 (omega arith) p

    module _ {u : Totals} (ec : Some u ≡ counted_of t M) where
      counts : (u ≡ with_counts t M) × (fits64 (t.cells + length M) ≡ true) × (fits64 (t.kept + cnt 1 M) ≡ true) × (fits64 (t.dropped + cnt 2 M) ≡ true)
      counts = the_counts t M (sym ec)

      pub over_sums : None ≡ sums_of (u.sixfold_kept + sums (cells_of C) (kept_at T C M) 0) (u.sixfold_all + sums (cells_of C) (six_at T C) 0)
          → handed_back t Range ≡ added_of t T C M
      unfolding plus gained
      over_sums e = go (no_sums _ _ (sym e))
        where
          go : (fits64 (u.sixfold_kept + sums (cells_of C) (kept_at T C M) 0) ≡ false) ⊎ (fits64 (u.sixfold_all + sums (cells_of C) (six_at T C) 0) ≡ false) → handed_back t Range ≡ added_of t T C M
          go (inl p) = over 3 (omega arith) (rw counts.0 at p)
          go (inr p) = over 4 (omega arith) (rw counts.0 at p)

      pub all_fit : {z : Sums} → Some z ≡ sums_of (u.sixfold_kept + sums (cells_of C) (kept_at T C M) 0) (u.sixfold_all + sums (cells_of C) (six_at T C) 0)
          → Ok (record { cells = u.cells; kept = u.kept; dropped = u.dropped; sixfold_kept = z.part; sixfold_all = z.all }) ≡ added_of t T C M
      unfolding plus gained fits all_below
      all_fit e =
          let r = the_sums _ _ (sym e) in
          let k = counts.0 in
          rw (r.0, r.1, k, m) (answered t (grown t T C M) (rw (rw m at counts.1, counts.2, counts.3, rw k at r.2, rw k at r.3) refl))

  -- ---- the step

  pub refused : {why : Refusal} → as_number why ≡ first (table_rows T C M) → CoverageDone t T C M (handed_back t why)
  refused {why} e =
      let s : as_number why ≡ first (coverage_rows t T C M) = stops (table_rows T C M) (total_rows (grown t T C M)) e (above_none why) in
      record { answer = sym (handed_up (handed_back t) _ why s) }

  pub taken : {r : Result Totals Uncovered} → first (table_rows T C M) ≡ 0 → r ≡ added_of t T C M → CoverageDone t T C M r
  taken e f = record {
    answer = f ∙ ap (λ (k : ℕ). unless k (λ n. handed_back t (as_refusal n)) (Ok (grown t T C M))) (sym (goes_on (table_rows T C M) (total_rows (grown t T C M)) (tables_proper T C M) refl e));
  }
