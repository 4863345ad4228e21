-- What the step means. Assumes nothing.
use mathlib.Core.Path.{◌≡◌, refl, sym, ap, ◌∙◌, subst}
use mathlib.Core.Logic.{◌⊎◌, inl, inr, ◌≢◌, ◌↔◌}
use mathlib.Core.Bool.{Bool, true, false, cond}
use mathlib.Core.List.{List, [], ◌∷◌}
use Prim.Native.Nat.{ℕ, zero, suc, ◌+◌, ◌^◌, ◌≤◌, ◌<◌}
use native.Mathlib.Omega.{arith}
use borrow.Author.Tests.{lt-ltb, ne_eqb, not-false}
use lib.Dec.{eqb}
use lib.ListN.{length, get_or}
use Rattle.std.specs.Prelude.{Result, Ok}
use Rattle.lists.specs.Tests.{bit}
use Rattle.sorting.specs.Entries.{many}
use Rattle.sorting.specs.Numbers.{hit, cnt}
use Rattle.lists.specs.Runs.{sums}
use Rattle.lists.specs.Tables.{Determined, all_below}
use Rattle.lists.proofs.Cases.{eq_or}
use Rattle.lists.proofs.Lent.{determined, below_at}
use Rattle.refusals.specs.Rows.{first, proper, rising, caused, lower, cause_at, InTurn}
use Rattle.refusals.proofs.Rows.{in_turn, exactly, none_given, clear, unless_none, unless_some, front_clear, goes_on}
use Rattle.refusals.specs.Refusals.{as_refusal, named}
use Rattle.refusals.proofs.Refusals.{named_alone}
use Rattle.mesh.specs.Mesh.{cells_of}
use Rattle.refusals.specs.Causes.{each_rows, work_rows}
use Rattle.mesh.specs.Judged.{count_rows, whole_rows, size_rows, name_rows}
use Rattle.tiling.specs.Tables.{six_at}
use Rattle.coverage.specs.Step.{kept_at, gained, plus, grown, values, fits, mark_rows, coordinate_rows, total_rows, table_rows, coverage_rows, number_of, totals_of, refused, CoverageDone}
use Rattle.coverage.specs.Many.{Sensible, Specimen, gained_by, Calls, none, then, sum_of, nothing, Reordered, same, swapped, after, twice}
use Rattle.coverage.specs.declared.Totals.{Totals}
use Rattle.coverage.specs.declared.Uncovered.{Uncovered}
use Rattle.coverage.proofs.WaysOut.{tables_proper, tables_taken, answered, taken}

-- totals are their five numbers
five : {a b c d e a' b' c' d' e' : ℕ} → a ≡ a' → b ≡ b' → c ≡ c' → d ≡ d' → e ≡ e'
    → ◌≡◌ {A = Totals} (record { cells = a; kept = b; dropped = c; sixfold_kept = d; sixfold_all = e }) (record { cells = a'; kept = b'; dropped = c'; sixfold_kept = d'; sixfold_all = e' })
five p q r s t = rw (p, q, r, s, t) refl

-- ---- one call

module _ (t : Totals) (T C M : List ℕ) where
  pub coverage_one : Determined (CoverageDone t T C M)
  coverage_one = determined (λ r d. d.answer)

  rows_proper : proper (coverage_rows t T C M) ≡ true
  unfolding proper table_rows total_rows size_rows count_rows whole_rows work_rows each_rows mark_rows name_rows coordinate_rows
  rows_proper = refl

  rows_named : named (coverage_rows t T C M) ≡ true
  unfolding named as_refusal table_rows total_rows size_rows count_rows whole_rows work_rows each_rows mark_rows name_rows coordinate_rows
  rows_named = refl

  module _ {r : Result Totals Uncovered} (d : CoverageDone t T C M r) where
    pub number_first : number_of r ≡ first (coverage_rows t T C M)
    number_first = ap number_of d.answer ∙ named_alone number_of (refused t) (Ok (grown t T C M)) (coverage_rows t T C M) rows_named (λ k. refl) refl

    -- a number is given exactly when some row of this number has its cause and no row before it has one
    pub refused_in_turn : (k : ℕ) → 0 < k → (number_of r ≡ k) ↔ InTurn k (coverage_rows t T C M)
    refused_in_turn = in_turn (coverage_rows t T C M) number_first

    -- and the lowest number that has a cause is given
    pub refused_exactly : (k : ℕ) → 0 < k → (number_of r ≡ k) ↔ ((caused k (coverage_rows t T C M) ≡ true) × (lower k (coverage_rows t T C M) ≡ false))
    unfolding rising table_rows total_rows size_rows count_rows whole_rows work_rows each_rows mark_rows name_rows coordinate_rows
    refused_exactly = exactly (coverage_rows t T C M) refl number_first

    pub answered_exactly : (number_of r ≡ 0) ↔ ((i : ℕ) → cause_at i (coverage_rows t T C M) ≡ false)
    answered_exactly = none_given (coverage_rows t T C M) rows_proper number_first

    -- the totals: on an answer those handed in and what the grid adds, on any refusal as they were
    pub totals_grown : number_of r ≡ 0 → totals_of r ≡ grown t T C M
    totals_grown z = ap totals_of (d.answer ∙ unless_none (first (coverage_rows t T C M)) (refused t) (Ok (grown t T C M)) (sym number_first ∙ z))

    pub totals_stay : number_of r ≢ 0 → totals_of r ≡ t
    totals_stay n = ap totals_of (d.answer ∙ unless_some (first (coverage_rows t T C M)) (refused t) (Ok (grown t T C M)) (λ z. n (number_first ∙ z)))

-- ---- parts are at most the whole

pub part_le : (f g : ℕ → ℕ) → ((i : ℕ) → f i ≤ g i) → (n i : ℕ) → sums n f i ≤ sums n g i
unfolding sums
part_le f g h zero i = omega arith
part_le f g h (suc n) i = omega (arith, h i, part_le f g h n (suc i))

pub kept_le : (T C M : List ℕ) (i : ℕ) → kept_at T C M i ≤ six_at T C i
kept_le T C M i = go (eqb (get_or M i 0) 1)
  where
    go : (b : Bool) → cond b (six_at T C i) 0 ≤ six_at T C i
    go true = omega arith
    go false = omega arith

-- a mark is of one kind
one_kind : (m : ℕ) → hit 1 m + hit 2 m ≤ 1
one_kind m = go (eq_or 1 m)
  where
    at_most_lem : (b : Bool) → 0 + bit b ≤ 1
    at_most_lem true = omega arith
    at_most_lem false = omega arith

    go : (1 ≡ m) ⊎ (1 ≢ m) → bit (eqb 1 m) + bit (eqb 2 m) ≤ 1
    go (inl e) = subst (λ (k : ℕ). bit (eqb 1 k) + bit (eqb 2 k) ≤ 1) e (omega arith)
    go (inr n) = rw (ne_eqb 1 m n) (at_most_lem (eqb 2 m))

pub marks_le : (M : List ℕ) → cnt 1 M + cnt 2 M ≤ length M
unfolding many
marks_le [] = omega arith
marks_le (m ∷ M) = omega (arith, one_kind m, marks_le M)

-- where it was so before
pub stays_sensible : {t : Totals} {T C M : List ℕ} {r : Result Totals Uncovered} → CoverageDone t T C M r → Sensible t → Sensible (totals_of r)
unfolding plus gained
stays_sensible {t} {T} {C} {M} {r} d s = go (eq_or (number_of r) 0)
  where
    go : (number_of r ≡ 0) ⊎ (number_of r ≢ 0) → Sensible (totals_of r)
    go (inl z) =
        let f = front_clear (table_rows T C M) (total_rows (grown t T C M)) (sym (number_first t T C M d) ∙ z) in
        rw (totals_grown t T C M d z)
        record {
          cells_sense = omega (arith, s.cells_sense, marks_le M, (tables_taken T C M f).marks);
          volumes_sense = omega (arith, s.volumes_sense, part_le (kept_at T C M) (six_at T C) (kept_le T C M) (cells_of C) 0);
        }
    go (inr n) = rw (totals_stay t T C M d n) s

-- ---- any number of grids, in any order

plus_swap : (t u v : Totals) → plus (plus t u) v ≡ plus (plus t v) u
unfolding plus
plus_swap t u v = five (omega arith) (omega arith) (omega arith) (omega arith) (omega arith)

plus_assoc : (t u v : Totals) → plus (plus t u) v ≡ plus t (plus u v)
unfolding plus
plus_assoc t u v = five (omega arith) (omega arith) (omega arith) (omega arith) (omega arith)

plus_nothing : (t : Totals) → t ≡ plus t nothing
unfolding plus
plus_nothing t = five (omega arith) (omega arith) (omega arith) (omega arith) (omega arith)

-- totals that fit still fit with less added
fits_less : (t u : Totals) → fits (plus t u) ≡ true → fits t ≡ true
unfolding plus fits all_below
fits_less t u e =
    rw (
      lt-ltb t.cells (2 ^ 64) (omega (arith, at 0 (omega arith))),
      lt-ltb t.kept (2 ^ 64) (omega (arith, at 1 (omega arith))),
      lt-ltb t.dropped (2 ^ 64) (omega (arith, at 2 (omega arith))),
      lt-ltb t.sixfold_kept (2 ^ 64) (omega (arith, at 3 (omega arith))),
      lt-ltb t.sixfold_all (2 ^ 64) (omega (arith, at 4 (omega arith))),
    )
    refl
  where
    at : (i : ℕ) → i < 5 → get_or (values (plus t u)) i 0 < 2 ^ 64
    at = below_at (2 ^ 64) (values (plus t u)) e

-- a call that is answered: its tables are not refused and the new totals fit
pub record Accepted (t : Totals) (g : Specimen) (u : Totals) : Type 0 where
  pub tables : first (table_rows g.triples g.cells g.marks) ≡ 0
  pub fit : fits (grown t g.triples g.cells g.marks) ≡ true
  pub totals : u ≡ grown t g.triples g.cells g.marks

fitting : (t : Totals) → first (total_rows t) ≡ 0 → fits t ≡ true
unfolding total_rows proper
fitting t e = not-false (fits t) (clear (total_rows t) refl e 0)

module _ (t : Totals) (g : Specimen) where
  abbrev T : List ℕ
  T = g.triples

  abbrev C : List ℕ
  C = g.cells

  abbrev M : List ℕ
  M = g.marks

  accepted : {u : Totals} → CoverageDone t g.triples g.cells g.marks (Ok u) → Accepted t g u
  accepted {u} d =
      let z : first (coverage_rows t T C M) ≡ 0 = sym (number_first t T C M d) in
      let a = front_clear (table_rows T C M) (total_rows (grown t T C M)) z in
      record {
        tables = a;
        fit = fitting (grown t T C M) (sym (goes_on (table_rows T C M) (total_rows (grown t T C M)) (tables_proper T C M) refl a) ∙ z);
        totals = totals_grown t T C M d refl;
      }

  pub accepts : {u : Totals} → Accepted t g u → CoverageDone t g.triples g.cells g.marks (Ok u)
  accepts {u} a =
      subst (λ (v : Totals). CoverageDone t T C M (Ok v)) (sym a.totals) (taken t T C M a.tables (answered t (grown t T C M) a.fit))

-- the totals are those handed in and the sum over the grids
pub calls_sum : {t v : Totals} {gs : List Specimen} → Calls t gs v → v ≡ plus t (sum_of gs)
unfolding sum_of
calls_sum {t} none = plus_nothing t
calls_sum {t} (then {g = g} {gs = gs} d r) =
    calls_sum r ∙ ap (λ (u : Totals). plus u (sum_of gs)) (accepted t g d).totals ∙ plus_assoc t (gained g.triples g.cells g.marks) (sum_of gs)

-- and where all calls are answered in one order, they are in every order, with the same totals
pub calls_reordered : {t v : Totals} {gs hs : List Specimen} → Reordered gs hs → Calls t gs v → Calls t hs v
calls_reordered same c = c
calls_reordered (after p) (then d r) = then d (calls_reordered p r)
calls_reordered (twice p q) c = calls_reordered q (calls_reordered p c)
calls_reordered {t} (swapped {g = g} {h = h}) (then {u = u} d (then {u = w} e r)) =
    let a = accepted t g d in
    let b = accepted u h e in
    let k : w ≡ plus (plus t (gained_by h)) (gained_by g) = b.totals ∙ ap (λ (x : Totals). plus x (gained_by h)) a.totals ∙ plus_swap t (gained_by g) (gained_by h) in
    let f : fits (plus (plus t (gained_by h)) (gained_by g)) ≡ true = ap fits (sym k ∙ b.totals) ∙ b.fit in
    then (accepts t h (record { tables = b.tables; fit = fits_less (plus t (gained_by h)) (gained_by g) f; totals = refl }))
    (then (accepts (plus t (gained_by h)) g (record { tables = a.tables; fit = f; totals = k })) r)
