-- add_coverage on a fresh grid, from nothing: whatever the marks, it is answered, and the six-fold volume of all is that of the box for an octree, and 4 a
-- cell for a lattice. The tables are handed on in the length that the grid's answer says. Assumes nothing.
use mathlib.Core.Path.{◌≡◌, refl, ap, ◌∙◌, fun_ext}
use mathlib.Core.Logic.{◌⊎◌, inl, inr, ◌≢◌}
use mathlib.Core.Bool.{true}
use mathlib.Core.List.{List}
use Prim.Native.Nat.{ℕ, zero, suc, ◌+◌, ◌*◌, ◌/◌, ◌%◌, ◌^◌, ◌≤◌, ◌<◌}
use native.Mathlib.Nat.{mul-le-mul, pow-le-pow_right}
use native.Mathlib.Omega.{arith}
use borrow.Author.Tests.{lt-ltb}
use lib.Ieee.{Float}
use lib.ListN.{length, get_or, take}
use lib.Seq.{get_or-take, length-take-le}
use Rattle.std.specs.Prelude.{Result, Ok}
use Rattle.lists.specs.Runs.{sums}
use Rattle.lists.specs.Tables.{all_below, all_at_most}
use Rattle.lists.proofs.Cases.{eq_or}
use Rattle.lists.proofs.Lent.{below_at, all_below_lem}
use Rattle.space.specs.Space.{Axis, ax, ay, az}
use Rattle.space.proofs.Space.{on_all}
use Rattle.sorting.specs.Numbers.{cnt}
use Rattle.plan.specs.Step.{plan_of}
use Rattle.plan.proofs.Ready.{ready, ready_levels}
use Rattle.plan.specs.declared.Bounds.{Bounds}
use Rattle.plan.specs.declared.Plan.{Plan}
use Rattle.plan.specs.declared.Planned.TheVariants as planned
use Rattle.refusals.specs.Rows.{first}
use Rattle.mesh.specs.Mesh.{cells_of}
use Rattle.grid.specs.Step.{GridDone, so_many}
use Rattle.grid.specs.Whole.{three_at, Whole}
use Rattle.grid.specs.declared.Gridded.{Gridded}
use Rattle.grid.specs.declared.GridError.{GridError}
use Rattle.std.specs.Prelude.{Result}
use Rattle.tiling.specs.Tables.{six_at, table_six, side_of, box_of}
use Rattle.tiling.proofs.Sums.{sum_cong_in}
use Rattle.tiling.proofs.Theorems.{whole, octree_covers, lattice_covers}
use Rattle.tiling.proofs.Handed.{few_cells, few_vertices, low_vertices}
use Rattle.coverage.specs.Step.{kept_at, gained, plus, grown, fits, table_rows, number_of, totals_of, CoverageDone}
use Rattle.coverage.specs.Many.{nothing}
use Rattle.coverage.specs.declared.Totals.{Totals}
use Rattle.coverage.specs.declared.Uncovered.{Uncovered}
use Rattle.coverage.proofs.WaysOut.{tables_clear}
use Rattle.coverage.proofs.Theorems.{part_le, kept_le, marks_le, accepts, coverage_one}

module _ {b : Bounds} {c : Float} {levels : ℕ} {s C T P w : List ℕ} {r : Result Gridded GridError} {C' T' P' w' : List ℕ} (g : GridDone b c levels s C T P w r C' T' P' w')
    (p : Plan) (made : plan_of b c levels ≡ planned.Ready p) (n v : ℕ) (done : r ≡ so_many n v) (M : List ℕ) (long : length M ≡ n) (kinds : all_at_most 2 M ≡ true) where
  -- the tables as they are handed on
  abbrev triples : List ℕ
  triples = take (3 * v) T'

  abbrev cells : List ℕ
  cells = take (4 * n) C'

  W : Whole p s n v C' T' P'
  W = whole g p made n v done

  triples_long : length triples ≡ 3 * v
  triples_long = length-take-le (3 * v) T' W.room.1

  cells_long : length cells ≡ 4 * n
  cells_long = length-take-le (4 * n) C' W.room.0

  entry_low : (k : ℕ) → k < length triples → get_or triples k 0 < 4097
  entry_low k h =
      let q : k < 3 * v = omega (arith, triples_long) in
      let e : get_or triples k 0 ≡ get_or T' k 0 = get_or-take (3 * v) T' k 0 q in
      let at : (a : Axis) → three_at T' (k / 3) a ≤ 4096 = low_vertices g p made n v done (k / 3) (omega arith) in
      go e at (k % 3) refl (omega arith)
    where
      go : get_or triples k 0 ≡ get_or T' k 0 → ((a : Axis) → three_at T' (k / 3) a ≤ 4096) → (m : ℕ) → k % 3 ≡ m → m < 3 → get_or triples k 0 < 4097
      go e at zero q h = let i : 3 * (k / 3) + 0 ≡ k = omega arith in omega (arith, e, at ax, ap (λ (j : ℕ). get_or T' j 0) i)
      go e at (suc zero) q h = let i : 3 * (k / 3) + 1 ≡ k = omega arith in omega (arith, e, at ay, ap (λ (j : ℕ). get_or T' j 0) i)
      go e at (suc (suc zero)) q h = let i : 3 * (k / 3) + 2 ≡ k = omega arith in omega (arith, e, at az, ap (λ (j : ℕ). get_or T' j 0) i)
      go e at (suc (suc (suc m))) q h = absurd (omega arith)

  clear : first (table_rows triples cells M) ≡ 0
  clear =
      let vs : length triples / 3 ≡ v = omega (arith, triples_long) in
      let ns : length cells / 4 ≡ n = omega (arith, cells_long) in
      tables_clear triples cells M (omega (arith, triples_long)) (omega (arith, cells_long)) (omega (arith, vs, few_vertices g p made n v done)) (omega (arith, ns, few_cells g p made n v done))
      (omega (arith, ns, long)) kinds (rw vs W.cells_below) (all_below_lem 4097 triples entry_low)

  -- a cell's volume is the same in the parts handed on
  corner_same : (k : ℕ) → k < 4 * n → three_at triples (get_or cells k 0) ≡ three_at T' (get_or C' k 0)
  corner_same k h =
      let q : get_or cells k 0 < v = below_at v cells W.cells_below k (omega (arith, cells_long)) in
      let e : get_or cells k 0 ≡ get_or C' k 0 = get_or-take (4 * n) C' k 0 h in
      low (get_or cells k 0) q ∙ ap (three_at T') e
    where
      low : (j : ℕ) → j < v → three_at triples j ≡ three_at T' j
      low j q =
          fun_ext (on_all (λ a. three_at triples j a ≡ three_at T' j a)
          (get_or-take (3 * v) T' (3 * j + 0) 0 (omega arith)) (get_or-take (3 * v) T' (3 * j + 1) 0 (omega arith)) (get_or-take (3 * v) T' (3 * j + 2) 0 (omega arith)))

  six_same : table_six triples cells (cells_of cells) ≡ table_six T' C' n
  six_same =
      let ns : cells_of cells ≡ n = omega (arith, cells_long) in
      ap (table_six triples cells) ns
      ∙ sum_cong_in n (λ i h. rw (corner_same (4 * i) (omega arith), corner_same (4 * i + 1) (omega arith), corner_same (4 * i + 2) (omega arith), corner_same (4 * i + 3) (omega arith)) refl)

  -- and the sum is at most that of the largest box
  side_low : levels ≢ 0 → (a : Axis) → side_of p a ≤ 4096
  side_low o a =
      let k = ready b c levels p made in
      let q = k.roots (omega (arith, ready_levels b c levels p made)) in
      let e : 2 ^ p.levels ≤ 2 ^ 5 = pow-le-pow_right {n = 2} (omega arith) k.levels_few in
      let f : 2 * 2 ^ p.levels ≤ 64 = omega (arith, e) in
      mul-le-mul (q.few a) f

  six_low : table_six T' C' n ≤ 412316860416
  six_low = go (eq_or levels 0)
    where
      go : (levels ≡ 0) ⊎ (levels ≢ 0) → table_six T' C' n ≤ 412316860416
      go (inl z) = omega (arith, lattice_covers g p made n v done z, few_cells g p made n v done)
      go (inr o) = omega (arith, octree_covers g p made n v done (omega arith), mul-le-mul (mul-le-mul (side_low o ax) (side_low o ay)) (side_low o az))

  fitting : fits (grown nothing triples cells M) ≡ true
  unfolding fits plus gained all_below
  fitting =
      let ns : cells_of cells ≡ n = omega (arith, cells_long) in
      let few = few_cells g p made n v done in
      let all = part_le (kept_at triples cells M) (six_at triples cells) (kept_le triples cells M) (cells_of cells) 0 in
      rw (
        lt-ltb (0 + cells_of cells) (2 ^ 64) (omega (arith, ns, few)),
        lt-ltb (0 + cnt 1 M) (2 ^ 64) (omega (arith, marks_le M, long, few)),
        lt-ltb (0 + cnt 2 M) (2 ^ 64) (omega (arith, marks_le M, long, few)),
        lt-ltb (0 + sums (cells_of cells) (kept_at triples cells M) 0) (2 ^ 64) (omega (arith, all, six_same, six_low)),
        lt-ltb (0 + sums (cells_of cells) (six_at triples cells) 0) (2 ^ 64) (omega (arith, six_same, six_low)),
      )
      refl

  -- it is answered
  answers : CoverageDone nothing (take (3 * v) T') (take (4 * n) C') M (Ok (grown nothing (take (3 * v) T') (take (4 * n) C') M))
  answers = accepts nothing (record { triples = triples; cells = cells; marks = M }) (record { tables = clear; fit = fitting; totals = refl })

  module _ {a : Result Totals Uncovered} (d : CoverageDone nothing (take (3 * v) T') (take (4 * n) C') M a) where
    same : a ≡ Ok (grown nothing (take (3 * v) T') (take (4 * n) C') M)
    same = coverage_one nothing triples cells M _ _ d answers

    pub fresh_answered : (number_of a ≡ 0) × ((totals_of a).cells ≡ n)
    unfolding plus gained
    fresh_answered = (ap number_of same, ap (λ (x : Result Totals Uncovered). (totals_of x).cells) same ∙ omega (arith, cells_long))

    total : (totals_of a).sixfold_all ≡ table_six T' C' n
    unfolding plus gained
    total = ap (λ (x : Result Totals Uncovered). (totals_of x).sixfold_all) same ∙ omega (arith, six_same)

    -- levels 1 to 5
    pub fresh_octree : 1 ≤ levels → (totals_of a).sixfold_all ≡ 6 * box_of p
    fresh_octree h = total ∙ octree_covers g p made n v done h

    -- level 0
    pub fresh_lattice : levels ≡ 0 → (totals_of a).sixfold_all ≡ 4 * n
    fresh_lattice z = total ∙ lattice_covers g p made n v done z
