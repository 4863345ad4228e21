-- The two steps (rules 7.5 to 7.11): what is refused and why, what is answered, and what the lent tables hold after. P is the table of
-- points, C that of cells, X that of crossing answers, Q that of probe answers, p and q the tables for points and cells kept, w the work.
use Rattle.std.specs.Prelude.{◌≡◌, List, [], ◌∷◌, ◌++◌, ℕ, ◌+◌, ◌*◌, ◌/◌, Float, length, Result}
use Rattle.lists.specs.Tables.{zeroed, on}
use Rattle.refusals.specs.Rows.{Row, first, unless}
use Rattle.refusals.specs.Causes.{each_rows, answer_rows}
use Rattle.plan.specs.Step.{cell_size_rows}
use Rattle.mesh.specs.Mesh.{points_of, cells_of}
use Rattle.mesh.specs.Judged.{size_rows, name_rows}
use Rattle.volume.specs.Volume.{least_of}
use Rattle.groups.specs.Judged.{crossed_rows}
use Rattle.marked.specs.Weighed.{final_cells, dropped_count}
use Rattle.marked.specs.Kept.{number_of, refused, kept_rows, kept_of, points_after, cells_after}
use Rattle.marked.specs.declared.Kept.{Kept}
use Rattle.marked.specs.declared.KeepError.{KeepError}
use Rattle.keep.specs.Marked.{crust_mark, cover_mark}

-- entries of work: one a cell, and two a point
abbrev pub need_of : List ℕ → List ℕ → ℕ
need_of P C = cells_of C + 2 * points_of P

-- ---- the refusals in their order: p is the length of the table of points, room that of the work

unfoldable pub crust_rows : Float → ℕ → List ℕ → List ℕ → ℕ → List Row
crust_rows c p C X room = cell_size_rows c ++ crossed_rows p C X room 1 2

-- with a probe table beside that of crossing answers; of the work one entry a cell is asked, and b a point
unfoldable pub cover_rows : Float → ℕ → List ℕ → List ℕ → List ℕ → ℕ → ℕ → List Row
cover_rows c p C X Q room b =
    cell_size_rows c
    ++ (size_rows p (length C) room 1 b
    ++ (each_rows (cells_of C) (length X)
    ++ (each_rows (cells_of C) (length Q)
    ++ (answer_rows X
    ++ (answer_rows Q
    ++ name_rows (p / 3) C)))))

-- ---- the outcome

-- the cells that stay, and how many are dropped
abbrev pub crust_cells : Float → List ℕ → List ℕ → List ℕ → List ℕ
crust_cells c P C X = final_cells (crust_mark X) (least_of c) P C (cells_of C)

abbrev pub crust_dropped : Float → List ℕ → List ℕ → List ℕ → ℕ
crust_dropped c P C X = dropped_count (crust_mark X) (least_of c) P C (cells_of C)

abbrev pub cover_cells : Float → List ℕ → List ℕ → List ℕ → List ℕ → List ℕ
cover_cells c P C X Q = final_cells (cover_mark C X Q (cells_of C)) (least_of c) P C (cells_of C)

abbrev pub cover_dropped : Float → List ℕ → List ℕ → List ℕ → List ℕ → ℕ
cover_dropped c P C X Q = dropped_count (cover_mark C X Q (cells_of C)) (least_of c) P C (cells_of C)

-- the refusals with their causes, in their order: those of what is taken, and then those of the mesh that is kept
abbrev pub keep_crust_rows : Float → List ℕ → List ℕ → List ℕ → List ℕ → List ℕ → List ℕ → List Row
keep_crust_rows c P C X p q w = crust_rows c (length P) C X (length w) ++ kept_rows (crust_cells c P C X) p q

abbrev pub keep_cover_rows : Float → List ℕ → List ℕ → List ℕ → List ℕ → List ℕ → List ℕ → List ℕ → List Row
keep_cover_rows c P C X Q p q w = cover_rows c (length P) C X Q (length w) 2 ++ kept_rows (cover_cells c P C X Q) p q

-- the answer, where the first refusal found before the cells are looked at has this number, or 0
unfoldable pub keep_of : ℕ → List ℕ → ℕ → List ℕ → List ℕ → Result Kept KeepError
keep_of number F dropped p q = unless number refused (kept_of F dropped p q)

abbrev pub crust_of : Float → List ℕ → List ℕ → List ℕ → List ℕ → List ℕ → List ℕ → Result Kept KeepError
crust_of c P C X p q w = keep_of (first (crust_rows c (length P) C X (length w))) (crust_cells c P C X) (crust_dropped c P C X) p q

abbrev pub cover_of : Float → List ℕ → List ℕ → List ℕ → List ℕ → List ℕ → List ℕ → List ℕ → Result Kept KeepError
cover_of c P C X Q p q w = keep_of (first (cover_rows c (length P) C X Q (length w) 2)) (cover_cells c P C X Q) (cover_dropped c P C X Q) p q

-- the work after: its entries zero on an answer, on 9 and on 10, else as lent
abbrev pub work_after : Result Kept KeepError → List ℕ → List ℕ → List ℕ → List ℕ
work_after a P C w = on (0 ∷ 9 ∷ 10 ∷ []) (number_of a) (zeroed (need_of P C) w) w

-- the outcome of either step, whose answer is to be a, and whose cells before compaction are F
pub record KeepDone (a : Result Kept KeepError) (P C F p q w : List ℕ) (r : Result Kept KeepError) (p' q' w' : List ℕ) : Type 0 where
  pub answer : r ≡ a
  pub points : p' ≡ points_after a P F p
  pub cells : q' ≡ cells_after a F q
  pub work : w' ≡ work_after a P C w

abbrev pub CrustDone : Float → (P C X p q w : List ℕ) → Result Kept KeepError → (p' q' w' : List ℕ) → Type 0
CrustDone c P C X p q w r p' q' w' = KeepDone (crust_of c P C X p q w) P C (crust_cells c P C X) p q w r p' q' w'

abbrev pub CoverDone : Float → (P C X Q p q w : List ℕ) → Result Kept KeepError → (p' q' w' : List ℕ) → Type 0
CoverDone c P C X Q p q w r p' q' w' = KeepDone (cover_of c P C X Q p q w) P C (cover_cells c P C X Q) p q w r p' q' w'
