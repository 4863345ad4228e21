-- Calls of `keep_cover` with all that they answer and leave, computed from the definitions.
use Rattle.std.specs.Prelude.{◌≡◌, refl, List, [], ◌∷◌, map, ℕ, replicate}
use Rattle.std.specs.Float.Ieee.{of_bits, add, sub, mul, div, neg, lt}
use Rattle.float32.specs.Operations.{f32}
use Rattle.refusals.specs.Rows.{first, unless}
use Rattle.refusals.specs.Causes.{work_rows, each_rows, answer_rows}
use Rattle.refusals.specs.Refusals.{as_refusal}
use Rattle.mesh.specs.Judged.{count_rows, whole_rows, size_rows, name_rows}
use Rattle.lists.specs.Tables.{all_below, among}
use Rattle.lists.specs.Runs.{run, those, spread}
use Rattle.lists.specs.Appearance.{place, noted}
use Rattle.lists.specs.Tests.{any}
use Rattle.links.specs.Labels.{shares, touched, taken_over, add_cell, labels, label_at}
use Rattle.mesh.specs.Mesh.{cell_of, in_order}
use Rattle.volume.specs.Cell.{point_of, corners_of}
use Rattle.volume.specs.Volume.{volume_of, size_of, verdict_of, verdict_at}
use Rattle.marked.specs.Used.{first_uses, used_of, renumbered, point_bits, points_at}
use Rattle.marked.specs.Weighed.{shaped, is_dropped, shape_at, drops_at, final_cells, dropped_count}
use Rattle.marked.specs.Kept.{number_of, values_of, kept_of, points_after, cells_after}
use Rattle.keep.specs.Marked.{crust_mark, is_inside, cover_mark}
use Rattle.keep.specs.Step.{cover_rows, keep_of, cover_of, cover_cells, work_after}

-- the cell size, points, cells, crossing and probe answers; the room for points and cells and the work, which hold sevens; and what is
-- answered: number, values, the cells before compaction, and the three tables after
pub record Case : Type 0 where
  pub size : ℕ
  pub points : List ℕ
  pub cells : List ℕ
  pub crossing : List ℕ
  pub probe : List ℕ
  pub point_room : ℕ
  pub cell_room : ℕ
  pub work : ℕ
  pub number : ℕ
  pub values : List ℕ
  pub final : List ℕ
  pub points_after_lem : List ℕ
  pub cells_after_lem : List ℕ
  pub work_after_lem : List ℕ

abbrev sevens : ℕ → List ℕ
sevens n = replicate n 7

abbrev one : ℕ
one = 0x3f80_0000

-- the points 0, x, y, z unit
abbrev unit_points : List ℕ
unit_points = 0 ∷ 0 ∷ 0 ∷ one ∷ 0 ∷ 0 ∷ 0 ∷ one ∷ 0 ∷ 0 ∷ 0 ∷ one ∷ []

abbrev case : ℕ → List ℕ → List ℕ → List ℕ → List ℕ → ℕ → ℕ → ℕ → ℕ → List ℕ → List ℕ → List ℕ → List ℕ → List ℕ → Case
case c p k x s a b w n v f pa ca wa =
    record { size = c; points = p; cells = k; crossing = x; probe = s; point_room = a; cell_room = b; work = w; number = n; values = v; final = f; points_after_lem = pa; cells_after_lem = ca; work_after_lem = wa }

abbrev table : List Case
table =
    -- the highest cell of a group decides: cells 0 and 1 share point 3, and cell 1 is flat and dropped
    case one unit_points (0 ∷ 1 ∷ 2 ∷ 3 ∷ 3 ∷ 3 ∷ 3 ∷ 3 ∷ []) (0 ∷ 0 ∷ []) (0 ∷ 1 ∷ []) 12 4 10 0 (4 ∷ 1 ∷ 1 ∷ []) (0 ∷ 1 ∷ 2 ∷ 3 ∷ [])
    unit_points (0 ∷ 1 ∷ 2 ∷ 3 ∷ []) (replicate 10 0)
    -- and the lowest does not
    ∷ case one unit_points (0 ∷ 1 ∷ 2 ∷ 3 ∷ 3 ∷ 3 ∷ 3 ∷ 3 ∷ []) (0 ∷ 0 ∷ []) (1 ∷ 0 ∷ []) 12 4 10 10 [] [] (sevens 12) (sevens 4) (replicate 10 0)
    -- one point too little room
    ∷ case one unit_points (0 ∷ 1 ∷ 2 ∷ 3 ∷ []) (1 ∷ []) (0 ∷ []) 11 4 9 9 (4 ∷ 1 ∷ []) (0 ∷ 1 ∷ 2 ∷ 3 ∷ []) (sevens 11) (sevens 4) (replicate 9 0)
    -- a missing point, a probe byte above 1, short work, no cell size
    ∷ case one unit_points (0 ∷ 1 ∷ 2 ∷ 4 ∷ []) (1 ∷ []) (0 ∷ []) 12 4 9 8 [] [] (sevens 12) (sevens 4) (sevens 9)
    ∷ case one unit_points (0 ∷ 1 ∷ 2 ∷ 3 ∷ []) (1 ∷ []) (2 ∷ []) 12 4 9 6 [] (0 ∷ 1 ∷ 2 ∷ 3 ∷ []) (sevens 12) (sevens 4) (sevens 9)
    ∷ case one unit_points (0 ∷ 1 ∷ 2 ∷ 3 ∷ []) (1 ∷ []) (2 ∷ []) 12 4 8 5 [] (0 ∷ 1 ∷ 2 ∷ 3 ∷ []) (sevens 12) (sevens 4) (sevens 8)
    ∷ case 0x8000_0000 unit_points (0 ∷ 1 ∷ 2 ∷ 3 ∷ []) (1 ∷ []) (2 ∷ []) 12 4 8 1 [] (0 ∷ 1 ∷ 2 ∷ 3 ∷ []) (sevens 12) (sevens 4) (sevens 8)
    -- no cells, no points
    ∷ case one [] [] [] [] 0 0 1 10 [] [] [] [] (sevens 1)
    ∷ []

abbrev asked : Case → Case
asked k =
    let c = f32 k.size in
    let p = sevens k.point_room in
    let q = sevens k.cell_room in
    let w = sevens k.work in
    let a = cover_of c k.points k.cells k.crossing k.probe p q w in
    let F = cover_cells c k.points k.cells k.crossing k.probe in
    case k.size k.points k.cells k.crossing k.probe k.point_room k.cell_room k.work (number_of a) (values_of a) F
    (points_after a k.points F p) (cells_after a F q) (work_after a k.points k.cells w)

examples : map asked table ≡ table
unfolding of_bits add sub mul div neg lt first unless as_refusal count_rows whole_rows work_rows size_rows each_rows answer_rows name_rows all_below among run those spread place noted any shares touched taken_over add_cell labels label_at cell_of in_order point_of corners_of volume_of size_of verdict_of verdict_at first_uses used_of renumbered point_bits points_at shaped is_dropped shape_at drops_at final_cells dropped_count kept_of crust_mark is_inside cover_mark cover_rows keep_of
examples = refl
