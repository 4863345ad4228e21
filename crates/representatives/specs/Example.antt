-- Calls of `representatives` with all that they answer and leave, computed from the definitions.
use Rattle.std.specs.Prelude.{◌≡◌, refl, List, [], ◌∷◌, ◌++◌, map, ℕ, replicate}
use Rattle.std.specs.Float.Ieee.{of_bits, to_bits, add, div}
use Rattle.refusals.specs.Rows.{first, unless}
use Rattle.refusals.specs.Causes.{work_rows, each_rows, answer_rows}
use Rattle.mesh.specs.Judged.{count_rows, whole_rows, size_rows, name_rows}
use Rattle.lists.specs.Tables.{all_below, among}
use Rattle.lists.specs.Runs.{run, those, spread}
use Rattle.lists.specs.Tests.{any}
use Rattle.links.specs.Labels.{shares, touched, taken_over, add_cell, labels, label_at}
use Rattle.mesh.specs.Mesh.{cell_of}
use Rattle.volume.specs.Cell.{point_of, corners_of}
use Rattle.groups.specs.Judged.{crossed_rows}
use Rattle.representatives.specs.Highest.{is_highest, representatives_of, centroid_bits, centroids_of}
use Rattle.refusals.specs.Refusals.{as_refusal, count_number, count_values}
use Rattle.representatives.specs.Step.{listed_of, represented_of, numbers_after, centroids_after, work_after}

-- how many points there are, at 1, 1, 1 each; cells and crossing answers; the lengths of the result tables and the work, which hold
-- sevens; and what is answered: number, values, and the three tables after
pub record Case : Type 0 where
  pub points : ℕ
  pub cells : List ℕ
  pub crossing : List ℕ
  pub numbers : ℕ
  pub centroids : ℕ
  pub work : ℕ
  pub number : ℕ
  pub values : List ℕ
  pub numbers_after_lem : List ℕ
  pub centroids_after_lem : List ℕ
  pub work_after_lem : List ℕ

abbrev sevens : ℕ → List ℕ
sevens n = replicate n 7

abbrev ones : ℕ → List ℕ
ones n = replicate n 0x3f80_0000

abbrev three : List ℕ
three = 0 ∷ 1 ∷ 2 ∷ 3 ∷ 3 ∷ 4 ∷ 5 ∷ 6 ∷ 7 ∷ 8 ∷ 9 ∷ 10 ∷ []

abbrev case : ℕ → List ℕ → List ℕ → ℕ → ℕ → ℕ → ℕ → List ℕ → List ℕ → List ℕ → List ℕ → Case
case p c x n z w k v na za wa =
    record { points = p; cells = c; crossing = x; numbers = n; centroids = z; work = w; number = k; values = v; numbers_after_lem = na; centroids_after_lem = za; work_after_lem = wa }

abbrev table : List Case
table =
    -- the last cell crossing: one group, with room to spare
    case 33 three (0 ∷ 0 ∷ 1 ∷ []) 2 4 15 0 (1 ∷ []) (1 ∷ 7 ∷ []) (ones 3 ++ (7 ∷ [])) (replicate 14 0 ++ (7 ∷ []))
    -- one number, or one coordinate, too little room
    ∷ case 33 three (0 ∷ 1 ∷ 0 ∷ []) 1 6 14 9 (2 ∷ []) (sevens 1) (sevens 6) (replicate 14 0)
    ∷ case 33 three (0 ∷ 1 ∷ 0 ∷ []) 2 5 15 9 (2 ∷ []) (sevens 2) (sevens 5) (replicate 14 0 ++ (7 ∷ []))
    -- a missing point, an answer above 1, an answer too few, short work, ragged points
    ∷ case 30 three (0 ∷ 1 ∷ 0 ∷ []) 2 6 14 8 [] (sevens 2) (sevens 6) (sevens 14)
    ∷ case 30 three (0 ∷ 2 ∷ 0 ∷ []) 2 6 14 6 [] (sevens 2) (sevens 6) (sevens 14)
    ∷ case 30 three (0 ∷ 2 ∷ []) 2 6 14 5 [] (sevens 2) (sevens 6) (sevens 14)
    ∷ case 33 three (0 ∷ 2 ∷ 0 ∷ []) 2 6 13 5 [] (sevens 2) (sevens 6) (sevens 13)
    ∷ case 34 three (0 ∷ 2 ∷ 0 ∷ []) 2 6 14 5 [] (sevens 2) (sevens 6) (sevens 14)
    -- no cells
    ∷ case 3 [] [] 0 0 1 0 (0 ∷ []) [] [] (0 ∷ [])
    ∷ []

abbrev asked : Case → Case
asked k =
    let P = ones k.points in
    let o = sevens k.numbers in
    let z = sevens k.centroids in
    let w = sevens k.work in
    let a = represented_of P k.cells k.crossing o z w in
    case k.points k.cells k.crossing k.numbers k.centroids k.work (count_number a) (count_values a)
    (numbers_after a k.cells k.crossing o) (centroids_after a P k.cells k.crossing z) (work_after a P k.cells w)

examples : map asked table ≡ table
unfolding of_bits to_bits add div first unless as_refusal count_rows whole_rows work_rows size_rows each_rows answer_rows name_rows all_below among run those spread any shares touched taken_over add_cell labels label_at cell_of point_of corners_of crossed_rows is_highest representatives_of centroid_bits centroids_of listed_of represented_of
examples = refl
