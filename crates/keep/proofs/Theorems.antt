-- What the two steps promise, about their definitions: each refusal exactly when, the lowest first; one outcome only; that all cells of a
-- group take the probe answer of its highest cell; and that an answer's tables hold the mesh, whole. Assumes nothing.
use mathlib.Core.Path.{◌≡◌, refl, ap}
use mathlib.Core.Logic.{◌↔◌}
use mathlib.Core.Bool.{true, false, not}
use mathlib.Core.List.{List}
use Prim.Native.Nat.{ℕ, ◌*◌, ◌<◌}
use lib.Dec.{eqb}
use lib.Ieee.{Float}
use lib.ListN.{length, get_or}
use Rattle.std.specs.Prelude.{Result, Ok}
use Rattle.lists.specs.Tables.{Determined}
use Rattle.lists.proofs.Lent.{determined}
use Rattle.refusals.specs.Rows.{first, InTurn, proper, rising, caused, lower}
use Rattle.refusals.specs.Causes.{work_rows, each_rows, answer_rows, room_rows}
use Rattle.refusals.specs.Refusals.{as_refusal, named}
use Rattle.refusals.proofs.Rows.{in_turn, exactly}
use Rattle.refusals.proofs.Refusals.{named_rows}
use Rattle.mesh.specs.Mesh.{cells_of}
use Rattle.mesh.specs.Judged.{count_rows, whole_rows, size_rows, name_rows}
use Rattle.links.specs.Labels.{label_at}
use Rattle.links.specs.Walks.{Walk, Share}
use Rattle.links.proofs.Groups.{same_label}
use Rattle.volume.specs.Volume.{least_of}
use Rattle.groups.specs.Judged.{crossed_rows}
use Rattle.marked.specs.Kept.{number_of, refused, kept_rows}
use Rattle.marked.specs.declared.Kept.{Kept}
use Rattle.marked.specs.declared.KeepError.{KeepError}
use Rattle.marked.proofs.WaysOut.{kept_number}
use Rattle.marked.proofs.Theorems.{Whole, kept_whole}
use Rattle.keep.specs.Marked.{crust_mark, is_inside, cover_mark}
use Rattle.keep.specs.Step.{crust_rows, cover_rows, keep_crust_rows, keep_cover_rows, crust_cells, crust_dropped, cover_cells, cover_dropped, keep_of, crust_of, cover_of, CrustDone, CoverDone}
use Rattle.keep.proofs.WaysOut.{answer_kept}

-- cells that are joined, step by step through shared vertices of cells not crossed, are inside together
pub group_inside : (C X Q : List ℕ) (n i j : ℕ) → Walk (Share C X (4 * n)) i j → is_inside C X Q n i ≡ is_inside C X Q n j
unfolding is_inside
group_inside C X Q n i j w = ap (λ (k : ℕ). not (eqb (get_or Q k 0) 0)) ((same_label C X n i j).1 w)

-- and the highest cell of the group asks its own answer
pub highest_decides : (C X Q : List ℕ) (n i : ℕ) → label_at C X n i ≡ i → is_inside C X Q n i ≡ not (eqb (get_or Q i 0) 0)
unfolding is_inside
highest_decides C X Q n i e = ap (λ (k : ℕ). not (eqb (get_or Q k 0) 0)) e

-- ---- each refusal exactly when

module _ (c : Float) (P C X p q w : List ℕ) where
  crust_number : number_of (crust_of c P C X p q w) ≡ first (keep_crust_rows c P C X p q w)
  unfolding keep_of proper named as_refusal crust_rows crossed_rows size_rows count_rows whole_rows work_rows each_rows answer_rows name_rows
  crust_number =
      named_rows number_of refused _ (crust_rows c (length P) C X (length w)) (kept_rows (crust_cells c P C X) p q) refl refl (λ k. refl)
      (kept_number (crust_cells c P C X) (crust_dropped c P C X) p q)

  pub crust_in_turn : (k : ℕ) → 0 < k → (number_of (crust_of c P C X p q w) ≡ k) ↔ InTurn k (keep_crust_rows c P C X p q w)
  crust_in_turn = in_turn (keep_crust_rows c P C X p q w) crust_number

  pub crust_exactly : (k : ℕ) → 0 < k
      → (number_of (crust_of c P C X p q w) ≡ k)
      ↔ ((caused k (keep_crust_rows c P C X p q w) ≡ true) × (lower k (keep_crust_rows c P C X p q w) ≡ false))
  unfolding rising crust_rows crossed_rows size_rows count_rows whole_rows work_rows each_rows answer_rows name_rows kept_rows room_rows
  crust_exactly = exactly (keep_crust_rows c P C X p q w) refl crust_number

  pub crust_one : Determined (λ (z : Result Kept KeepError × List ℕ × List ℕ × List ℕ). CrustDone c P C X p q w z.0 z.1 z.2 z.3)
  crust_one = determined (λ z a i. (a.answer i, a.points i, a.cells i, a.work i))

  -- an answer's tables hold the mesh of the crossed cells
  pub crust_whole : {r : Result Kept KeepError} {p' q' w' : List ℕ} {points cells dropped : ℕ} → CrustDone c P C X p q w r p' q' w' → r ≡ Ok (record { points = points; cells = cells; dropped = dropped })
      → Whole (crust_mark X) (least_of c) P C points cells dropped p' q'
  crust_whole d e =
      kept_whole (crust_mark X) (least_of c) P C
      (answer_kept P C (crust_cells c P C X) (crust_dropped c P C X) p q w (first (crust_rows c (length P) C X (length w))) d e) e

module _ (c : Float) (P C X Q p q w : List ℕ) where
  cover_number : number_of (cover_of c P C X Q p q w) ≡ first (keep_cover_rows c P C X Q p q w)
  unfolding keep_of proper named as_refusal cover_rows size_rows count_rows whole_rows work_rows each_rows answer_rows name_rows
  cover_number =
      named_rows number_of refused _ (cover_rows c (length P) C X Q (length w) 2) (kept_rows (cover_cells c P C X Q) p q) refl refl (λ k. refl)
      (kept_number (cover_cells c P C X Q) (cover_dropped c P C X Q) p q)

  pub cover_in_turn : (k : ℕ) → 0 < k → (number_of (cover_of c P C X Q p q w) ≡ k) ↔ InTurn k (keep_cover_rows c P C X Q p q w)
  cover_in_turn = in_turn (keep_cover_rows c P C X Q p q w) cover_number

  pub cover_exactly : (k : ℕ) → 0 < k
      → (number_of (cover_of c P C X Q p q w) ≡ k)
      ↔ ((caused k (keep_cover_rows c P C X Q p q w) ≡ true) × (lower k (keep_cover_rows c P C X Q p q w) ≡ false))
  unfolding rising cover_rows size_rows count_rows whole_rows work_rows each_rows answer_rows name_rows kept_rows room_rows
  cover_exactly = exactly (keep_cover_rows c P C X Q p q w) refl cover_number

  pub cover_one : Determined (λ (z : Result Kept KeepError × List ℕ × List ℕ × List ℕ). CoverDone c P C X Q p q w z.0 z.1 z.2 z.3)
  cover_one = determined (λ z a i. (a.answer i, a.points i, a.cells i, a.work i))

  -- an answer's tables hold the mesh of the crossed cells and of those inside
  pub cover_whole : {r : Result Kept KeepError} {p' q' w' : List ℕ} {points cells dropped : ℕ} → CoverDone c P C X Q p q w r p' q' w' → r ≡ Ok (record { points = points; cells = cells; dropped = dropped })
      → Whole (cover_mark C X Q (cells_of C)) (least_of c) P C points cells dropped p' q'
  cover_whole d e =
      kept_whole (cover_mark C X Q (cells_of C)) (least_of c) P C
      (answer_kept P C (cover_cells c P C X Q) (cover_dropped c P C X Q) p q w (first (cover_rows c (length P) C X Q (length w) 2)) d e) e
