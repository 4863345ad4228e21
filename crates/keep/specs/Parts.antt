-- What the parts of the code ask and give. In the work table w the entries for m points stand in front, and behind them one for each cell.
use Rattle.std.specs.Prelude.{◌≡◌, Bool, not, ◌||◌, List, ℕ, ◌+◌, ◌<◌, eqb, Float, length, get_or, take, drop, replicate, Result}
use Rattle.mesh.specs.Mesh.{points_of, cells_of}
use Rattle.groups.specs.Parts.{Sized, Labelled}
use Rattle.volume.specs.Volume.{least_of}
use Rattle.marked.specs.Parts.{marked_in, KeptMarked}
use Rattle.marked.specs.declared.Kept.{Kept}
use Rattle.marked.specs.declared.KeepError.{KeepError}
use Rattle.keep.specs.Marked.{crust_mark}

-- a cell is crossed or inside, by the work table
unfoldable pub cover_in : List ℕ → List ℕ → List ℕ → ℕ → ℕ → Bool
cover_in X Q w m i = crust_mark X i || not (eqb (get_or Q (get_or w (get_or w (m + i) 0) 0) 0) 0)

pub record ProbeAsked (X Q w : List ℕ) (m i : ℕ) : Type 0 where
  pub inside : m + i < length w
  pub root : get_or X i 0 ≡ 0 → get_or w (m + i) 0 < length w
  pub label : get_or X i 0 ≡ 0 → get_or w (get_or w (m + i) 0) 0 < length Q

pub record CoverAsked (C X Q w : List ℕ) (m : ℕ) : Type 0 where
  pub labelled : Labelled C X w m
  pub probes : length Q ≡ cells_of C

-- the entries behind the first m mark the cells that pass the test
pub record MarksOf (mark : ℕ → Bool) (C w : List ℕ) (m : ℕ) : Type 0 where
  pub sized : Sized C w m
  pub marked : (i : ℕ) → i < cells_of C → marked_in (drop m w) i ≡ mark i

-- the cells inside are to be marked, from a work table that holds anything
pub record InsideAsked (C Q w : List ℕ) (m : ℕ) : Type 0 where
  pub sized : Sized C w m
  pub probes : length Q ≡ cells_of C

-- the front of the work: an entry a point and one a cell
abbrev pub front_of : List ℕ → List ℕ → ℕ
front_of P C = points_of P + cells_of C

-- whatever test the front marks the cells by, those are kept, and the work is left zero
pub record RestKept (c : Float) (P C p q w : List ℕ) (r : Result Kept KeepError) (p' q' w' : List ℕ) : Type 0 where
  pub zero : w' ≡ replicate (length w) 0
  pub kept : (mark : ℕ → Bool) → MarksOf mark C (take (front_of P C) w) (points_of P) → KeptMarked P C mark (least_of c) p q r p' q'
