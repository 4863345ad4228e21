-- What the parts of the code ask and give. In the work table w there are n entries for the points in front, and behind them one for each cell.
use Rattle.std.specs.Prelude.{◌≡◌, List, ℕ, ◌<◌, Float, length, drop, Result}
use Rattle.lists.specs.Tables.{list_of}
use Rattle.refusals.specs.declared.CountError.{CountError}
use Rattle.mesh.specs.Mesh.{points_of, cells_of}
use Rattle.groups.specs.Parts.{Laid}
use Rattle.volume.specs.Volume.{verdict_at}
use Rattle.marked.specs.Parts.{marked_in}
use Rattle.marks.specs.Marks.{mark_by}
use Rattle.marks.specs.Step.{kept_count, dropped_count, stored_of, marks_after}
use Rattle.marks.specs.declared.Told.{Told}

-- the mark of one cell
pub record MarkAsked (P C w : List ℕ) (n i : ℕ) : Type 0 where
  pub laid : Laid P C w n
  pub inside : i < cells_of C

-- those of all, by the entries
abbrev pub marks_by : List ℕ → List ℕ → List ℕ → ℕ → Float → List ℕ
marks_by P C w n least = list_of (λ i. mark_by (marked_in (drop n w) i) (verdict_at P C i least)) (cells_of C)

-- in a table that is just as long
pub record StoreAsked (P C o w : List ℕ) (n : ℕ) : Type 0 where
  pub laid : Laid P C w n
  pub room : length o ≡ cells_of C

-- the marks M are stored and counted
pub record AllMarked (M : List ℕ) (r : Told) (o' : List ℕ) : Type 0 where
  pub answer : r ≡ record { kept = kept_count M; dropped = dropped_count M }
  pub marks : o' ≡ M

-- from a work table that holds anything
pub record TellAsked (P C Q w : List ℕ) : Type 0 where
  pub laid : Laid P C w (points_of P)
  pub probes : length Q ≡ cells_of C

pub record ToldAs (c : Float) (P C X Q o : List ℕ) (r : Result Told CountError) (o' : List ℕ) : Type 0 where
  pub answer : r ≡ stored_of c P C X Q o
  pub marks : o' ≡ marks_after (stored_of c P C X Q o) c P C X Q o
