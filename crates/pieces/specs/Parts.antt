-- What the parts of the code ask and give. The work table has the owners of faces, four a cell, in one of its two first parts of so many
-- entries; behind them the parents of the cells, and behind these a number for each cell.
use Rattle.std.specs.Prelude.{◌≡◌, true, false, List, ℕ, ◌+◌, ◌-◌, ◌*◌, ◌/◌, ◌≤◌, ◌<◌, length, get_or, take, replicate}
use Rattle.std.proofs.lemmas.List.Edits.{sets}
use Rattle.lists.specs.Tables.{same}
use Rattle.lists.specs.Appearance.{seen_of, numbers_of}
use Rattle.mesh.specs.Mesh.{cells_of, most, Cells}
use Rattle.links.specs.Walks.{Groups}
use Rattle.links.specs.Parts.{Forest, Roots, Joined}
use Rattle.face_theory.specs.Faces.{face_of, Proper}
use Rattle.faces.specs.Parts.{part, owner_at, Whole, TellAsked}
use Rattle.pieces.specs.Pieces.{ShareFace, face_numbers, face_count}

-- the parents of the cells
abbrev pub parents : List ℕ → List ℕ → List ℕ
parents C W = part (2 * length C) (length C / 4) W

-- ---- cells joined

pub record LinkAsked (C W : List ℕ) (points at : ℕ) : Type 0 where
  pub tell : TellAsked C W points at
  pub few : length C / 4 ≤ most

-- the parents end at the labels of the cells that are joined step by step; what stands before them is as it was
pub record Linked (C W W' : List ℕ) : Type 0 where
  pub kept : (k : ℕ) → k < 2 * length C → get_or W' k 0 ≡ get_or W k 0
  pub forest : Forest (parents C W')
  pub f : ℕ → ℕ
  pub roots : Roots (parents C W') f
  pub groups : Proper C → Groups (ShareFace C) f

pub record NextAsked (C W : List ℕ) (at i : ℕ) : Type 0 where
  pub whole : Whole C
  pub few : length C / 4 ≤ most
  pub at_end : at + length C ≤ 2 * length C
  pub room : 4 * length C ≤ length W
  pub on : 0 < i
  pub here : i < length C
  pub owners : (k : ℕ) → k < length C → owner_at W at k < length C
  pub forest : Forest (parents C W)

pub record NextJoined (C W W' : List ℕ) (at i : ℕ) : Type 0 where
  pub kept : (k : ℕ) → k < 2 * length C → get_or W' k 0 ≡ get_or W k 0
  pub forest : Forest (parents C W')
  pub apart : same (face_of C (owner_at W at i)) (face_of C (owner_at W at (i - 1))) ≡ false → parents C W' ≡ parents C W
  pub joined : same (face_of C (owner_at W at i)) (face_of C (owner_at W at (i - 1))) ≡ true
      → Joined (parents C W) (parents C W') (owner_at W at (i - 1) / 4) (owner_at W at i / 4)

-- ---- and numbered

-- a table of which the first half are parents
pub record NumberAsked (w : List ℕ) : Type 0 where
  pub even : length w ≡ 2 * (length w / 2)
  pub forest : Forest (take (length w / 2) w)
  pub few : length w / 2 ≤ most

-- how many labels there are, and the table of their numbers by first appearance, as far as it reaches
pub record Numbered (w o o' : List ℕ) (m r : ℕ) : Type 0 where
  pub few : r ≤ m
  pub count : (f : ℕ → ℕ) → Roots (take m w) f → r ≡ length (seen_of f m)
  pub numbers : (f : ℕ → ℕ) → Roots (take m w) f → o' ≡ sets o 0 (numbers_of f m)

-- cells that name four of so many points each, and 16 work entries for each
pub record Fits (C w : List ℕ) (points : ℕ) : Type 0 where
  pub cells : Cells C points
  pub proper : Proper C
  pub long : length w ≡ 16 * cells_of C

-- how many numbers there are, the table of them, as far as it reaches, and the work table left zero
pub record Listed (C o o' w w' : List ℕ) (r : ℕ) : Type 0 where
  pub count : r ≡ face_count C (cells_of C)
  pub few : r ≤ cells_of C
  pub numbers : o' ≡ sets o 0 (face_numbers C (cells_of C))
  pub zero : w' ≡ replicate (length w) 0
