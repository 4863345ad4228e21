-- What the parts of the code ask and give.
use Rattle.std.specs.Prelude.{List, ℕ, ◌+◌, ◌≤◌, ◌<◌, length}
use Rattle.mesh_layout.specs.Layout.{end_of, second, third, end}

-- entries of one to four words
pub record Entries (w : ℕ) : Type 0 where
  pub some : 0 < w
  pub few : w ≤ 4

-- a section that is there
pub record Standing (w : ℕ) (b : List ℕ) (at : ℕ) : Type 0 where
  pub entries : Entries w
  pub counted : at + 4 ≤ length b
  pub fits : end_of w b at ≤ length b

-- the sections are there, and nothing follows
pub record Laid (b : List ℕ) : Type 0 where
  pub points : Standing 3 b 0
  pub cells : Standing 4 b (second b)
  pub numbers : Standing 1 b (third b)
  pub all : length b ≤ end b
