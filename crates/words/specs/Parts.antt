-- What the parts of the code ask and give.
use Rattle.std.specs.Prelude.{Bool, true, false, List, ℕ, ◌+◌, ◌*◌, ◌/◌, ◌%◌, ◌≤◌, ◌<◌, length}
use Rattle.words.specs.Words.{four}

-- the number that the bytes of x are when they are read the low one first
unfoldable pub turned_of : Bool → ℕ → ℕ
turned_of false x = x
turned_of true x = four false (x / 16777216) (x / 65536 % 256) (x / 256 % 256) (x % 256)

-- the bytes of n words are there, and those of n cells
pub record WordsThere (b : List ℕ) (at n : ℕ) : Type 0 where
  pub there : (i : ℕ) → i < n → at + 4 * i + 4 ≤ length b

pub record CellsThere (stride : ℕ) (b : List ℕ) (at n : ℕ) : Type 0 where
  pub there : (i : ℕ) → i < n → at + 4 * (stride * i) + 16 ≤ length b
