-- The test of a leaf in the Rust's `balance`, from its text: "every finest octant one step outside this leaf must be covered by a leaf no more
-- than one level" finer than it is. Definitions only.
use Rattle.std.specs.Prelude.{Bool, false, ◌&&◌, ◌||◌, ℕ, zero, suc, ◌+◌, ◌*◌, ◌-◌, ◌^◌, ltb}
use Rattle.lists.specs.Tests.{any}
use Rattle.space.specs.Space.{Axis, ax, ay, az, Pos, pos, frame}
use Rattle.octants.specs.Oct.{Tree}
use Rattle.octree_cells.specs.Cells.{Cover, none, leaf, at_most, covering}

-- a leaf of level m is 2 ^ m finest octants wide; the place p of its shell is the Rust's offset and one, so that the one below the leaf is 0
abbrev pub outside : ℕ → Pos → Pos → Pos
outside m x p = λ a. x a * 2 ^ m + p a - 1

-- the leaf that covers is more than a level finer
abbrev pub finer_than : ℕ → Cover → Bool
finer_than m none = false
finer_than m (leaf n z) = ltb (n + 1) m

-- one place of the shell: nothing stands below 0, and what is out of range is passed over
abbrev pub too_fine : ℕ → Pos → Tree → ℕ → Pos → Pos → Bool
too_fine l d t m x p = at_most (pos 1 1 1) (λ a. x a * 2 ^ m + p a) && finer_than m (covering l d t 0 (outside m x p))

-- the Rust's side: −1, or span
abbrev pub side_at : ℕ → ℕ → ℕ
side_at m zero = 0
side_at m (suc k) = 2 ^ m + 1

-- both sides of an axis, from −1 to span along the two others
abbrev pub shell_on : ℕ → Pos → Tree → ℕ → Pos → Axis → Bool
shell_on l d t m x a = any 2 (λ s. any (2 ^ m + 2) (λ u. any (2 ^ m + 2) (λ v. too_fine l d t m x (frame a (side_at m s) u v))))

-- the leaf has to give
abbrev pub shell_splits : ℕ → Pos → Tree → ℕ → Pos → Bool
shell_splits l d t m x = ltb 0 m && (shell_on l d t m x ax || shell_on l d t m x ay || shell_on l d t m x az)
