-- The worked numbers of section 13 of the rules that are marked (P): one table, one theorem about the definitions.
use Rattle.std.specs.Prelude.{◌≡◌, true, List, [], ◌∷◌, ℕ, ◌+◌, length, get_or, set, take, replicate}
use Rattle.float32.specs.Operations.{f32}
use Rattle.space.specs.Levels.{depth}
use Rattle.plan.specs.Step.{plan_of, number_of, fault_of}
use Rattle.space.specs.Space.{Pos, pos}
use Rattle.grid.specs.Grid.{grid_cells, grid_vertices}
use Rattle.tiling.specs.Volume.{sum_six}
use Rattle.plan.specs.declared.Bounds.{Bounds}
use Rattle.plan.specs.declared.Fault.TheVariants.{X, Octants}
use Rattle.plan.specs.declared.Refusal.TheVariants.{Number, TooLarge}
use Rattle.plan.specs.declared.Planned.{Planned}
use Rattle.plan.specs.declared.Planned.TheVariants.{Ready, Refused}
use Rattle.octants.specs.Table.{slot, total, refine_of}
use Rattle.mesh.specs.Mesh.{cells_of}
use Rattle.components.specs.Numbers.{component_numbers}
use Rattle.representatives.specs.Highest.{representatives_of}
use Rattle.volume.specs.Volume.{least_of}
use Rattle.marked.specs.Weighed.{final_cells}
use Rattle.marked.specs.Used.{used_of, renumbered}
use Rattle.lattice.specs.Lattice.{lattice_vertices, lattice_cells, lattice_table}

-- every entry of a list has the property: a proof for each
pub data Every {A : Type 0} (P : A → Type 0) : List A → Type 0 where
  done : Every P []
  row : {x : A} {l : List A} → P x → Every P l → Every P (x ∷ l)

-- the box from 0 to x along each axis, x by its bit pattern
abbrev cube : ℕ → Bounds
cube x = record { x0 = f32 0; y0 = f32 0; z0 = f32 0; x1 = f32 x; y1 = f32 x; z1 = f32 x }

-- a plan of n along each axis from o on, o and the unit by their bit patterns
abbrev plan : ℕ → ℕ → ℕ → ℕ → ℕ → Planned
plan o half n levels octants =
    Ready (record { ox = f32 o; oy = f32 o; oz = f32 o; half = f32 half; nx = n; ny = n; nz = n; levels = levels; octants = octants })

abbrev pub six : Pos
six = pos 6 6 6

-- no root of six an axis is crossed, or none is split
abbrev pub none : List ℕ
none = replicate 216 0

-- 216 roots and 1,728 octants of level 1: root (2, 2, 2) and level-1 octant (4, 4, 4) crossed
abbrev pub root_and_child : List ℕ
root_and_child = set (set (replicate 1944 0) (slot six (pos 2 2 2)) 1) (216 + slot (depth six 1) (pos 4 4 4)) 1

-- the level-1 octant alone
abbrev pub child_alone : List ℕ
child_alone = set (replicate 1944 0) (216 + slot (depth six 1) (pos 4 4 4)) 1

-- how many octants are split, and the byte of root (1, 1, 1)
abbrev pub Splits : List ℕ → ℕ → ℕ → Type 0
Splits s ones byte = (total s ≡ ones) × (get_or s (slot six (pos 1 1 1)) 0 ≡ byte)

-- what is asked of a step, and what it says
pub data Row : Type 0 where
  -- the plan of the cube from 0 to x, with the cell size c and these levels
  planned : (x c levels : ℕ) → Planned → Row
  -- the number of its refusal, and what a 4 names
  told : (x c levels number fault : ℕ) → Row
  -- the grid of these levels over d, with a split table: how many cells and vertices it has
  gridded : (levels : ℕ) (d : Pos) (split : List ℕ) (cells vertices : ℕ) → Row
  -- the lattice over d: how many vertices and cells it has, and its first cell
  lattice : (d : Pos) (vertices cells : ℕ) (first : List ℕ) → Row
  -- what the six-fold volumes of that grid's cells add up to
  filled : (levels : ℕ) (d : Pos) (split : List ℕ) (sum : ℕ) → Row
  -- the refinement over six roots an axis: its split table
  refined_to : (levels : ℕ) (crossing table : List ℕ) → Row
  -- over two levels: how many octants it splits, and the byte of root (1, 1, 1)
  refined : (crossing : List ℕ) (ones byte : ℕ) → Row
  -- the representatives of cells, with their crossing answers
  represented : (cells crossing numbers : List ℕ) → Row
  -- the cells that stay of marked ones, over these points and with this cell size, all by their bit patterns
  stayed : (points : List ℕ) (c : ℕ) (cells final : List ℕ) → Row
  -- compaction of cells: the points used, and the cells renumbered
  compacted : (cells used numbers : List ℕ) → Row
  -- the component numbers of cells
  numbered : (cells numbers : List ℕ) → Row

unfoldable pub Says : Row → Type 0
Says (planned x c levels answer) = plan_of (cube x) (f32 c) levels ≡ answer
Says (told x c levels number fault) = (number_of (plan_of (cube x) (f32 c) levels) ≡ number) × (fault_of (plan_of (cube x) (f32 c) levels) ≡ fault)
Says (gridded levels d split cells vertices) = (length (grid_cells levels d split) ≡ cells) × (length (grid_vertices levels d split) ≡ vertices)
Says (lattice d vertices cells first) = length (lattice_vertices d) ∷ length (lattice_cells d) ∷ take 4 (lattice_table d) ≡ vertices ∷ cells ∷ first
Says (filled levels d split sum) = sum_six (grid_cells levels d split) ≡ sum
Says (refined_to levels crossing table) = refine_of six levels crossing ≡ table
Says (refined crossing ones byte) = Splits (refine_of six 2 crossing) ones byte
Says (represented cells crossing numbers) = representatives_of cells crossing (cells_of cells) ≡ numbers
Says (stayed points c cells final) = final_cells (λ i. true) (least_of (f32 c)) points cells (cells_of cells) ≡ final
Says (compacted cells used numbers) = used_of cells ∷ renumbered cells ∷ [] ≡ used ∷ numbers ∷ []
Says (numbered cells numbers) = component_numbers cells (cells_of cells) ≡ numbers

abbrev one : ℕ
one = 0x3f80_0000

abbrev quarter : ℕ
quarter = 0x3e80_0000

abbrev chain : List ℕ
chain = 0 ∷ 1 ∷ 2 ∷ 3 ∷ 3 ∷ 4 ∷ 5 ∷ 6 ∷ 7 ∷ 8 ∷ 9 ∷ 10 ∷ []

unfoldable pub table : List Row
table =
    -- box all 0, c 1, L 0: dims 8, origin -2, half 0.5
    planned 0 one 0 (plan 0xc000_0000 0x3f00_0000 8 0 0)
    -- 189 points, 576 cells; the first cell is [125, 126, 31, 26]
    ∷ lattice (pos 8 8 8) 189 576 (125 ∷ 126 ∷ 31 ∷ 26 ∷ [])
    -- 4 a cell
    ∷ filled 0 (pos 8 8 8) [] 2304
    -- box 0 to 0.25, c 1, L 0: dims 9
    ∷ planned quarter one 0 (plan 0xc000_0000 0x3f00_0000 9 0 0)
    -- 250 points, 768 cells
    ∷ lattice (pos 9 9 9) 250 768 (125 ∷ 126 ∷ 31 ∷ 26 ∷ [])
    ∷ filled 0 (pos 9 9 9) [] 3072
    -- box all 0, c 1, L 1: dims 6, origin -3, half 0.25, N 216
    ∷ planned 0 one 1 (plan 0xc040_0000 quarter 6 1 216)
    -- no crossing: no root is split; 2,592 cells, 559 vertices
    ∷ refined_to 1 none none
    ∷ gridded 1 six none 2592 559
    -- six times the box of 24 units an axis
    ∷ filled 1 six none 82944
    -- the same box, L 2: dims 6, origin -3, half 0.125, N 1,944
    ∷ planned 0 one 2 (plan 0xc040_0000 0x3e00_0000 6 2 1944)
    -- crossed root (2,2,2) and level-1 (4,4,4): 9 split, root (1,1,1) among them; without the root crossed: 0
    ∷ refined root_and_child 9 1
    ∷ refined child_alone 0 0
    -- c of 0, -0, NaN, infinity: refusal 1
    ∷ planned 0 0 0 (Refused (Number 1))
    ∷ planned 0 0x8000_0000 0 (Refused (Number 1))
    ∷ planned 0 0x7fc0_0000 0 (Refused (Number 1))
    ∷ planned 0 0x7f80_0000 0 (Refused (Number 1))
    -- box 0 to 59, c 1, L 1: 4, and x, which is 0; box 0 to 0.25, c 1, L 5: 4, and the octants, which are 3
    ∷ planned 0x426c_0000 one 1 (Refused (TooLarge X))
    ∷ told 0x426c_0000 one 1 4 0
    ∷ planned quarter one 5 (Refused (TooLarge Octants))
    ∷ told quarter one 5 4 3
    -- cells [0,1,2,3], [3,4,5,6], [7,8,9,10], none crossing: representatives 1 and 2; cell 1 crossing: 0 and 2
    ∷ represented chain (0 ∷ 0 ∷ 0 ∷ []) (1 ∷ 2 ∷ [])
    ∷ represented chain (0 ∷ 1 ∷ 0 ∷ []) (0 ∷ 2 ∷ [])
    -- cells [5,6,7,8], [0,1,2,3], [8,9,10,11]: component numbers 0, 1, 0
    ∷ numbered (5 ∷ 6 ∷ 7 ∷ 8 ∷ 0 ∷ 1 ∷ 2 ∷ 3 ∷ 8 ∷ 9 ∷ 10 ∷ 11 ∷ []) (0 ∷ 1 ∷ 0 ∷ [])
    -- points 0, x, y, z unit, c 1: [0,2,1,3] becomes [2,0,1,3]
    ∷ stayed (0 ∷ 0 ∷ 0 ∷ one ∷ 0 ∷ 0 ∷ 0 ∷ one ∷ 0 ∷ 0 ∷ 0 ∷ one ∷ []) one (0 ∷ 2 ∷ 1 ∷ 3 ∷ []) (2 ∷ 0 ∷ 1 ∷ 3 ∷ [])
    -- only [4,2,7,0] kept: points 4, 2, 7, 0; cell [0,1,2,3]
    ∷ compacted (4 ∷ 2 ∷ 7 ∷ 0 ∷ []) (4 ∷ 2 ∷ 7 ∷ 0 ∷ []) (0 ∷ 1 ∷ 2 ∷ 3 ∷ [])
    ∷ []
