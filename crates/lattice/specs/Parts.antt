-- What the parts of the code ask and give.
use Rattle.std.specs.Prelude.{◌≡◌, Bool, cond, ◌&&◌, List, [], ◌∷◌, ◌++◌, ℕ, ◌+◌, ◌*◌, ◌/◌, ◌^◌, ◌≤◌, ◌<◌, ltb, length}
use Rattle.lists.specs.Runs.{run, Stored, Room}
use Rattle.space.specs.Space.{Axis, ax, ay, az, Pos, pos}
use Rattle.octree_cells.specs.Cells.{flat}
use Rattle.plan.specs.Vertices.{dims_of, spread}
use Rattle.lattice.specs.Lattice.{odds, doubled, index_of, lattice_vertices, lattice_cells, centre_cells}
use Rattle.lattice.specs.declared.Counts.{Counts}
use Rattle.lattice.specs.declared.Octa.{Octa}
use Rattle.lattice.specs.declared.Row.{Row}
use Rattle.plan.specs.declared.Plan.{Plan}

-- dimensions of a lattice
pub record Dims (nx ny nz : ℕ) : Type 0 where
  pub x_some : 1 ≤ nx
  pub y_some : 1 ≤ ny
  pub z_some : 1 ≤ nz
  pub x_few : nx ≤ 128
  pub y_few : ny ≤ 128
  pub z_few : nz ≤ 128

pub record Counted (d : Pos) (r : Counts) : Type 0 where
  pub cells_are : r.cells ≡ length (lattice_cells d)
  pub vertices_are : r.vertices ≡ length (lattice_vertices d)
  pub cells_few : r.cells ≤ 3295500
  pub vertices_few : r.vertices ≤ 549250

-- ---- the cells

-- what one step along an axis adds to a place in a box
abbrev pub step : Pos → Axis → ℕ
step n ax = 1
step n ay = n ax
step n az = n ay * n ax

-- the numbers of an octahedron where it is there
unfoldable pub octa_numbers : Bool → Octa → List ℕ
octa_numbers t o =
    cond t
    (o.centre ∷ o.opposite ∷ (o.low + o.u + o.v) ∷ (o.low + o.v)
    ∷ o.centre ∷ o.opposite ∷ (o.low + o.v) ∷ o.low
    ∷ o.centre ∷ o.opposite ∷ o.low ∷ (o.low + o.u)
    ∷ o.centre ∷ o.opposite ∷ (o.low + o.u) ∷ (o.low + o.u + o.v)
    ∷ [])
    []

pub record OctaFits (cells : List ℕ) (at : ℕ) (t : Bool) (o : Octa) : Type 0 where
  pub room : Room cells at (octa_numbers t o)
  pub names : o.low + o.u + o.v < 2 ^ 32

-- the octahedra at centre i of a row
abbrev pub along_x : Row → ℕ → Octa
along_x r i = record { centre = r.centre + i; opposite = r.centre + i + 1; low = r.low + i + 1; u = r.line; v = r.layer }

abbrev pub along_y : Row → ℕ → Octa
along_y r i = record { centre = r.centre + i; opposite = r.centre + i + r.n; low = r.low + i + r.line; u = r.layer; v = 1 }

abbrev pub along_z : Row → ℕ → Octa
along_z r i = record { centre = r.centre + i; opposite = r.centre + i + r.deep; low = r.low + i + r.layer; u = 1; v = r.line }

unfoldable pub numbers_at : Row → ℕ → List ℕ
numbers_at r i =
    octa_numbers (r.tx && ltb (i + 1) r.n) (along_x r i)
    ++ octa_numbers (r.ty && ltb i r.h) (along_y r i)
    ++ octa_numbers (r.tz && ltb i r.h) (along_z r i)

abbrev pub row_numbers : Row → List ℕ
row_numbers r = run r.n (numbers_at r) 0

pub record RowFits (cells : List ℕ) (at : ℕ) (r : Row) : Type 0 where
  pub room : Room cells at (row_numbers r)
  pub corners : r.low + r.n + r.line + r.layer + 1 < 2 ^ 32
  pub centres : r.centre + r.n + r.n + r.deep + 1 < 2 ^ 32

-- row j of layer k, in closed form
pub record IsRow (nx ny nz k j : ℕ) (r : Row) : Type 0 where
  pub n_is : r.n ≡ (nx + 1) / 2
  pub h_is : r.h ≡ nx / 2
  pub tx_is : r.tx ≡ (ltb j (ny / 2) && ltb k (nz / 2))
  pub ty_is : r.ty ≡ (ltb (j + 1) ((ny + 1) / 2) && ltb k (nz / 2))
  pub tz_is : r.tz ≡ (ltb (k + 1) ((nz + 1) / 2) && ltb j (ny / 2))
  pub centre_is : r.centre ≡ (nx / 2 + 1) * (ny / 2 + 1) * (nz / 2 + 1) + (j + k * ((ny + 1) / 2)) * ((nx + 1) / 2)
  pub low_is : r.low ≡ (j + k * (ny / 2 + 1)) * (nx / 2 + 1)
  pub line_is : r.line ≡ nx / 2 + 1
  pub layer_is : r.layer ≡ (ny / 2 + 1) * (nx / 2 + 1)
  pub deep_is : r.deep ≡ (ny + 1) / 2 * ((nx + 1) / 2)
  pub corners : r.low + r.n + r.line + r.layer + 1 < 2 ^ 32
  pub centres : r.centre + r.n + r.n + r.deep + 1 < 2 ^ 32

-- the cells of a row of centres, of a layer, and of all, by the numbers of their vertices
abbrev pub cells_at : Pos → ℕ → ℕ → ℕ → List ℕ
cells_at d k j i = flat (index_of d) (centre_cells d (doubled 1 (pos i j k)))

abbrev pub row_cells : Pos → ℕ → ℕ → List ℕ
row_cells d k j = run (odds d ax) (cells_at d k j) 0

abbrev pub layer_cells : Pos → ℕ → List ℕ
layer_cells d k = run (odds d ay) (row_cells d k) 0

abbrev pub all_cells : Pos → List ℕ
all_cells d = run (odds d az) (layer_cells d) 0

-- layer k of centres
pub record InLayer (nx ny nz k : ℕ) : Type 0 where
  pub dims : Dims nx ny nz
  pub k_in : k < odds (pos nx ny nz) az

-- and row j of it
pub record InRow (nx ny nz k j : ℕ) : Type 0 where
  pub layer : InLayer nx ny nz k
  pub j_in : j < odds (pos nx ny nz) ay

-- ---- the vertices

-- a row of n, a layer of m rows, and a box of l layers
abbrev pub row_of : (Axis → ℕ → ℕ) → (e n k j : ℕ) → List ℕ
row_of g e n k j = run n (λ i. g ax (2 * i + e) ∷ g ay (2 * j + e) ∷ g az (2 * k + e) ∷ []) 0

abbrev pub layer_of : (Axis → ℕ → ℕ) → (e n m k : ℕ) → List ℕ
layer_of g e n m k = run m (row_of g e n k) 0

abbrev pub box_of : (Axis → ℕ → ℕ) → (e n m l : ℕ) → List ℕ
box_of g e n m l = run l (layer_of g e n m) 0

-- the vertices of a plan as a table
abbrev pub vertices_of : (Axis → ℕ → ℕ) → Plan → List ℕ
vertices_of g p = spread g (lattice_vertices (dims_of p))

pub record BothRoom (t p : List ℕ) (at : ℕ) (lt lp : List ℕ) : Type 0 where
  pub triples : Room t at lt
  pub points : Room p at lp

pub record BothStored (t p : List ℕ) (at : ℕ) (lt lp : List ℕ) (r : ℕ) (t' p' : List ℕ) : Type 0 where
  pub triples : Stored t at lt r t'
  pub points : Stored p at lp r p'
