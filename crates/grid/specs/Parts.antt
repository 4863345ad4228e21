-- What the parts of the code ask and give.
use Rattle.std.specs.Prelude.{◌≡◌, cond, List, [], ◌∷◌, ℕ, ◌+◌, ◌*◌, ◌≤◌, ◌<◌, length, get_or, take, drop, replicate, Result, Err}
use Rattle.lists.specs.Runs.{run}
use Rattle.space.specs.Space.{Axis, ax, ay, az}
use Rattle.space.specs.Levels.{most_octants}
use Rattle.vertex_keys.specs.Keys.{most_keys, triple_of}
use Rattle.vertex_keys.specs.Parts.{Lookup}
use Rattle.plan.specs.declared.Plan.{Plan}
use Rattle.plan.specs.Vertices.{roots_in}
use Rattle.octree.specs.Parts.{roots_of}
use Rattle.octree.specs.declared.Roots.{Roots}
use Rattle.sides.specs.Parts.{Taken}
use Rattle.leaves.specs.Parts.{leaves_in}
use Rattle.grid.specs.Grid.{vertex_keys, cell_table, triple_table, point_table}
use Rattle.grid.specs.Step.{cell_count, vertex_count, lacks_vertices, so_many, result_after}
use Rattle.grid.specs.declared.Gridded.{Gridded}
use Rattle.grid.specs.declared.GridError.{GridError}
use Rattle.grid.specs.declared.GridError.TheVariants.{NoVertices}

-- three entries of a key's triple
unfoldable pub three_of : (Axis → ℕ → ℕ) → ℕ → List ℕ
three_of g k = g ax (triple_of k ax) ∷ g ay (triple_of k ay) ∷ g az (triple_of k az) ∷ []

-- those of the first v keys
abbrev pub key_table : (Axis → ℕ → ℕ) → ℕ → List ℕ → List ℕ
key_table g v w = run v (λ i. three_of g (get_or w i 0)) 0

-- v keys, and room for their vertices
pub record KeysFit (w : List ℕ) (v : ℕ) (triples points : List ℕ) : Type 0 where
  pub there : v ≤ length w
  pub small : (i : ℕ) → i < v → get_or w i 0 < most_keys
  pub triple_room : 3 * v ≤ length triples
  pub point_room : 3 * v ≤ length points

-- a split table whose grid is to be numbered, with so many leaves, and work for 10 entries a leaf and one more
pub record Numberable (s : List ℕ) (d : Roots) (n : ℕ) (w : List ℕ) : Type 0 where
  pub taken : Taken s d
  pub octants : length s ≤ most_octants
  pub leaves : n ≡ length (leaves_in s d)
  pub room : 10 * n < length w

-- the work once the vertices are numbered: their keys and the index of these in front, and the list of leaves behind the room for them
pub record Ready (s : List ℕ) (d : Roots) (n : ℕ) (w : List ℕ) (v : ℕ) : Type 0 where
  pub lookup : Lookup w v
  pub keys : take v w ≡ vertex_keys d.levels (roots_of d) s
  pub small : (i : ℕ) → i < v → get_or w i 0 < most_keys
  pub list : take n (drop (9 * n + 1) w) ≡ leaves_in s d

-- an octree whose work is lent whole and whose cells have just the room
pub record Fillable (p : Plan) (s : List ℕ) (n : ℕ) (C w : List ℕ) : Type 0 where
  pub some : 1 ≤ p.levels
  pub numberable : Numberable s (roots_in p) n w
  pub cells : length C ≡ 4 * cell_count p s

-- stored where there is room for the vertices, and the work left zero
pub record Stocked (p : Plan) (s C T P w : List ℕ) (r : Result Gridded GridError) (C' T' P' w' : List ℕ) : Type 0 where
  pub answer :
      r ≡ cond (lacks_vertices (vertex_count p s) (length T) (length P)) (Err (NoVertices (cell_count p s) (vertex_count p s))) (so_many (cell_count p s) (vertex_count p s))
  pub cells : C' ≡ result_after r (cell_table p s) C
  pub triples : T' ≡ result_after r (triple_table p s) T
  pub points : P' ≡ result_after r (point_table p s) P
  pub work : w' ≡ replicate (length w) 0
