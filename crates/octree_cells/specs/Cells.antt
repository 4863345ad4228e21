-- The cells of an octree grid, as section 4 of the rules and the Rust's leaf_cells have them, on integer triples. Assumes nothing: these are
-- definitions. The Rust's names: width, corner, center, face_corners, face_center, covering_leaf, has_finer_vertex, leaf_cells, leaves.
use Rattle.std.specs.Prelude.{Bool, true, false, cond, not, ◌&&◌, List, [], ◌∷◌, ◌++◌, ℕ, zero, suc, ◌+◌, ◌*◌, ◌-◌, ◌/◌, ◌%◌, ◌^◌, eqb, ltb, leb}
use Rattle.space.specs.Space.{frame, Axis, ax, ay, az, Pos, pos}
use Rattle.lists.specs.Tests.{any}
use Rattle.octants.specs.Oct.{Tree, counts, within, width}

-- points, in units of half a finest octant
abbrev pub corner : ℕ → Pos → Pos → Pos
corner m x o = λ k. (x k + o k) * width m

abbrev pub centre : ℕ → Pos → Pos
centre m x = λ k. x k * width m + width m / 2

abbrev pub middle : Pos → Pos → Pos
middle p q = λ k. (p k + q k) / 2

abbrev pub same : Pos → Pos → Bool
same p q = eqb (p ax) (q ax) && eqb (p ay) (q ay) && eqb (p az) (q az)

-- four points around a face; a cell
pub record Face : Type 0 where
  pub p0 : Pos
  pub p1 : Pos
  pub p2 : Pos
  pub p3 : Pos

pub record Cell : Type 0 where
  pub c0 : Pos
  pub c1 : Pos
  pub c2 : Pos
  pub c3 : Pos

abbrev pub cell : Pos → Pos → Pos → Pos → Cell
cell p q r s = record { c0 = p; c1 = q; c2 = r; c3 = s }

-- a side of an axis: the negative or the positive one
abbrev pub end : Bool → ℕ
end false = 0
end true = 1

-- the face of an octant on a side of an axis, walked as (0,0), (1,0), (1,1), (0,1)
abbrev pub face : ℕ → Pos → Axis → Bool → Face
face m x a s = record {
  p0 = corner m x (frame a (end s) 0 0);
  p1 = corner m x (frame a (end s) 1 0);
  p2 = corner m x (frame a (end s) 1 1);
  p3 = corner m x (frame a (end s) 0 1);
}

abbrev pub face_centre : Face → Pos
face_centre f = middle f.p0 f.p2

-- the face from another of its points on
abbrev pub turned : ℕ → Face → Face
turned zero f = f
turned (suc n) f = turned n (record { p0 = f.p1; p1 = f.p2; p2 = f.p3; p3 = f.p0 })

-- where a point stands in a face; 0 where it does not
abbrev pub turns_to : Pos → Face → ℕ
turns_to v f = cond (same f.p0 v) 0 (cond (same f.p1 v) 1 (cond (same f.p2 v) 2 (cond (same f.p3 v) 3 0)))

-- the ancestor k levels up
abbrev pub up : ℕ → Pos → Pos
up k x = λ a. x a / 2 ^ k

-- the leaf that covers an octant: its level and place; none where the octant is split or out of range
pub data Cover : Type 0 where
  none : Cover
  leaf : ℕ → Pos → Cover

-- covering_leaf's descent: from k levels above y, of level m, down to y
unfoldable pub descent : Tree → ℕ → Pos → ℕ → Cover
descent t m y zero = cond (t m y) none (leaf m y)
descent t m y (suc k) = cond (t (m + suc k) (up (suc k) y)) (descent t m y k) (leaf (m + suc k) (up (suc k) y))

abbrev pub covering : ℕ → Pos → Tree → ℕ → Pos → Cover
covering l d t m y = cond (within (counts l d m) y) (descent t m y (l - m)) none

-- whether what covers is of this level
abbrev pub of_level : ℕ → Cover → Bool
of_level m none = false
of_level m (leaf n z) = eqb n m

abbrev pub is_leaf : ℕ → Pos → Tree → ℕ → Pos → Bool
is_leaf l d t m y = of_level m (covering l d t m y)

abbrev pub at_most : Pos → Pos → Bool
at_most o b = leb (o ax) (b ax) && leb (o ay) (b ay) && leb (o az) (b az)

-- the octant of level m whose corner o stands at m's place b is a leaf
abbrev pub leaf_at : ℕ → Pos → Tree → ℕ → Pos → Pos → Bool
leaf_at l d t m b o = at_most o b && is_leaf l d t m (λ a. b a - o a)

abbrev pub on_grid : ℕ → Pos → Bool
on_grid w v = eqb (v ax % w) 0 && eqb (v ay % w) 0 && eqb (v az % w) 0

-- one of the eight octants of level m around its place b is a leaf
abbrev pub leaf_around : ℕ → Pos → Tree → ℕ → Pos → Bool
leaf_around l d t m b = any 2 (λ k. any 2 (λ j. any 2 (λ i. leaf_at l d t m b (pos i j k))))

-- has_finer_vertex: a leaf of the level below m has a corner at v
unfoldable pub finer : ℕ → Pos → Tree → ℕ → Pos → Bool
finer l d t zero v = false
finer l d t (suc m) v = on_grid (width m) v && leaf_around l d t m (λ k. v k / width m)

-- the next octant on a side of an axis, and whether there is one
abbrev pub stepped : Bool → ℕ → ℕ
stepped false n = n - 1
stepped true n = n + 1

abbrev pub beside : Axis → Bool → Pos → Pos
beside ax s x = pos (stepped s (x ax)) (x ay) (x az)
beside ay s x = pos (x ax) (stepped s (x ay)) (x az)
beside az s x = pos (x ax) (x ay) (stepped s (x az))

abbrev pub reaches : ℕ → Bool → ℕ → Bool
reaches n false i = ltb 0 i
reaches n true i = ltb (i + 1) n

-- what stands beside a leaf
pub data Side : Type 0 where
  split : Side
  equal : Side
  coarser : ℕ → Pos → Side
  border : Side

abbrev pub covered_by : ℕ → Cover → Side
covered_by m none = border
covered_by m (leaf n z) = cond (eqb n m) equal (coarser n z)

unfoldable pub side : ℕ → Pos → Tree → ℕ → Pos → Axis → Bool → Side
side l d t m x a s =
    cond (reaches (counts l d m a) s (x a))
    (cond (t m (beside a s x)) split (covered_by m (descent t m (beside a s x) (l - m))))
    border

-- the cells over an edge a, b between p and q: two where a finer vertex stands at its midpoint
unfoldable pub over : (Pos → Bool) → Pos → Pos → Pos → Pos → List Cell
over fine p q a b =
    cond (fine (middle a b)) (cell p q a (middle a b) ∷ cell p q (middle a b) b ∷ []) (cell p q a b ∷ [])

unfoldable pub fan : (Pos → Bool) → Pos → Pos → Face → List Cell
fan fine p q f =
    over fine p q f.p0 f.p1 ++ over fine p q f.p1 f.p2 ++ over fine p q f.p2 f.p3 ++ over fine p q f.p3 f.p0

-- two half-pyramids
unfoldable pub halves : Pos → Face → List Cell
halves c f = cell c f.p0 f.p1 f.p2 ∷ cell c f.p0 f.p2 f.p3 ∷ []

-- the cells that a leaf gives at a face, by what stands beside it: rules 4.4, 4.5, 4.7 and 4.8
unfoldable pub cells_to : (Pos → Bool) → ℕ → Pos → Axis → Bool → Side → List Cell
cells_to fine m x a s split = fan fine (face_centre (face m x a s)) (centre m x) (face m x a s)
cells_to fine m x a false equal = []
cells_to fine m x a true equal = fan fine (centre m x) (centre m (beside a true x)) (face m x a true)
cells_to fine m x a s (coarser n z) = halves (centre m x) (turned (turns_to (face_centre (face n z a (not s))) (face m x a s)) (face m x a s))
cells_to fine m x a s border = halves (centre m x) (face m x a s)

abbrev pub face_cells : ℕ → Pos → Tree → ℕ → Pos → Axis → Bool → List Cell
face_cells l d t m x a s = cells_to (finer l d t m) m x a s (side l d t m x a s)

abbrev pub axis_cells : ℕ → Pos → Tree → ℕ → Pos → Axis → List Cell
axis_cells l d t m x a = face_cells l d t m x a false ++ face_cells l d t m x a true

unfoldable pub leaf_cells : ℕ → Pos → Tree → ℕ → Pos → List Cell
leaf_cells l d t m x = axis_cells l d t m x ax ++ axis_cells l d t m x ay ++ axis_cells l d t m x az

-- f (n - 1), …, f 0
unfoldable pub down : {A : Type 0} → ℕ → (ℕ → List A) → List A
down zero f = []
down (suc n) f = f n ++ down n f

-- a box of places, descending by z, then y, then x
unfoldable pub box_down : {A : Type 0} → Pos → (Pos → List A) → List A
box_down n f = down (n az) (λ k. down (n ay) (λ j. down (n ax) (λ i. f (pos i j k))))

abbrev pub two : Pos
two = pos 2 2 2

abbrev pub child : Pos → Pos → Pos
child x o = pos (2 * x ax + o ax) (2 * x ay + o ay) (2 * x az + o az)

-- what the leaves below an octant give, one after the other
unfoldable pub below : {A : Type 0} → Tree → (ℕ → Pos → List A) → ℕ → Pos → List A
below t f zero x = f zero x
below t f (suc m) x = cond (t (suc m) x) (box_down two (λ o. below t f m (child x o))) (f (suc m) x)

-- over all leaves: roots descending by z, then y, then x; below a split octant the children from (1, 1, 1) down to (0, 0, 0)
abbrev pub over_leaves : {A : Type 0} → ℕ → Pos → Tree → (ℕ → Pos → List A) → List A
over_leaves l d t f = box_down d (below t f l)

-- all cells
abbrev pub cells : ℕ → Pos → Tree → List Cell
cells l d t = over_leaves l d t (leaf_cells l d t)

-- the cells' vertices under a naming, four to a cell
unfoldable pub flat : (Pos → ℕ) → List Cell → List ℕ
flat f [] = []
flat f (c ∷ cs) = f c.c0 ∷ f c.c1 ∷ f c.c2 ∷ f c.c3 ∷ flat f cs
