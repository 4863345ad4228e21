-- What the vertices and numbers of a grid mean. Assumes nothing.
use mathlib.Core.Path.{◌≡◌, refl, ap, ◌∙◌}
use mathlib.Core.Logic.{◌⊎◌, inl, inr, ◌≢◌}
use mathlib.Core.Bool.{true, false, ◌||◌}
use mathlib.Core.List.{List, [], ◌∷◌, map}
use Prim.Native.Nat.{ℕ, zero, suc, ◌≤◌, ◌<◌}
use native.Mathlib.Omega.{arith}
use borrow.Author.Tests.{lt-ltb}
use lib.ListN.{length, get_or, length-map}
use Rattle.sorting.specs.Entries.{many}
use Rattle.sorting.specs.Numbers.{cnt, SameSet, rank}
use Rattle.lists.specs.Tables.{all_below}
use Rattle.lists.proofs.Cases.{lt_or}
use Rattle.sorting.proofs.Counting.{hit_self, cnt_at, cnt_find}
use Rattle.lists.proofs.Lent.{below_at}
use Rattle.lists.proofs.Listing.{map_at}
use Rattle.space.specs.Space.{ax, ay, az, Pos, pos}
use Rattle.octants.specs.Table.{read}
use Rattle.octree_cells.specs.Cells.{Cell, cells, flat}
use Rattle.octree_cells.specs.Vertices.{names}
use Rattle.vertex_keys.specs.Keys.{most_keys, key_of, triple_of, Packs, Before}
use Rattle.sorting.proofs.Members.{members}
use Rattle.sorting.proofs.Ranks.{number_of, distinct_strict}
use Rattle.vertex_keys.proofs.Packing.{key_small, key_order, key_triple, triple_key}
use Rattle.sides.specs.Parts.{Taken, cells_in}
use Rattle.octree.specs.Parts.{roots_of}
use Rattle.octree.specs.declared.Roots.{Roots}
use Rattle.plan.specs.Vertices.{roots_in}
use Rattle.leaf_cells.proofs.Bounds.{far, near_packs, cells_near}
use Rattle.plan.specs.declared.Plan.{Plan}
use Rattle.lattice.specs.Lattice.{lattice_cells, lattice_vertices, LatticeVertex, index_of}
use Rattle.plan.specs.Vertices.{dims_of}
use Rattle.lattice.proofs.Named.{Each, named, listed, cells_vertices}
use Rattle.grid.specs.Grid.{grid_cells, grid_vertices, vertex_keys, vertex_number, cell_table}
use Rattle.grid.specs.Step.{vertex_count}
use Rattle.grid.specs.Whole.{corners_of}
use Rattle.lists.proofs.Bools.{neither}

-- ---- of every vertex of some cells

each_map : (R S : Pos → Type 0) → ((q : Pos) → R q → S q) → (D : List Cell) → Each R D → Each S D
each_map R S f [] e = tt
each_map R S f (c ∷ D) e = (f c.c0 e.0, f c.c1 e.1, f c.c2 e.2, f c.c3 e.3, each_map R S f D e.4)

below_each : (f : Pos → ℕ) (n : ℕ) (D : List Cell) → Each (λ q. f q < n) D → all_below n (flat f D) ≡ true
unfolding flat all_below
below_each f n [] e = refl
below_each f n (c ∷ D) e = rw (lt-ltb _ _ e.0, lt-ltb _ _ e.1, lt-ltb _ _ e.2, lt-ltb _ _ e.3) (below_each f n D e.4)

names_each : (f : Pos → ℕ) (g : ℕ → Pos) (D : List Cell) → Each (λ q. g (f q) ≡ q) D → map g (flat f D) ≡ corners_of D
unfolding flat corners_of
names_each f g [] e = refl
names_each f g (c ∷ D) e = rw (e.0, e.1, e.2, e.3, names_each f g D e.4) refl

-- a vertex has a number below that of the vertices, and stands there among them
abbrev Stands : (Pos → ℕ) → List Pos → Pos → Type 0
Stands number vs q = (number q < length vs) × (get_or vs (number q) (pos 0 0 0) ≡ q)

-- ---- an octree

flat_map : (f : ℕ → ℕ) (g : Pos → ℕ) (D : List Cell) → flat (λ q. f (g q)) D ≡ map f (flat g D)
unfolding flat
flat_map f g [] = refl
flat_map f g (c ∷ D) = ap (λ (t : List ℕ). f (g c.c0) ∷ f (g c.c1) ∷ f (g c.c2) ∷ f (g c.c3) ∷ t) (flat_map f g D)

-- no coordinate of a cell is out of its field
packs_each : (D : List Cell) → names far D ≡ false → Each Packs D
unfolding names
packs_each [] e = tt
packs_each (c ∷ D) e =
    let r = neither (far c.c0 || far c.c1 || far c.c2 || far c.c3) (names far D) e in
    let r3 = neither (far c.c0 || far c.c1 || far c.c2) (far c.c3) r.0 in
    let r2 = neither (far c.c0 || far c.c1) (far c.c2) r3.0 in
    let r1 = neither (far c.c0) (far c.c1) r2.0 in
    (near_packs c.c0 r1.0, near_packs c.c1 r1.1, near_packs c.c2 r2.1, near_packs c.c3 r3.1, packs_each D r.1)

-- the keys of the vertices are exactly those of the cells
pub vertices_exactly : (l : ℕ) (d : Pos) (s : List ℕ) → SameSet (flat key_of (cells l d (read d l s))) (vertex_keys l d s)
unfolding vertex_keys
vertices_exactly l d s = members (flat key_of (cells l d (read d l s)))

module _ (s : List ℕ) (r : Roots) (h : Taken s r) where
  abbrev l : ℕ
  l = r.levels

  abbrev d : Pos
  d = roots_of r

  abbrev C : List Cell
  C = cells l d (read d l s)

  abbrev K : List ℕ
  K = vertex_keys l d s

  packs_all : Each Packs (cells_in s r)
  packs_all = packs_each C (cells_near s r h)

  key_stands : (q : Pos) → Packs q → 0 < cnt (key_of q) (flat key_of (cells_in s r))
      → Stands (λ x. rank (key_of x) (vertex_keys r.levels (roots_of r) s)) (map triple_of (vertex_keys r.levels (roots_of r) s)) q
  unfolding vertex_keys
  key_stands q p c =
      let f = number_of (key_of q) (flat key_of C) c in
      (omega (arith, f.0, length-map K triple_of), map_at triple_of K 0 (pos 0 0 0) (rank (key_of q) K) f.0 ∙ ap triple_of f.1 ∙ triple_key q p)

  octree_stands : (D : List Cell) → ((x : ℕ) → 0 < cnt x (flat key_of D) → 0 < cnt x (flat key_of (cells_in s r))) → Each Packs D
      → Each (Stands (λ x. rank (key_of x) (vertex_keys r.levels (roots_of r) s)) (map triple_of (vertex_keys r.levels (roots_of r) s))) D
  unfolding flat many
  octree_stands [] a e = tt
  octree_stands (c ∷ D) a e = (
    key_stands c.c0 e.0 (a (key_of c.c0) (omega (arith, hit_self (key_of c.c0)))),
    key_stands c.c1 e.1 (a (key_of c.c1) (omega (arith, hit_self (key_of c.c1)))),
    key_stands c.c2 e.2 (a (key_of c.c2) (omega (arith, hit_self (key_of c.c2)))),
    key_stands c.c3 e.3 (a (key_of c.c3) (omega (arith, hit_self (key_of c.c3)))),
    octree_stands D (λ x g. a x (omega arith)) e.4,
  )

  -- a vertex is that of a cell
  key_counted : (j : ℕ) → j < length (vertex_keys r.levels (roots_of r) s) → 0 < cnt (get_or (vertex_keys r.levels (roots_of r) s) j 0) (flat key_of (cells_in s r))
  key_counted j b = omega (arith, cnt_at K j b, vertices_exactly l d s (get_or K j 0))

  key_packs : (j : ℕ) → j < length (vertex_keys r.levels (roots_of r) s) → Packs (triple_of (get_or (vertex_keys r.levels (roots_of r) s) j 0))
  key_packs j b = go
    where
      small : get_or K j 0 < most_keys
      small =
          let f = cnt_find (get_or K j 0) (flat key_of C) (key_counted j b) in
          let a = below_each key_of most_keys C (each_map Packs (λ q. key_of q < most_keys) key_small C packs_all) in
          omega (arith, below_at most_keys (flat key_of C) a f.0 f.1, f.2)

      go : Packs (triple_of (get_or K j 0))
      go ax = omega (arith, small)
      go ay = omega arith
      go az = omega arith

  key_strict : (i j : ℕ) → i < j → j < length (vertex_keys r.levels (roots_of r) s) → get_or (vertex_keys r.levels (roots_of r) s) i 0 < get_or (vertex_keys r.levels (roots_of r) s) j 0
  unfolding vertex_keys
  key_strict = distinct_strict (flat key_of C)

  -- the vertices rise by x, then y, then z
  keys_rise : (i j : ℕ) → i < j → j < length (map triple_of (vertex_keys r.levels (roots_of r) s))
      → Before (get_or (map triple_of (vertex_keys r.levels (roots_of r) s)) i (pos 0 0 0)) (get_or (map triple_of (vertex_keys r.levels (roots_of r) s)) j (pos 0 0 0))
  keys_rise i j ij b =
      let x : ℕ = get_or K i 0 in
      let y : ℕ = get_or K j 0 in
      let bj : j < length K = omega (arith, length-map K triple_of) in
      let bi : i < length K = omega arith in
      rw (map_at triple_of K 0 (pos 0 0 0) i bi, map_at triple_of K 0 (pos 0 0 0) j bj)
      ((key_order (triple_of x) (key_packs i bi) (triple_of y) (key_packs j bj)).0 (omega (arith, key_triple x, key_triple y, key_strict i j ij bj)))

  -- a key's number is its place
  key_rank : (j : ℕ) → j < length (vertex_keys r.levels (roots_of r) s) → rank (get_or (vertex_keys r.levels (roots_of r) s) j 0) (vertex_keys r.levels (roots_of r) s) ≡ j
  unfolding vertex_keys
  key_rank j b = go (lt_or k j) (lt_or j k)
    where
      n : (rank (get_or K j 0) K < length K) × (get_or K (rank (get_or K j 0) K) 0 ≡ get_or K j 0)
      n = number_of (get_or K j 0) (flat key_of C) (key_counted j b)

      k : ℕ
      k = rank (get_or K j 0) K

      go : (k < j) ⊎ (j ≤ k) → (j < k) ⊎ (k ≤ j) → rank (get_or K j 0) K ≡ j
      go (inl u) w = absurd (omega (arith, n.1, key_strict k j u b))
      go (inr u) (inl w) = absurd (omega (arith, n.1, key_strict j k w n.0))
      go (inr u) (inr w) = omega arith

  -- each vertex is named by a cell
  keys_used : (j : ℕ) → j < length (map triple_of (vertex_keys r.levels (roots_of r) s))
      → (k : ℕ) × (k < length (flat (λ q. rank (key_of q) (vertex_keys r.levels (roots_of r) s)) (cells_in s r)))
      × (get_or (flat (λ q. rank (key_of q) (vertex_keys r.levels (roots_of r) s)) (cells_in s r)) k 0 ≡ j)
  keys_used j b =
      let f : (ℕ → ℕ) = λ x. rank x K in
      let bj : j < length K = omega (arith, length-map K triple_of) in
      let y = cnt_find (get_or K j 0) (flat key_of C) (key_counted j bj) in
      let e = flat_map f key_of C in
      (y.0, rw e (omega (arith, y.1, length-map (flat key_of C) f)), rw e (map_at f (flat key_of C) 0 0 y.0 y.1 ∙ ap f y.2 ∙ key_rank j bj))

before_differs : (p q : Pos) → Before p q → p ≢ q
before_differs p q (inl x) e = omega (arith, ap (λ (r : Pos). r ax) e)
before_differs p q (inr (x, inl y)) e = omega (arith, ap (λ (r : Pos). r ay) e)
before_differs p q (inr (x, inr (y, z))) e = omega (arith, ap (λ (r : Pos). r az) e)

-- ---- octree or lattice

module _ (s : List ℕ) (nx ny nz : ℕ) where
  abbrev o : Pos
  o = pos 0 0 0

  abbrev over : ℕ → Roots
  over l = record { nx = nx; ny = ny; nz = nz; levels = l }

  all_stand : (l : ℕ) → (1 ≤ l → Taken s (record { nx = nx; ny = ny; nz = nz; levels = l })) → Each (Stands (vertex_number l (pos nx ny nz) s) (grid_vertices l (pos nx ny nz) s)) (grid_cells l (pos nx ny nz) s)
  unfolding vertex_number grid_vertices grid_cells
  all_stand zero g =
      let e : Pos = pos nx ny nz in
      each_map (LatticeVertex e) (Stands (index_of e) (lattice_vertices e)) (named e o) (lattice_cells e) (cells_vertices e)
  all_stand (suc l) g =
      let t = g (omega arith) in
      octree_stands s (over (suc l)) t (cells (suc l) (pos nx ny nz) (read (pos nx ny nz) (suc l) s)) (λ x a. a) (packs_all s (over (suc l)) t)

  rise_at : (l : ℕ) → Taken s (record { nx = nx; ny = ny; nz = nz; levels = l }) → (i j : ℕ) → i < j → j < length (grid_vertices l (pos nx ny nz) s)
      → Before (get_or (grid_vertices l (pos nx ny nz) s) i (pos 0 0 0)) (get_or (grid_vertices l (pos nx ny nz) s) j (pos 0 0 0))
  unfolding grid_vertices
  rise_at zero t = absurd (omega (arith, t.some))
  rise_at (suc l) t = keys_rise s (over (suc l)) t

  used_at : (l : ℕ) → Taken s (record { nx = nx; ny = ny; nz = nz; levels = l }) → (j : ℕ) → j < length (grid_vertices l (pos nx ny nz) s)
      → (k : ℕ) × (k < length (flat (vertex_number l (pos nx ny nz) s) (grid_cells l (pos nx ny nz) s))) × (get_or (flat (vertex_number l (pos nx ny nz) s) (grid_cells l (pos nx ny nz) s)) k 0 ≡ j)
  unfolding vertex_number grid_vertices grid_cells
  used_at zero t = absurd (omega (arith, t.some))
  used_at (suc l) t = keys_used s (over (suc l)) t

  once_at : (l : ℕ) → (1 ≤ l → Taken s (record { nx = nx; ny = ny; nz = nz; levels = l })) → (i j : ℕ) → i < j → j < length (grid_vertices l (pos nx ny nz) s)
      → get_or (grid_vertices l (pos nx ny nz) s) i (pos 0 0 0) ≢ get_or (grid_vertices l (pos nx ny nz) s) j (pos 0 0 0)
  unfolding grid_vertices
  once_at zero g i j ij b e =
      let c : Pos = pos nx ny nz in
      omega (arith, ap (index_of c) e, (listed c o i (omega arith)).1, (listed c o j b).1)
  once_at (suc l) g i j ij b e = before_differs _ _ (keys_rise s (over (suc l)) (g (omega arith)) i j ij b) e

module _ (p : Plan) (s : List ℕ) (h : 1 ≤ p.levels → Taken s (roots_in p)) where
  abbrev vs : List Pos
  vs = grid_vertices p.levels (dims_of p) s

  abbrev number : Pos → ℕ
  number = vertex_number p.levels (dims_of p) s

  abbrev cs : List Cell
  cs = grid_cells p.levels (dims_of p) s

  -- each cell's numbers name its vertices
  pub cells_name : map (λ r. get_or (grid_vertices p.levels (dims_of p) s) r (pos 0 0 0)) (cell_table p s) ≡ corners_of (grid_cells p.levels (dims_of p) s)
  unfolding cell_table
  cells_name = names_each number (λ r. get_or vs r (pos 0 0 0)) cs (each_map (Stands number vs) _ (λ q r. r.1) cs (all_stand s p.nx p.ny p.nz p.levels h))

  -- and are below the number of vertices
  pub cells_below : all_below (vertex_count p s) (cell_table p s) ≡ true
  unfolding cell_table
  cells_below = below_each number (length vs) cs (each_map (Stands number vs) _ (λ q r. r.0) cs (all_stand s p.nx p.ny p.nz p.levels h))

  -- no vertex stands twice
  pub vertices_once : (i j : ℕ) → i < j → j < vertex_count p s
      → get_or (grid_vertices p.levels (dims_of p) s) i (pos 0 0 0) ≢ get_or (grid_vertices p.levels (dims_of p) s) j (pos 0 0 0)
  vertices_once = once_at s p.nx p.ny p.nz p.levels h

  module _ (g : 1 ≤ p.levels) where
    -- an octree's vertices rise by x, then y, then z
    pub vertices_rise : (i j : ℕ) → i < j → j < vertex_count p s
        → Before (get_or (grid_vertices p.levels (dims_of p) s) i (pos 0 0 0)) (get_or (grid_vertices p.levels (dims_of p) s) j (pos 0 0 0))
    vertices_rise = rise_at s p.nx p.ny p.nz p.levels (h g)

    -- and a cell names each of them
    pub vertices_used : (j : ℕ) → j < vertex_count p s → (k : ℕ) × (k < length (cell_table p s)) × (get_or (cell_table p s) k 0 ≡ j)
    unfolding cell_table
    vertices_used = used_at s p.nx p.ny p.nz p.levels (h g)
