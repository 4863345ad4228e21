-- A grid that the step grid stores can be handed to every step over a mesh: it has not too many cells and vertices, and no coordinate is beyond 4,096.
-- Assumes nothing.
use mathlib.Core.Path.{◌≡◌, refl, sym, ap, subst, ◌∙◌}
use mathlib.Core.Logic.{◌⊎◌, inl, inr, ◌≢◌}
use mathlib.Core.Bool.{false, ◌||◌}
use mathlib.Core.List.{List, [], ◌∷◌}
use Prim.Native.Nat.{ℕ, zero, suc, ◌+◌, ◌*◌, ◌-◌, ◌/◌, ◌^◌, ◌≤◌, ◌<◌}
use native.Mathlib.Nat.{not-suc-le-zero, mul-le-mul}
use native.Mathlib.Omega.{arith}
use lib.Ieee.{Float}
use lib.ListN.{length, get_or, length-map}
use Rattle.lists.proofs.Bools.{neither}
use Rattle.lists.proofs.Cases.{eq_or}
use Rattle.space.specs.Space.{Axis, ax, ay, az, Pos, pos}
use Rattle.refusals.specs.Rows.{first}
use Rattle.sorting.specs.Numbers.{distinct_sorted}
use Rattle.sorting.proofs.Members.{distinct_short, same_distinct}
use Rattle.plan.specs.Step.{plan_of}
use Rattle.plan.proofs.Ready.{ready, ready_levels}
use Rattle.plan.specs.declared.Bounds.{Bounds}
use Rattle.plan.specs.declared.Plan.{Plan}
use Rattle.plan.specs.declared.Planned.TheVariants as planned
use Rattle.space.specs.Levels.{size}
use Rattle.octants.specs.Table.{read}
use Rattle.octree_cells.specs.Cells.{Cell, cells, flat, down, box_down, over_leaves, leaf_cells}
use Rattle.octree_cells.specs.Vertices.{names, leaf_points}
use Rattle.octree.specs.declared.Roots.{Roots}
use Rattle.sides.specs.Parts.{Taken}
use Rattle.leaves.proofs.Lines.{leaves_bound}
use Rattle.leaves.proofs.Walking.{leaf_few}
use Rattle.vertex_keys.specs.Keys.{key_of, triple_of}
use Rattle.leaf_cells.specs.Parts.{keys_of, leaf_keys}
use Rattle.leaf_cells.proofs.Bounds.{far, near_low, cells_near}
use Rattle.leaf_cells.proofs.Leafwise.{same_vertices}
use Rattle.grid.specs.Grid.{grid_cells, grid_vertices, vertex_keys}
use Rattle.grid.specs.Step.{GridDone, so_many, split_rows}
use Rattle.plan.specs.Vertices.{roots_in}
use Rattle.grid.specs.Whole.{three_at, corners_of, Whole}
use Rattle.grid.specs.declared.Gridded.{Gridded}
use Rattle.grid.specs.declared.GridError.{GridError}
use Rattle.std.specs.Prelude.{Result}
use Rattle.grid.proofs.Octrees.{places_few}
use Rattle.grid.proofs.WaysOut.{short_table, taken}
use Rattle.grid.proofs.Whole.{split_taken}
use Rattle.tiling.proofs.Tables.{entry}
use Rattle.tiling.proofs.Theorems.{whole, stored, room, stand}

-- ---- an octree: at most 48 cells and nine vertices a leaf

module _ (s : List ℕ) (nx ny nz : ℕ) (short : length s ≤ 1048576) where
  abbrev d : Pos
  d = pos nx ny nz

  abbrev roots : ℕ → Roots
  roots l = record { nx = nx; ny = ny; nz = nz; levels = l }

  finest_few : (l : ℕ) → Taken s (roots l) → size (pos nx ny nz) * 8 ^ l ≤ 8388608
  finest_few l h = omega (arith, places_few d l h.some, h.covers.octants)

  cells_few : (l : ℕ) → Taken s (roots l) → length (grid_cells l (pos nx ny nz) s) ≤ 402653184
  unfolding grid_cells
  cells_few zero h = absurd (omega (arith, h.some))
  cells_few (suc l) h =
      let t = read d (suc l) s in
      omega (arith, leaves_bound t (leaf_cells (suc l) d t) 48 (leaf_few s (roots (suc l)) h) (suc l) d, finest_few (suc l) h)

  keys_long : (ps : List Pos) → length (keys_of ps) ≡ length ps
  unfolding keys_of
  keys_long [] = refl
  keys_long (p ∷ ps) = ap suc (keys_long ps)

  nine : (m : ℕ) (x : Pos) → length (leaf_points m x) ≤ 9
  unfolding box_down down
  nine m x = omega arith

  vertices_few : (l : ℕ) → Taken s (roots l) → length (grid_vertices l (pos nx ny nz) s) ≤ 75497472
  unfolding grid_vertices vertex_keys
  vertices_few zero h = absurd (omega (arith, h.some))
  vertices_few (suc l) h =
      let t = read d (suc l) s in
      let K = leaf_keys (suc l) d t in
      omega (
        arith,
        length-map (distinct_sorted (flat key_of (cells (suc l) d t))) triple_of,
        ap length (same_distinct (flat key_of (cells (suc l) d t)) K (same_vertices s (roots (suc l)) h)),
        distinct_short K,
        keys_long (over_leaves (suc l) d t leaf_points),
        leaves_bound t leaf_points 9 nine (suc l) d,
        finest_few (suc l) h,
      )

  cells_low : (l : ℕ) → Taken s (roots l) → names far (grid_cells l (pos nx ny nz) s) ≡ false
  unfolding grid_cells
  cells_low zero h = absurd (omega (arith, h.some))
  cells_low (suc l) h = cells_near s (roots (suc l)) h

-- every corner of cells without a far one is near
corner_near : (D : List Cell) → names far D ≡ false → (i : ℕ) → i < 4 * length D → far (get_or (corners_of D) i (pos 0 0 0)) ≡ false
unfolding names corners_of
corner_near [] e i h = absurd (not-suc-le-zero h)
corner_near (c ∷ D) e i h = go (corner_near D r.1) i h
  where
    r : (far c.c0 || far c.c1 || far c.c2 || far c.c3 ≡ false) × (names far D ≡ false)
    r = neither (far c.c0 || far c.c1 || far c.c2 || far c.c3) (names far D) e

    r3 : (far c.c0 || far c.c1 || far c.c2 ≡ false) × (far c.c3 ≡ false)
    r3 = neither (far c.c0 || far c.c1 || far c.c2) (far c.c3) r.0

    r2 : (far c.c0 || far c.c1 ≡ false) × (far c.c2 ≡ false)
    r2 = neither (far c.c0 || far c.c1) (far c.c2) r3.0

    go : ((i : ℕ) → i < 4 * length D → far (get_or (corners_of D) i (pos 0 0 0)) ≡ false)
        → (i : ℕ) → i < 4 * suc (length D) → far (get_or (corners_of (c ∷ D)) i (pos 0 0 0)) ≡ false
    go ih zero h = (neither (far c.c0) (far c.c1) r2.0).0
    go ih (suc zero) h = (neither (far c.c0) (far c.c1) r2.0).1
    go ih (suc (suc zero)) h = r2.1
    go ih (suc (suc (suc zero))) h = r3.1
    go ih (suc (suc (suc (suc i)))) h = ih i (omega arith)

-- ---- a lattice

product_few : {a b c : ℕ} → a ≤ 65 → b ≤ 65 → c ≤ 65 → a * b * c ≤ 274625
product_few p q r = mul-le-mul (mul-le-mul p q) r

-- ---- the step

module _ {b : Bounds} {c : Float} {levels : ℕ} {s C T P w : List ℕ} {r : Result Gridded GridError} {C' T' P' w' : List ℕ} (g : GridDone b c levels s C T P w r C' T' P' w')
    (p : Plan) (made : plan_of b c levels ≡ planned.Ready p) (n v : ℕ) (done : r ≡ so_many n v) where
  accepted : first (split_rows p s) ≡ 0
  accepted = split_taken b c levels s C T P w g n v done p made

  is_taken : levels ≢ 0 → Taken s (roots_in p)
  is_taken o = taken b c levels p made s accepted o

  pub few_cells : n ≤ 536870912
  few_cells = go (eq_or levels 0)
    where
      go : (levels ≡ 0) ⊎ (levels ≢ 0) → n ≤ 536870912
      go (inl z) =
          let k = ready b c levels p made in
          let e = ((whole g p made n v done).lattice_counts (ready_levels b c levels p made ∙ z)).0 in
          omega (
            arith,
            e,
            product_few {a = (p.nx + 1) / 2 - 1} {b = p.ny / 2} {c = p.nz / 2} (omega (arith, k.dims.few ax)) (omega (arith, k.dims.few ay)) (omega (arith, k.dims.few az)),
            product_few {a = p.nx / 2} {b = (p.ny + 1) / 2 - 1} {c = p.nz / 2} (omega (arith, k.dims.few ax)) (omega (arith, k.dims.few ay)) (omega (arith, k.dims.few az)),
            product_few {a = p.nx / 2} {b = p.ny / 2} {c = (p.nz + 1) / 2 - 1} (omega (arith, k.dims.few ax)) (omega (arith, k.dims.few ay)) (omega (arith, k.dims.few az)),
          )
      go (inr o) =
          omega (arith, (whole g p made n v done).cells_all, cells_few s p.nx p.ny p.nz (short_table b c levels p made s accepted) p.levels (is_taken o))

  pub few_vertices : v ≤ 536870912
  few_vertices = go (eq_or levels 0)
    where
      go : (levels ≡ 0) ⊎ (levels ≢ 0) → v ≤ 536870912
      go (inl z) =
          let k = ready b c levels p made in
          let e = ((whole g p made n v done).lattice_counts (ready_levels b c levels p made ∙ z)).1 in
          omega (
            arith,
            e,
            product_few {a = p.nx / 2 + 1} {b = p.ny / 2 + 1} {c = p.nz / 2 + 1} (omega (arith, k.dims.few ax)) (omega (arith, k.dims.few ay)) (omega (arith, k.dims.few az)),
            product_few {a = (p.nx + 1) / 2} {b = (p.ny + 1) / 2} {c = (p.nz + 1) / 2} (omega (arith, k.dims.few ax)) (omega (arith, k.dims.few ay)) (omega (arith, k.dims.few az)),
          )
      go (inr o) =
          omega (arith, (whole g p made n v done).vertices_all, vertices_few s p.nx p.ny p.nz (short_table b c levels p made s accepted) p.levels (is_taken o))

  pub low_vertices : (j : ℕ) → j < v → (a : Axis) → three_at T' j a ≤ 4096
  low_vertices j h = go (eq_or levels 0)
    where
      W : Whole p s n v C' T' P'
      W = whole g p made n v done

      go : (levels ≡ 0) ⊎ (levels ≢ 0) → (a : Axis) → three_at T' j a ≤ 4096
      go (inl z) a =
          let k = (ready b c levels p made).dims in
          let q = ((W.lattice_vertices_lem (ready_levels b c levels p made ∙ z)).each j h a).0 in
          omega (arith, q, k.few a)
      go (inr o) a =
          let u = (W.octree_vertices (omega (arith, ready_levels b c levels p made))).used j h in
          let f = cells_low s p.nx p.ny p.nz (short_table b c levels p made s accepted) p.levels (is_taken o) in
          let i : u.0 < 4 * length (stored g p made n v done) = omega (arith, u.1, W.cells_all) in
          let e : three_at T' j ≡ get_or (corners_of (stored g p made n v done)) u.0 (pos 0 0 0) =
          ap (three_at T') (sym u.2) ∙ entry T' C' (stored g p made n v done) (room g p made n v done) (stand g p made n v done) u.0 i
          in
          subst (λ (q : Pos). q a ≤ 4096) (sym e) (near_low (get_or (corners_of (stored g p made n v done)) u.0 (pos 0 0 0)) (corner_near (stored g p made n v done) f u.0 i) a)
