-- The step grid stores the whole of a grid or nothing. Assumes nothing.
use mathlib.Core.Path.{◌≡◌, refl, sym, ap, subst, subst₂, ◌∙◌, fun_ext}
use mathlib.Core.Logic.{◌⊎◌, inl, inr, ◌≢◌}
use mathlib.Core.Bool.{Bool, true, false, cond}
use mathlib.Core.List.{List, [], ◌∷◌, ◌++◌, map}
use Prim.Native.Nat.{ℕ, zero, suc, ◌+◌, ◌*◌, ◌≤◌, ◌<◌}
use native.Mathlib.Nat.{not-suc-le-zero, le_of_suc-le-suc}
use native.Mathlib.Omega.{arith}
use borrow.Author.Tests.{ltb-true}
use lib.Dec.{ltb}
use lib.Ieee.{Float}
use lib.ListN.{length, get_or, take, drop, length-append, get_or-append}
use lib.Seq.{take_at}
use Rattle.refusals.specs.Rows.{first, unless}
use Rattle.lists.specs.Tables.{all_below}
use Rattle.lists.proofs.Cases.{eq_or}
use Rattle.lists.proofs.Bools.{and_left, and_right}
use Rattle.refusals.proofs.Rows.{unless_none, unless_some}
use Rattle.space.specs.Space.{Axis, ax, ay, az, Pos, pos}
use Rattle.vertex_keys.specs.Keys.{Before}
use Rattle.plan.specs.Step.{plan_of, on_plan}
use Rattle.plan.proofs.Ready.{ready_levels}
use Rattle.plan.specs.declared.Bounds.{Bounds}
use Rattle.plan.specs.declared.Plan.{Plan}
use Rattle.plan.specs.declared.Refusal.{Refusal}
use Rattle.plan.specs.declared.Planned.{Planned}
use Rattle.plan.specs.declared.Planned.TheVariants as planned
use Rattle.sides.specs.Parts.{Taken}
use Rattle.plan.specs.Vertices.{roots_in}
use Rattle.lattice.specs.Lattice.{lattice_vertices, LatticeVertex, index_of}
use Rattle.lattice.proofs.Formulas.{cells_count, vertices_count}
use Rattle.lattice.proofs.Named.{named, listed}
use Rattle.plan.specs.Vertices.{dims_of, triple_at, point_at, spread}
use Rattle.grid.specs.Grid.{grid_vertices, cell_table, triple_table, point_table}
use Rattle.grid.specs.Step.{cell_count, vertex_count, lacks_cells, lacks_vertices, split_rows, filled_of, refused_with, grid_of, values_of, result_after, GridDone, so_many}
use Rattle.grid.specs.Whole.{along, three_at, OctreeVertices, LatticeVertices, Whole}
use Rattle.grid.specs.declared.Gridded.{Gridded}
use Rattle.std.specs.Prelude.{Result, Ok, Err}
use Rattle.grid.specs.declared.GridError.{GridError}
use Rattle.grid.specs.declared.GridError.TheVariants.{Refused, NoCells, NoVertices}
use Rattle.grid.proofs.WaysOut.{length_cells, length_triples, length_points, lattice_cell_count, lattice_vertex_count, taken}
use Rattle.grid.proofs.Numbers.{cells_name, cells_below, vertices_once, vertices_rise, vertices_used}

-- ---- a table by its entries

spread_at : (g : Axis → ℕ → ℕ) (vs : List Pos) (rest : List ℕ) (j : ℕ) → j < length vs → (a : Axis)
    → get_or (spread g vs ++ rest) (3 * j + along a) 0 ≡ g a (get_or vs j (pos 0 0 0) a)
unfolding spread
spread_at g [] rest j h a = absurd (not-suc-le-zero h)
spread_at g (q ∷ vs) rest zero h ax = refl
spread_at g (q ∷ vs) rest zero h ay = refl
spread_at g (q ∷ vs) rest zero h az = refl
spread_at g (q ∷ vs) rest (suc j) h a =
    let e : 3 * suc j + along a ≡ suc (suc (suc (3 * j + along a))) = omega arith in
    rw e (spread_at g vs rest j (le_of_suc-le-suc h) a)

map_below : (f g : ℕ → Pos) (v : ℕ) (l : List ℕ) → all_below v l ≡ true → ((r : ℕ) → r < v → f r ≡ g r) → map f l ≡ map g l
unfolding all_below
map_below f g v [] b h = refl
map_below f g v (x ∷ l) b h =
    rw (h x (ltb-true x v (and_left (ltb x v) (all_below v l) b)), map_below f g v l (and_right (ltb x v) (all_below v l) b) h) refl

-- ---- the tables of an answer

module _ (p : Plan) (s C T P : List ℕ) (h : 1 ≤ p.levels → Taken s (roots_in p)) where
  front_is : take (4 * cell_count p s) (cell_table p s ++ C) ≡ cell_table p s
  front_is = take_at (cell_table p s) C (4 * cell_count p s) (length_cells p s)

  triples_are : (j : ℕ) → j < vertex_count p s → three_at (triple_table p s ++ T) j ≡ get_or (grid_vertices p.levels (dims_of p) s) j (pos 0 0 0)
  unfolding triple_table
  triples_are j b = fun_ext (spread_at triple_at (grid_vertices p.levels (dims_of p) s) T j b)

  points_are : (j : ℕ) → j < vertex_count p s → (a : Axis) → three_at (point_table p s ++ P) j a ≡ point_at p a (three_at (triple_table p s ++ T) j a)
  unfolding point_table
  points_are j b a = spread_at (point_at p) (grid_vertices p.levels (dims_of p) s) P j b a ∙ ap (λ (q : Pos). point_at p a (q a)) (sym (triples_are j b))

  octree : 1 ≤ p.levels → OctreeVertices (cell_count p s) (vertex_count p s) (cell_table p s ++ C) (triple_table p s ++ T)
  octree g = record {
    rise = λ i j ij b. subst₂ (λ (x y : Pos). Before x y) (sym (triples_are i (omega arith))) (sym (triples_are j b)) (vertices_rise p s h g i j ij b);
    used = λ j b. let r = vertices_used p s h g j b in (r.0, omega (arith, r.1, length_cells p s), get_or-append (cell_table p s) C 0 r.0 r.1 ∙ r.2);
  }

  lattice : p.levels ≡ 0 → LatticeVertices (dims_of p) (vertex_count p s) (triple_table p s ++ T)
  unfolding grid_vertices
  lattice z =
      let e : grid_vertices p.levels (dims_of p) s ≡ lattice_vertices (dims_of p) = ap (λ (l : ℕ). grid_vertices l (dims_of p) s) z in
      let at : (j : ℕ) → j < vertex_count p s → three_at (triple_table p s ++ T) j ≡ get_or (lattice_vertices (dims_of p)) j (pos 0 0 0) =
      λ j b. triples_are j b ∙ ap (λ (vs : List Pos). get_or vs j (pos 0 0 0)) e
      in
      record {
        each = λ j b. subst (LatticeVertex (dims_of p)) (sym (at j b)) (listed (dims_of p) (pos 0 0 0) j (omega (arith, ap length e))).0;
        all = λ q k.
            let r = named (dims_of p) (pos 0 0 0) q k in
            let b : index_of (dims_of p) q < vertex_count p s = omega (arith, r.0, ap length e) in
            (b, at (index_of (dims_of p) q) b ∙ r.1);
      }

  whole : {n v : ℕ} {c t q : List ℕ} → n ≡ cell_count p s → v ≡ vertex_count p s → c ≡ cell_table p s ++ C → t ≡ triple_table p s ++ T → q ≡ point_table p s ++ P → Whole p s n v c t q
  whole en ev ec et eq =
      rw (en, ev, ec, et, eq)
      record {
        cells_all = refl;
        vertices_all = refl;
        room = (omega (arith, length-append (cell_table p s) C, length_cells p s), omega (arith, length-append (triple_table p s) T, length_triples p s), omega (arith, length-append (point_table p s) P, length_points p s));
        cells_below = rw front_is (cells_below p s h);
        cells_stand = rw front_is (map_below (three_at (triple_table p s ++ T)) (λ r. get_or (grid_vertices p.levels (dims_of p) s) r (pos 0 0 0)) (vertex_count p s) (cell_table p s) (cells_below p s h) triples_are ∙ cells_name p s h);
        vertices_stand = triples_are;
        vertices_once = λ i j ij b e. vertices_once p s h i j ij b (sym (triples_are i (omega arith)) ∙ e ∙ triples_are j b);
        points_stand = points_are;
        octree_vertices = octree;
        lattice_counts = λ z. (lattice_cell_count p s z ∙ cells_count (dims_of p), lattice_vertex_count p s z ∙ vertices_count (dims_of p));
        lattice_vertices_lem = lattice;
      }

-- ---- the step

refused_not : {why : Refusal} {n v : ℕ} → Err (Refused why) ≡ so_many n v → ⊥
refused_not e = let clash : ◌≡◌ {A = ℕ} 0 1 = cc in absurd (omega arith)

filled_counts : (p : Plan) (s : List ℕ) (cells triples points work n v : ℕ) → filled_of p s cells triples points work ≡ so_many n v → (n ≡ cell_count p s) × (v ≡ vertex_count p s)
unfolding filled_of
filled_counts p s cells triples points work n v = go (lacks_cells (cell_count p s) cells work) (lacks_vertices (vertex_count p s) triples points) (cell_count p s) (vertex_count p s)
  where
    go : (t u : Bool) (m l : ℕ) → cond t (Err (NoCells m)) (cond u (Err (NoVertices m l)) (so_many m l)) ≡ so_many n v → (n ≡ m) × (v ≡ l)
    go true u m l e = let clash : ◌≡◌ {A = ℕ} 0 1 = cc in absurd (omega arith)
    go false true m l e = let clash : ◌≡◌ {A = ℕ} 0 1 = cc in absurd (omega arith)
    go false false m l e = (
      sym (ap (λ (r : Result Gridded GridError). get_or (values_of r) 0 0) e),
      sym (ap (λ (r : Result Gridded GridError). get_or (values_of r) 1 0) e),
    )

-- what an answer is of: a plan, and a split table that it does not refuse
pub record Answered (b : Bounds) (c : Float) (levels : ℕ) (s : List ℕ) (n v : ℕ) (p : Plan) : Type 0 where
  pub ready : plan_of b c levels ≡ planned.Ready p
  pub accepted : first (split_rows p s) ≡ 0
  pub cells : n ≡ cell_count p s
  pub vertices : v ≡ vertex_count p s

module _ (b : Bounds) (c : Float) (levels : ℕ) (s C T P w : List ℕ) where
  pub answered : (n v : ℕ) → grid_of b c levels s C T P w ≡ so_many n v → (p : Plan) × Answered b c levels s n v p
  unfolding grid_of
  answered n v = go (plan_of b c levels) refl
    where
      rest : Plan → Result Gridded GridError
      rest p = filled_of p s (length C) (length T) (length P) (length w)

      go : (a : Planned) → plan_of b c levels ≡ a → on_plan a (λ why. Err (Refused why)) (λ p. unless (first (split_rows p s)) refused_with (filled_of p s (length C) (length T) (length P) (length w))) ≡ so_many n v
          → (p : Plan) × Answered b c levels s n v p
      go (planned.Refused k) q e = absurd (refused_not e)
      go (planned.Ready p) q e = (p, accept (eq_or (first (split_rows p s)) 0))
        where
          accept : (first (split_rows p s) ≡ 0) ⊎ (first (split_rows p s) ≢ 0) → Answered b c levels s n v p
          accept (inl z) =
              let f = filled_counts p s (length C) (length T) (length P) (length w) n v (sym (unless_none (first (split_rows p s)) refused_with (rest p) z) ∙ e) in
              record { ready = q; accepted = z; cells = f.0; vertices = f.1 }
          accept (inr k) = absurd (refused_not (sym (unless_some (first (split_rows p s)) refused_with (rest p) k) ∙ e))

  module _ {r : Result Gridded GridError} {C' T' P' w' : List ℕ} (g : GridDone b c levels s C T P w r C' T' P' w') where
    module _ (n v : ℕ) (d : r ≡ so_many n v) where
      is_done : grid_of b c levels s C T P w ≡ so_many n v
      is_done = sym g.answer ∙ d

      abbrev p : Plan
      p = (answered n v is_done).0

      is : Answered b c levels s n v (answered n v is_done).0
      is = (answered n v is_done).1

      tables : (C' ≡ cell_table p s ++ drop (length (cell_table p s)) C) × (T' ≡ triple_table p s ++ drop (length (triple_table p s)) T) × (P' ≡ point_table p s ++ drop (length (point_table p s)) P)
      tables = (g.cells ∙ rw (is_done, is.ready) refl, g.triples ∙ rw (is_done, is.ready) refl, g.points ∙ rw (is_done, is.ready) refl)

      takes : 1 ≤ p.levels → Taken s (roots_in p)
      takes o = taken b c levels p is.ready s is.accepted (λ z. omega (arith, ready_levels b c levels p is.ready))

      -- the plan does not refuse the split table
      pub split_taken : (q : Plan) → plan_of b c levels ≡ planned.Ready q → first (split_rows q s) ≡ 0
      split_taken q e =
          let a = is in
          let same : p ≡ q = cc in
          subst (λ (k : Plan). first (split_rows k s) ≡ 0) same a.accepted

      -- an answer: every cell and every vertex stands in the tables
      pub nothing_in_part : (q : Plan) × (plan_of b c levels ≡ planned.Ready q) × Whole q s n v C' T' P'
      nothing_in_part = (p, is.ready, whole p s _ _ _ takes is.cells is.vertices tables.0 tables.1 tables.2)

    -- any other outcome: the result tables are as lent
    pub else_as_lent : ((n v : ℕ) → r ≢ so_many n v) → (C' ≡ C) × (T' ≡ T) × (P' ≡ P)
    else_as_lent other = (g.cells ∙ lent _ C, g.triples ∙ lent _ T, g.points ∙ lent _ P)
      where
        lent : (new old : List ℕ) → result_after (grid_of b c levels s C T P w) new old ≡ old
        lent new old = go (grid_of b c levels s C T P w) g.answer
          where
            go : (x : Result Gridded GridError) → r ≡ x → result_after x new old ≡ old
            go (Ok k) e = absurd (other k.cells k.vertices e)
            go (Err k) e = refl
