-- The outcomes of the step and of its parts, one law for each way out. Assumes nothing.
use mathlib.Core.Path.{◌≡◌, refl, sym, ap, subst, ◌∙◌}
use mathlib.Core.Logic.{◌≢◌}
use mathlib.Core.Bool.{Bool, true, false}
use mathlib.Core.List.{List, [], ◌∷◌, ◌++◌, append-nil}
use Prim.Native.Nat.{ℕ, ◌*◌, ◌/◌, ◌≤◌}
use native.Mathlib.Omega.{arith}
use borrow.Author.Tests.{ltb-false, eqb-true, not-false}
use lib.Dec.{ltb, eqb}
use lib.ListN.{length, take, drop, replicate, take-append-drop, drop_of_length-le}
use lib.Seq.{length-take-le, sets}
use Rattle.lists.proofs.Bools.{neither}
use Rattle.octree_cells.proofs.Flat.{flat_length}
use Rattle.lists.proofs.Parts.{sets_whole}
use Rattle.lists.specs.Runs.{Room}
use Rattle.space.specs.Space.{Axis, Pos}
use Rattle.octree_cells.specs.Cells.{flat}
use Rattle.plan.specs.declared.Plan.{Plan}
use Rattle.lattice.specs.Lattice.{lattice_cells, lattice_vertices, lattice_table}
use Rattle.plan.specs.Vertices.{dims_of, triple_at, point_at, spread}
use Rattle.lattice.specs.Parts.{vertices_of}
use Rattle.grid.specs.Grid.{grid_cells, grid_vertices, vertex_number, cell_table, triple_table, point_table}
use Rattle.grid.specs.Step.{cell_count, vertex_count, lacks_cells, lacks_vertices, graded_rows, split_rows, filled_of, refused_with, grid_of, Filled, GridDone, so_many}
use Rattle.std.specs.Prelude.{Result, Err}
use Rattle.grid.specs.declared.GridError.{GridError}
use Rattle.grid.specs.declared.GridError.TheVariants.{Refused, NoCells, NoVertices}
use lib.Ieee.{Float}
use Rattle.refusals.specs.Rows.{first, cause_at, proper}
use Rattle.refusals.specs.Causes.{each_rows, answer_rows}
use Rattle.refusals.proofs.Rows.{clear, unless_none, unless_some}
use Rattle.space.specs.Levels.{most_octants, off}
use Rattle.octants.specs.Judge.{is_graded}
use Rattle.octants.proofs.Judge.{graded_closes}
use Rattle.sides.specs.Parts.{Taken}
use Rattle.plan.specs.Step.{plan_of}
use Rattle.plan.specs.Parts.{Planful}
use Rattle.plan.proofs.Ready.{ready, ready_levels}
use Rattle.plan.specs.declared.Bounds.{Bounds}
use Rattle.plan.specs.Vertices.{roots_in}
use Rattle.grid.specs.Parts.{Stocked}
use Rattle.grid.specs.declared.Gridded.{Gridded}
use Rattle.plan.specs.declared.Refusal.{Refusal}
use Rattle.plan.specs.declared.Planned.TheVariants as planned

-- ---- lengths

pub length_spread : (g : Axis → ℕ → ℕ) (l : List Pos) → length (spread g l) ≡ 3 * length l
unfolding spread
length_spread g [] = refl
length_spread g (p ∷ l) = omega (arith, length_spread g l)

module _ (p : Plan) (s : List ℕ) where
  pub length_cells : length (cell_table p s) ≡ 4 * cell_count p s
  unfolding cell_table
  length_cells = flat_length (vertex_number p.levels (dims_of p) s) (grid_cells p.levels (dims_of p) s)

  pub length_triples : length (triple_table p s) ≡ 3 * vertex_count p s
  unfolding triple_table
  length_triples = length_spread triple_at (grid_vertices p.levels (dims_of p) s)

  pub length_points : length (point_table p s) ≡ 3 * vertex_count p s
  unfolding point_table
  length_points = length_spread (point_at p) (grid_vertices p.levels (dims_of p) s)

pub cells_room : (n cells work : ℕ) → lacks_cells n cells work ≡ false → (4 * n ≤ cells) × (4 * n ≤ work)
unfolding lacks_cells
cells_room n cells work e =
    let h = neither (ltb (cells / 4) n) (ltb work (4 * n)) e in
    let a : n ≤ cells / 4 = ltb-false (cells / 4) n h.0 in
    (omega arith, ltb-false work (4 * n) h.1)

pub vertices_room : (v triples points : ℕ) → lacks_vertices v triples points ≡ false → (3 * v ≤ triples) × (3 * v ≤ points)
unfolding lacks_vertices
vertices_room v triples points e =
    let h = neither (ltb (triples / 3) v) (ltb (points / 3) v) e in
    let a : v ≤ triples / 3 = ltb-false (triples / 3) v h.0 in
    let b : v ≤ points / 3 = ltb-false (points / 3) v h.1 in
    (omega arith, omega arith)

-- ---- the ways out

module _ (p : Plan) (s C T P w : List ℕ) {n : ℕ} (en : n ≡ cell_count p s) where
  pub no_cells : lacks_cells n (length C) (length w) ≡ true → Filled p s C T P w (Err (NoCells n)) C T P w
  unfolding filled_of
  no_cells h =
      let g : lacks_cells (cell_count p s) (length C) (length w) ≡ true = ap (λ (k : ℕ). lacks_cells k (length C) (length w)) (sym en) ∙ h in
      record { answer = ap (λ (k : ℕ). Err (NoCells k)) en ∙ sym (rw g refl); cells = refl; triples = refl; points = refl; work = refl }

  module _ {v : ℕ} (ev : v ≡ vertex_count p s) (h : lacks_cells n (length C) (length w) ≡ false) where
    g : lacks_cells (cell_count p s) (length C) (length w) ≡ false
    g = ap (λ (k : ℕ). lacks_cells k (length C) (length w)) (sym en) ∙ h

    zeros : {w' : List ℕ} → w' ≡ replicate (length (take (4 * n) w)) 0 → w' ++ drop (4 * n) w ≡ replicate (4 * n) 0 ++ drop (4 * n) w
    zeros {w'} e =
        let q : length (take (4 * n) w) ≡ 4 * n = length-take-le (4 * n) w (cells_room n (length C) (length w) h).1 in
        ap (λ (l : List ℕ). l ++ drop (4 * n) w) (e ∙ ap (λ (k : ℕ). replicate k 0) q)

    pub no_vertices : {w' : List ℕ} → lacks_vertices v (length T) (length P) ≡ true → w' ≡ replicate (length (take (4 * n) w)) 0
        → Filled p s C T P w (Err (NoVertices n v)) C T P (w' ++ drop (4 * n) w)
    unfolding filled_of
    no_vertices k e =
        let f : lacks_vertices (vertex_count p s) (length T) (length P) ≡ true = ap (λ (i : ℕ). lacks_vertices i (length T) (length P)) (sym ev) ∙ k in
        record { answer = rw (en, ev, g, f) refl; cells = refl; triples = refl; points = refl; work = zeros e }

    pub done : {C' T' P' w' : List ℕ} → lacks_vertices v (length T) (length P) ≡ false → C' ≡ cell_table p s → T' ≡ triple_table p s → P' ≡ point_table p s
        → w' ≡ replicate (length (take (4 * n) w)) 0
        → Filled p s C T P w (so_many n v) (C' ++ drop (4 * n) C) (T' ++ drop (3 * v) T) (P' ++ drop (3 * v) P) (w' ++ drop (4 * n) w)
    unfolding filled_of
    done k ec et ep e =
        let f : lacks_vertices (vertex_count p s) (length T) (length P) ≡ false = ap (λ (i : ℕ). lacks_vertices i (length T) (length P)) (sym ev) ∙ k in
        let a : 4 * n ≡ length (cell_table p s) = omega (arith, en, length_cells p s) in
        let b : 3 * v ≡ length (triple_table p s) = omega (arith, ev, length_triples p s) in
        let d : 3 * v ≡ length (point_table p s) = omega (arith, ev, length_points p s) in
        record {
          answer = rw (en, ev, g, f) refl;
          cells = rw (ec, a) refl;
          triples = rw (et, b) refl;
          points = rw (ep, d) refl;
          work = zeros e;
        }

-- ---- the lattice

module _ (p : Plan) (s : List ℕ) (z : p.levels ≡ 0) where
  pub lattice_cells_lem : cell_table p s ≡ lattice_table (dims_of p)
  unfolding cell_table vertex_number grid_cells
  lattice_cells_lem = ap (λ (l : ℕ). flat (vertex_number l (dims_of p) s) (grid_cells l (dims_of p) s)) z

  pub lattice_triples : triple_table p s ≡ vertices_of triple_at p
  unfolding triple_table grid_vertices
  lattice_triples = ap (λ (l : ℕ). spread triple_at (grid_vertices l (dims_of p) s)) z

  pub lattice_points : point_table p s ≡ vertices_of (point_at p) p
  unfolding point_table grid_vertices
  lattice_points = ap (λ (l : ℕ). spread (point_at p) (grid_vertices l (dims_of p) s)) z

  pub lattice_cell_count : cell_count p s ≡ length (lattice_cells (dims_of p))
  unfolding grid_cells
  lattice_cell_count = ap (λ (l : ℕ). length (grid_cells l (dims_of p) s)) z

  pub lattice_vertex_count : vertex_count p s ≡ length (lattice_vertices (dims_of p))
  unfolding grid_vertices
  lattice_vertex_count = ap (λ (l : ℕ). length (grid_vertices l (dims_of p) s)) z

-- a table lent to just the entries that a list needs
module _ (C list : List ℕ) (n : ℕ) (e : length list ≡ n) (h : n ≤ length C) where
  pub lent_room : Room (take n C) 0 list
  lent_room = record { fits = omega (arith, length-take-le n C h) }

  pub lent_full : {o : List ℕ} → o ≡ sets (take n C) 0 list → o ≡ list
  lent_full k = k ∙ sets_whole list (take n C) (e ∙ sym (length-take-le n C h))

-- ---- an octree with room for its cells

module _ (p : Plan) (s C T P w : List ℕ) {n v : ℕ} (en : n ≡ cell_count p s) (ev : v ≡ vertex_count p s) {m : ℕ} {w' : List ℕ} (ew : w' ≡ replicate m 0) (lw : m ≡ length w) where
  left_zero : w' ≡ replicate (length w) 0
  left_zero = ew ∙ ap (λ (k : ℕ). replicate k 0) lw

  pub stocked_none : lacks_vertices v (length T) (length P) ≡ true → Stocked p s C T P w (Err (NoVertices n v)) C T P w'
  stocked_none h =
      let f : lacks_vertices (vertex_count p s) (length T) (length P) ≡ true = ap (λ (i : ℕ). lacks_vertices i (length T) (length P)) (sym ev) ∙ h in
      record { answer = rw (en, ev, f) refl; cells = refl; triples = refl; points = refl; work = left_zero }

  pub stocked_done : {C' T' P' : List ℕ} → lacks_vertices v (length T) (length P) ≡ false → length C ≡ 4 * cell_count p s
      → C' ≡ cell_table p s → T' ≡ triple_table p s → P' ≡ point_table p s
      → Stocked p s C T P w (so_many n v) C' (T' ++ drop (3 * v) T) (P' ++ drop (3 * v) P) w'
  stocked_done h lc ec et ep =
      let f : lacks_vertices (vertex_count p s) (length T) (length P) ≡ false = ap (λ (i : ℕ). lacks_vertices i (length T) (length P)) (sym ev) ∙ h in
      let b : 3 * v ≡ length (triple_table p s) = omega (arith, ev, length_triples p s) in
      let d : 3 * v ≡ length (point_table p s) = omega (arith, ev, length_points p s) in
      let z : drop (length (cell_table p s)) C ≡ [] = drop_of_length-le C {i = length (cell_table p s)} (omega (arith, length_cells p s, lc)) in
      record {
        answer = rw (en, ev, f) refl;
        cells = ec ∙ sym (ap (λ (r : List ℕ). cell_table p s ++ r) z ∙ append-nil (cell_table p s));
        triples = rw (et, b) refl;
        points = rw (ep, d) refl;
        work = left_zero;
      }

-- the parts that were lent, back in their tables
module _ (p : Plan) (s C T P w : List ℕ) {n : ℕ} (en : n ≡ cell_count p s) (h : lacks_cells n (length C) (length w) ≡ false) {r : Result Gridded GridError} {C' T' P' w' : List ℕ}
    (st : Stocked p s (take (4 * n) C) T P (take (4 * n) w) r C' T' P' w') where
  abbrev lacks : Bool
  lacks = lacks_vertices (vertex_count p s) (length T) (length P)

  not_cells : lacks_cells (cell_count p s) (length C) (length w) ≡ false
  not_cells = ap (λ (k : ℕ). lacks_cells k (length C) (length w)) (sym en) ∙ h

  zeroed_is : w' ++ drop (4 * n) w ≡ replicate (4 * cell_count p s) 0 ++ drop (4 * cell_count p s) w
  zeroed_is =
      let q : length (take (4 * n) w) ≡ 4 * n = length-take-le (4 * n) w (cells_room n (length C) (length w) h).1 in
      let e : w' ≡ replicate (4 * n) 0 = st.work ∙ ap (λ (k : ℕ). replicate k 0) q in
      ap (λ (z : List ℕ). z ++ drop (4 * n) w) e ∙ ap (λ (k : ℕ). replicate (4 * k) 0 ++ drop (4 * k) w) en

  pub fill_whole : Filled p s C T P w r (C' ++ drop (4 * n) C) T' P' (w' ++ drop (4 * n) w)
  unfolding filled_of
  fill_whole = go lacks refl
    where
      go : (b : Bool) → lacks_vertices (vertex_count p s) (length T) (length P) ≡ b → Filled p s C T P w r (C' ++ drop (4 * n) C) T' P' (w' ++ drop (4 * n) w)
      go true f =
          let e : r ≡ Err (NoVertices (cell_count p s) (vertex_count p s)) = st.answer ∙ rw f refl in
          let c : C' ≡ take (4 * n) C = rw e at st.cells in
          record {
            answer = e ∙ sym (rw (not_cells, f) refl);
            cells = rw e (ap (λ (z : List ℕ). z ++ drop (4 * n) C) c ∙ take-append-drop (4 * n) C);
            triples = st.triples;
            points = st.points;
            work = rw e zeroed_is;
          }
      go false f =
          let e : r ≡ so_many (cell_count p s) (vertex_count p s) = st.answer ∙ rw f refl in
          let l : length (cell_table p s) ≡ 4 * n = length_cells p s ∙ ap (λ (k : ℕ). 4 * k) (sym en) in
          let q : length (take (4 * n) C) ≡ 4 * n = length-take-le (4 * n) C (cells_room n (length C) (length w) h).0 in
          let z : drop (length (cell_table p s)) (take (4 * n) C) ≡ [] = drop_of_length-le (take (4 * n) C) {i = length (cell_table p s)} (omega arith) in
          let c : C' ≡ cell_table p s = (rw e at st.cells) ∙ ap (λ (r : List ℕ). cell_table p s ++ r) z ∙ append-nil (cell_table p s) in
          record {
            answer = e ∙ sym (rw (not_cells, f) refl);
            cells = rw e (ap (λ (x : List ℕ). x ++ drop (4 * n) C) c ∙ ap (λ (k : ℕ). cell_table p s ++ drop k C) (sym l));
            triples = st.triples;
            points = st.points;
            work = rw e zeroed_is;
          }

-- ---- a plan that is ready

module _ (b : Bounds) (c : Float) (levels : ℕ) (p : Plan) (e : plan_of b c levels ≡ planned.Ready p) (s : List ℕ) (z : first (split_rows p s) ≡ 0) where
  known : Planful p
  known = ready b c levels p e

  row : (i : ℕ) → cause_at i (split_rows p s) ≡ false
  unfolding split_rows each_rows answer_rows graded_rows proper
  row = clear (split_rows p s) refl z

  long : length s ≡ p.octants
  unfolding split_rows each_rows
  long = eqb-true (length s) p.octants (not-false (eqb (length s) p.octants) (row 0))

  pub graded : is_graded (dims_of p) p.levels s ≡ true
  unfolding split_rows each_rows answer_rows graded_rows
  graded = not-false (is_graded (dims_of p) p.levels s) (row 2)

  pub empty : levels ≡ 0 → s ≡ []
  unfolding off
  empty g =
      let a : p.levels ≡ 0 = ready_levels b c levels p e ∙ g in
      let o : off (dims_of p) p.levels ≡ 0 = ap (off (dims_of p)) a in
      let l : length s ≡ 0 = long ∙ known.octants_are ∙ o in
      none s l
    where
      none : (x : List ℕ) → length x ≡ 0 → x ≡ []
      none [] q = refl
      none (y ∷ x) q = absurd (omega arith)

  pub short_table : length s ≤ most_octants
  short_table = omega (arith, long, known.octants_few)

  pub taken : levels ≢ 0 → Taken s (roots_in p)
  taken g =
      let o : 1 ≤ p.levels = omega (arith, ready_levels b c levels p e) in
      record {
        covers = record { roots = known.roots o; levels = known.levels_few; octants = long ∙ known.octants_are };
        some = o;
        graded = graded_closes (dims_of p) p.levels s graded;
      }

-- ---- the step

module _ (b : Bounds) (c : Float) (levels : ℕ) (s C T P w : List ℕ) where
  pub plan_refused : {m k : Refusal} → plan_of b c levels ≡ planned.Refused m → k ≡ m → GridDone b c levels s C T P w (Err (Refused k)) C T P w
  unfolding grid_of
  plan_refused {m} {k} e q =
      let a : grid_of b c levels s C T P w ≡ Err (Refused k) = rw (e, q) refl in
      record { answer = sym a; cells = rw a refl; triples = rw a refl; points = rw a refl; work = rw a refl }

  module _ (p : Plan) (e : plan_of b c levels ≡ planned.Ready p) where
    pub split_refused : {k : ℕ} → k ≡ first (split_rows p s) → k ≢ 0 → GridDone b c levels s C T P w (refused_with k) C T P w
    unfolding grid_of
    split_refused {k} q d =
        let a : grid_of b c levels s C T P w ≡ refused_with k = rw (e, ← q) (unless_some k refused_with _ d) in
        record { answer = sym a; cells = rw a refl; triples = rw a refl; points = rw a refl; work = rw a refl }

    pub filled : {r : Result Gridded GridError} {C' T' P' w' : List ℕ} → first (split_rows p s) ≡ 0 → Filled p s C T P w r C' T' P' w' → GridDone b c levels s C T P w r C' T' P' w'
    unfolding grid_of
    filled {r} z f =
        let a : grid_of b c levels s C T P w ≡ r = rw e (unless_none (first (split_rows p s)) refused_with _ z) ∙ sym f.answer in
        record {
          answer = sym a;
          cells = rw (a, e) f.cells;
          triples = rw (a, e) f.triples;
          points = rw (a, e) f.points;
          work = rw a f.work;
        }

    -- a lattice has an empty split table
    pub filled_lattice : {r : Result Gridded GridError} {C' T' P' w' : List ℕ} → first (split_rows p s) ≡ 0 → levels ≡ 0 → Filled p [] C T P w r C' T' P' w' → GridDone b c levels s C T P w r C' T' P' w'
    filled_lattice {r} {C'} {T'} {P'} {w'} z g f =
        filled z (subst (λ (x : List ℕ). Filled p x C T P w r C' T' P' w') (sym (empty b c levels p e s z g)) f)
