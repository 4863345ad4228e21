-- One cell is weighed, and the turn of `weigh_all`. Assumes nothing.
use mathlib.Core.Path.{◌≡◌, refl, sym, ap, subst, ◌∙◌}
use mathlib.Core.Logic.{◌⊎◌, inl, inr, ◌≢◌}
use mathlib.Core.Bool.{Bool, true, false, not}
use mathlib.Core.List.{List, [], ◌∷◌, ◌++◌}
use Prim.Native.Nat.{ℕ, ◌+◌, ◌*◌, ◌≤◌, ◌<◌}
use native.Mathlib.Nat.{not-suc-le-zero}
use native.Mathlib.Numerals.{add-one}
use native.Mathlib.Omega.{arith}
use borrow.Author.Tests.{eq-eqb, ne_eqb}
use lib.Dec.{eqb}
use lib.Ieee.{Float}
use lib.ListN.{length, get_or, set, take, drop, replicate, length-set, length-drop, length-append}
use lib.Seq.{length-take-le, get_or-set_other, take_at, drop_at, take-set-le, drop-set-add, get_or-drop, set-get_or}
use Rattle.lists.specs.Tests.{bit}
use Rattle.lists.specs.Appearance.{Table}
use Rattle.lists.specs.Runs.{run, those}
use Rattle.lists.proofs.Cases.{eq_or, below_set}
use Rattle.lists.proofs.Appearing.{table_none}
use Rattle.lists.proofs.Running.{run_last}
use Rattle.mesh.specs.Mesh.{points_of, cells_of, cell_of, Each, Points, in_order, exchanged}
use Rattle.mesh.specs.declared.Cell.{Cell}
use Rattle.mesh.proofs.Named.{cell_points, each_exchanged, each_then}
use Rattle.volume.specs.Volume.{verdict_at}
use Rattle.volume.specs.declared.Verdict.{Verdict}
use Rattle.volume.specs.declared.Verdict.TheVariants.{Kept, Exchanged, Dropped}
use Rattle.groups.specs.Parts.{Laid}
use Rattle.marked.specs.Weighed.{shaped, is_dropped, shape_at, drops_at, final_cells, dropped_count}
use Rattle.marked.specs.Used.{first_uses, used_of}
use Rattle.marked.specs.Parts.{CornersNoted, marked_in, code_of, code_at, Few, WeighAsked, StayAsked, WeighedAs, WeighedAt, In}
use Rattle.marked.specs.declared.Counts.{Counts}
use Rattle.marked.proofs.Using.{uses_append, uses_kept, uses_here}
use Rattle.marked.proofs.Counting.{count_more}

-- ---- one cell

module _ {P C w : List ℕ} {n i : ℕ} {b : Counts} (a : WeighAsked P C w n i b) {k : Cell} (e : k ≡ cell_of C i) where
  named : Points n k
  named = cell_points C n i a.laid.sized.cells a.inside e

  -- its corners are there
  pub corners_in : Points (points_of P) k
  corners_in = subst (λ (m : ℕ). Points m k) a.laid.points named

  -- it may stay, as it is or with two corners exchanged
  pub stay_asked : StayAsked w n i k b
  stay_asked = record {
    inside = omega (arith, a.inside, a.laid.sized.long);
    corners = record {
      points = each_then (λ v h. omega (arith, length-take-le n w (omega (arith, a.laid.sized.long)))) named;
      few = omega (arith, a.few.points, a.inside, a.laid.sized.cells.few);
    };
    few = a.few.cells;
    small = omega (arith, a.inside, a.laid.sized.cells.few);
  }

  pub exchange_asked : {x : Cell} → x ≡ exchanged k → StayAsked w n i x b
  exchange_asked {x} q =
      rw q
      (record {
        inside = stay_asked.inside;
        corners = record { points = each_exchanged stay_asked.corners.points; few = stay_asked.corners.few };
        few = stay_asked.few;
        small = stay_asked.small;
      })

-- the corners of one that stays are noted in the front of the work, which was lent and is now T
pub stayed : (w : List ℕ) (n i : ℕ) (b : Counts) {T : List ℕ} {points code : ℕ} {k : Cell} → n ≤ length w
    → length T ≡ length (take n (set w (n + i) code)) → CornersNoted (take n (set w (n + i) code)) T k b.points points
    → WeighedAs w (T ++ drop n (set w (n + i) code)) n i b (record { points = points; cells = b.cells + 1; dropped = b.dropped }) code (in_order k) 0
unfolding in_order
stayed w n i b {T} {code = code} {k = k} g lt c =
    let len : length T ≡ n = lt ∙ length-take-le n (set w (n + i) code) (omega (arith, length-set w (n + i) code)) in
    let front : take n (set w (n + i) code) ≡ take n w = take-set-le n w (n + i) code (omega arith) in
    record {
      entry = drop_at T (drop n (set w (n + i) code)) n len ∙ drop-set-add n w i code;
      numbers = λ s h e.
          let q = c.numbered s (subst (λ (u : List ℕ). Table u s) (sym front) h) e in
          (subst (λ (u : List ℕ). Table u (first_uses s (in_order k))) (sym (take_at T (drop n (set w (n + i) code)) n len)) q.0, q.1);
      cells = omega arith;
      dropped = omega arith;
      points_few = c.few;
      cells_few = omega arith;
      dropped_few = omega arith;
    }

module _ (P C w : List ℕ) (n i : ℕ) (least : Float) (b : Counts) where
  mark_off : get_or w (n + i) 0 ≡ 0 → marked_in (drop n w) i ≡ false
  unfolding marked_in
  mark_off z = rw (eq-eqb _ _ (get_or-drop n w i 0 ∙ z)) refl

  mark_on : get_or w (n + i) 0 ≢ 0 → marked_in (drop n w) i ≡ true
  unfolding marked_in
  mark_on d = rw (ne_eqb (get_or (drop n w) i 0) 0 (λ e. d (sym (get_or-drop n w i 0) ∙ e))) refl

  -- it is not marked
  pub weighed_not : get_or w (n + i) 0 ≡ 0 → WeighedAt P C w w n i least b b
  unfolding shape_at drops_at code_at first_uses
  weighed_not z =
      rw (mark_off z)
      (record {
        entry = sym (ap (set (drop n w) i) (sym (get_or-drop n w i 0 ∙ z)) ∙ set-get_or (drop n w) i 0);
        numbers = λ s t e. (t, e);
        cells = omega arith;
        dropped = omega arith;
        points_few = omega arith;
        cells_few = omega arith;
        dropped_few = omega arith;
      })

  module _ (d : get_or w (n + i) 0 ≢ 0) (v : Verdict) (ev : v ≡ verdict_at P C i least) where
    -- it stays
    pub weighed_stays : {w' shape : List ℕ} {code : ℕ} {r : Counts} → code_of v ≡ code → shaped v (cell_of C i) ≡ shape → is_dropped v ≡ false
        → WeighedAs w w' n i b r code shape 0 → WeighedAt P C w w' n i least b r
    unfolding shape_at drops_at code_at
    weighed_stays ek es el h = rw (mark_on d, ← ev, ek, es, el) h

    -- it is dropped
    pub weighed_lost : code_of v ≡ 0 → shaped v (cell_of C i) ≡ [] → is_dropped v ≡ true
        → WeighedAt P C w (set w (n + i) 0) n i least b (record { points = b.points; cells = b.cells; dropped = b.dropped + 1 })
    unfolding shape_at drops_at code_at first_uses
    weighed_lost ek es el =
        rw (mark_on d, ← ev, ek, es, el)
        (record {
          entry = drop-set-add n w i 0;
          numbers = λ s t e. (subst (λ (u : List ℕ). Table u s) (sym (take-set-le n w (n + i) 0 (omega arith))) t, e);
          cells = omega arith;
          dropped = omega arith;
          points_few = omega arith;
          cells_few = omega arith;
          dropped_few = omega arith;
        })

-- ---- all cells

-- a cell's points are used once they are noted, in one order or the other
each_used : (s : List ℕ) (k : Cell) → Each (In (first_uses s (in_order k))) k
unfolding in_order
each_used s k =
    let here = uses_here (k.a ∷ k.b ∷ k.c ∷ k.d ∷ []) s in
    record { a_is = here 0 (omega arith); b_is = here 1 (omega arith); c_is = here 2 (omega arith); d_is = here 3 (omega arith) }

shape_used : (s : List ℕ) (v : Verdict) (k : Cell) → code_of v ≢ 0 → Each (In (first_uses s (shaped v k))) k
unfolding code_of shaped
shape_used s (Kept x) k d = each_used s k
shape_used s (Exchanged x) k d = each_exchanged (each_used s (exchanged k))
shape_used s (Dropped x) k d = absurd (d refl)

piece_used : (s : List ℕ) (m : Bool) (least : Float) (P C : List ℕ) (i : ℕ) → code_at m least P C i ≢ 0
    → Each (In (first_uses s (shape_at m least P C i))) (cell_of C i)
unfolding code_at shape_at
piece_used s false least P C i d = absurd (d refl)
piece_used s true least P C i d = shape_used s (verdict_at P C i least) (cell_of C i) d

module _ (P C M : List ℕ) (n : ℕ) (least : Float) where
  -- the cells that stay among the first i, and the points they use
  abbrev mesh_to : ℕ → List ℕ
  mesh_to i = final_cells (marked_in M) least P C i

  -- the first i cells are weighed
  pub record Tallying (w : List ℕ) (i : ℕ) (b : Counts) : Type 0 where
    pub laid : Laid P C w n
    pub codes : (j : ℕ) → j < i → get_or (drop n w) j 0 ≡ code_at (marked_in M j) least P C j
    pub rest : (j : ℕ) → i ≤ j → get_or (drop n w) j 0 ≡ get_or M j 0
    pub table : Table (take n w) (used_of (mesh_to i))
    pub named : (j : ℕ) → j < i → code_at (marked_in M j) least P C j ≢ 0 → Each (In (used_of (mesh_to i))) (cell_of C j)
    pub points : b.points ≡ length (used_of (mesh_to i))
    pub cells : 4 * b.cells ≡ length (mesh_to i)
    pub dropped : b.dropped ≡ dropped_count (marked_in M) least P C i
    pub few : Few b i

  pub tallying_start : (w : List ℕ) → Laid P C w n → take n w ≡ replicate n 0 → drop n w ≡ M
      → Tallying w 0 (record { points = 0; cells = 0; dropped = 0 })
  unfolding final_cells dropped_count those run used_of first_uses
  tallying_start w m z e = record {
    laid = m;
    codes = λ j h. absurd (not-suc-le-zero h);
    rest = λ j h. ap (λ (l : List ℕ). get_or l j 0) e;
    table = table_none (take n w) n z;
    named = λ j h. absurd (not-suc-le-zero h);
    points = refl;
    cells = refl;
    dropped = refl;
    few = record { points = omega arith; cells = omega arith; dropped = omega arith };
  }

  module _ (w w' : List ℕ) (i : ℕ) (b r : Counts) (l : Tallying w i b) (h : i < cells_of C)
      (same : length w' ≡ length w) (x : WeighedAt P C w w' n i least b r) where
    abbrev piece : List ℕ
    piece = shape_at (marked_in M i) least P C i

    mark_same : marked_in (drop n w) i ≡ marked_in M i
    unfolding marked_in
    mark_same = ap (λ (k : ℕ). not (eqb k 0)) (l.rest i (omega arith))

    as_marked : WeighedAs w w' n i b r (code_at (marked_in M i) least P C i) piece (bit (drops_at (marked_in M i) least P C i))
    as_marked =
        subst (λ (m : Bool). WeighedAs w w' n i b r (code_at m least P C i) (shape_at m least P C i) (bit (drops_at m least P C i))) mark_same x

    mesh_next : mesh_to (i + 1) ≡ mesh_to i ++ piece
    unfolding final_cells
    mesh_next = run_last (λ j. shape_at (marked_in M j) least P C j) i

    used_next : used_of (mesh_to (i + 1)) ≡ first_uses (used_of (mesh_to i)) piece
    unfolding used_of
    used_next = ap (first_uses []) mesh_next ∙ uses_append (mesh_to i) piece []

    drops_next : dropped_count (marked_in M) least P C (i + 1) ≡ dropped_count (marked_in M) least P C i + bit (drops_at (marked_in M i) least P C i)
    unfolding dropped_count
    drops_next =
        let test : ℕ → Bool = λ j. drops_at (marked_in M j) least P C j in
        ap (λ (k : ℕ). length (those test k)) (add-one i) ∙ count_more test i

    pub tallying_step : Tallying w' (i + 1) r
    tallying_step =
        let y = as_marked in
        let t = y.numbers (used_of (mesh_to i)) l.table l.points in
        record {
          laid = record { points = l.laid.points; sized = record { cells = l.laid.sized.cells; long = same ∙ l.laid.sized.long } };
          codes = subst (λ (u : List ℕ). (j : ℕ) → j < i + 1 → get_or u j 0 ≡ code_at (marked_in M j) least P C j) (sym y.entry)
              (below_set (λ j v. v ≡ code_at (marked_in M j) least P C j) (drop n w) i _ room l.codes refl);
          rest = λ j g. ap (λ (u : List ℕ). get_or u j 0) y.entry ∙ get_or-set_other (drop n w) i j _ 0 (above j g) ∙ l.rest j (omega arith);
          table = subst (Table (take n w')) (sym used_next) t.0;
          named = λ j g d. subst (λ (s : List ℕ). Each (In s) (cell_of C j)) (sym used_next) (names j g d (eq_or j i));
          points = t.1 ∙ sym (ap length used_next);
          cells = omega (arith, y.cells, l.cells, ap length mesh_next, length-append (mesh_to i) piece);
          dropped = omega (arith, y.dropped, l.dropped, drops_next);
          few = record {
            points = omega (arith, y.points_few, l.few.points);
            cells = omega (arith, y.cells_few, l.few.cells);
            dropped = omega (arith, y.dropped_few, l.few.dropped);
          };
        }
      where
        above : (j : ℕ) → i + 1 ≤ j → j ≢ i
        above j g e = omega arith

        room : i < length (drop n w)
        room = omega (arith, length-drop n w, l.laid.sized.long)

        names : (j : ℕ) → j < i + 1 → code_at (marked_in M j) least P C j ≢ 0 → (j ≡ i) ⊎ (j ≢ i) → Each (In (first_uses (used_of (mesh_to i)) piece)) (cell_of C j)
        names j g d (inl q) =
            subst (λ (k : ℕ). Each (In (first_uses (used_of (mesh_to i)) piece)) (cell_of C k)) (sym q)
            (piece_used (used_of (mesh_to i)) (marked_in M i) least P C i (λ z. d (ap (λ (k : ℕ). code_at (marked_in M k) least P C k) q ∙ z)))
        names j g d (inr q) =
            each_then (λ v old. let k = uses_kept v piece (used_of (mesh_to i)) old in omega (arith, k.0, k.1)) (l.named j (omega arith) d)
