-- The storing of cells and of points. Assumes nothing.
use mathlib.Core.Path.{◌≡◌, refl, sym, ap, subst, ◌∙◌}
use mathlib.Core.Logic.{◌⊎◌, inl, inr, ◌≢◌}
use mathlib.Core.Bool.{Bool, true, false, cond}
use mathlib.Core.List.{List, [], ◌∷◌, map}
use Prim.Native.Nat.{ℕ, zero, suc, ◌+◌, ◌-◌, ◌*◌, ◌/◌, ◌%◌, ◌≤◌, ◌<◌, zero-le}
use native.Mathlib.Nat.{not-suc-le-zero, le_of_suc-le-suc}
use native.Mathlib.Omega.{arith}
use borrow.Author.Tests.{eq-eqb, ne_eqb}
use lib.Dec.{eqb}
use lib.ListN.{length, get_or, set, length-set}
use lib.Seq.{length-sets, get_or-set_same, get_or-set_other, ext_get_or, sets}
use Rattle.lists.specs.Appearance.{place, Table}
use Rattle.lists.specs.Runs.{run, Stored}
use Rattle.lists.proofs.Passing.{spread_length, spread_at}
use Rattle.mesh.specs.Mesh.{cells_of, cell_of, Each, in_order, exchanged}
use Rattle.mesh.specs.declared.Cell.{Cell}
use Rattle.mesh.proofs.Named.{each_exchanged}
use Rattle.lists.proofs.Cases.{eq_or, lt_or}
use Rattle.lists.proofs.Parts.{sets_whole}
use Rattle.lists.proofs.Running.{run_last, run_room, stored_both, stored_none}
use Rattle.lists.proofs.Appearing.{place_one}
use Rattle.marked.specs.Used.{point_bits, points_at}
use Rattle.marked.specs.Parts.{ordered, shape_of, placed_cell, placed_cells, CellAsked, CellStored, CellsAsked, PointStored, Distinct, PointsStored}
use Rattle.marked.proofs.Using.{entry_in}

-- ---- one cell

module _ (C o w : List ℕ) (n i k : ℕ) where
  pub cell_gone : get_or w (n + i) 0 ≡ 0 → CellStored C o o w n i k k
  unfolding placed_cell shape_of
  cell_gone z = stored_none o _ (4 * k) (rw (eq-eqb (get_or w (n + i) 0) 0 z) refl)

  -- it is stored in its order, each vertex by its place
  pub cell_placed : {o' : List ℕ} {m : Cell} → get_or w (n + i) 0 ≢ 0 → m ≡ ordered (get_or w (n + i) 0) (cell_of C i)
      → o' ≡ sets o (4 * k) ((get_or w m.a 0 - 1) ∷ (get_or w m.b 0 - 1) ∷ (get_or w m.c 0 - 1) ∷ (get_or w m.d 0 - 1) ∷ [])
      → CellStored C o o' w n i k (k + 1)
  unfolding placed_cell shape_of in_order
  cell_placed d e s = rw (ne_eqb (get_or w (n + i) 0) 0 d, ← e) (record { count = omega arith; kept = s })

-- its vertices have their numbers, in whichever order
pub order_named : {Q : ℕ → Type 0} (code : ℕ) {k m : Cell} → m ≡ ordered code k → Each Q k → Each Q m
unfolding ordered
order_named {Q} code {k} e n = subst (Each Q) (sym e) (go (eqb code 1))
  where
    go : (t : Bool) → Each Q (cond t k (exchanged k))
    go true = n
    go false = each_exchanged n

-- ---- all cells

-- a cell that stays has four vertices, and another none
placed_length : (C w : List ℕ) (n i : ℕ) → (length (placed_cell C w n i) ≤ 4) × (get_or w (n + i) 0 ≢ 0 → length (placed_cell C w n i) ≡ 4)
unfolding placed_cell shape_of in_order
placed_length C w n i = go (eq_or (get_or w (n + i) 0) 0)
  where
    go : (get_or w (n + i) 0 ≡ 0) ⊎ (get_or w (n + i) 0 ≢ 0)
        → (length (map (λ v. get_or w v 0 - 1) (shape_of (get_or w (n + i) 0) (cell_of C i))) ≤ 4)
        × (get_or w (n + i) 0 ≢ 0 → length (map (λ v. get_or w v 0 - 1) (shape_of (get_or w (n + i) 0) (cell_of C i))) ≡ 4)
    go (inl z) = rw (eq-eqb (get_or w (n + i) 0) 0 z) (zero-le, λ d. absurd (d z))
    go (inr d) = rw (ne_eqb (get_or w (n + i) 0) 0 d) (omega arith, λ x. refl)

module _ (C w o₀ : List ℕ) (n : ℕ) where
  -- the first i cells are looked at, and k of them stored
  pub record Placing (o : List ℕ) (i k : ℕ) : Type 0 where
    pub few : k ≤ i
    pub stored : Stored o₀ 0 (run i (placed_cell C w n) 0) (4 * k) o

  pub placing_start : Placing o₀ 0 0
  unfolding run
  placing_start = record { few = omega arith; stored = stored_none o₀ [] 0 refl }

  module _ (o : List ℕ) (i k : ℕ) (l : Placing o i k) where
    pub placing_step : {o' : List ℕ} {r : ℕ} → CellStored C o o' w n i k r → Placing o' (i + 1) r
    placing_step s = record {
      few = omega (arith, l.few, s.count, (placed_length C w n i).0);
      stored = stored_both (run_last (placed_cell C w n) i) l.stored s;
    }

    pub cell_asked : CellsAsked C o₀ w n → i < cells_of C → CellAsked C o w n i k
    unfolding placed_cells
    cell_asked a h = record {
      entry = omega (arith, a.sized.long);
      inside = h;
      few = l.few;
      small = omega (arith, a.sized.cells.few);
      named = a.named i h;
      room = λ d. omega (
        arith,
        l.stored.count,
        run_room (cells_of C) (placed_cell C w n) i h,
        (placed_length C w n i).1 d,
        a.fits,
        ap length l.stored.kept,
        length-sets o₀ 0 (run i (placed_cell C w n) 0),
      );
    }

    pub placing_done : CellsAsked C o₀ w n → i ≡ cells_of C → o ≡ placed_cells C w n
    unfolding placed_cells
    placing_done a e =
        l.stored.kept ∙ ap (λ (m : ℕ). sets o₀ 0 (run m (placed_cell C w n) 0)) e
        ∙ sets_whole (run (cells_of C) (placed_cell C w n) 0) o₀ (sym a.fits)

-- ---- points

-- an entry outside a run of stores, and one in it
sets_out : (vs l : List ℕ) (at k : ℕ) → (k < at) ⊎ (at + length vs ≤ k) → get_or (sets l at vs) k 0 ≡ get_or l k 0
sets_out [] l at k h = refl
sets_out (x ∷ vs) l at k h = sets_out vs (set l at x) (suc at) k (further h) ∙ get_or-set_other l at k x 0 (apart h)
  where
    further : (k < at) ⊎ (at + suc (length vs) ≤ k) → (k < suc at) ⊎ (suc at + length vs ≤ k)
    further (inl q) = inl (omega arith)
    further (inr q) = inr (omega arith)

    apart : (k < at) ⊎ (at + suc (length vs) ≤ k) → k ≢ at
    apart (inl q) e = omega arith
    apart (inr q) e = omega arith

sets_in : (vs l : List ℕ) (at k : ℕ) → k < length vs → at + length vs ≤ length l → get_or (sets l at vs) (at + k) 0 ≡ get_or vs k 0
sets_in [] l at k h room = absurd (not-suc-le-zero h)
sets_in (x ∷ vs) l at zero h room =
    let e : at + 0 ≡ at = omega arith in
    ap (λ (m : ℕ). get_or (sets (set l at x) (suc at) vs) m 0) e ∙ sets_out vs (set l at x) (suc at) at (inl (omega arith)) ∙ get_or-set_same l at x 0 (omega arith)
sets_in (x ∷ vs) l at (suc k) h room =
    let e : at + suc k ≡ suc at + k = omega arith in
    ap (λ (m : ℕ). get_or (sets (set l at x) (suc at) vs) m 0) e
    ∙ sets_in vs (set l at x) (suc at) k (le_of_suc-le-suc h) (omega (arith, length-set l at x))

bits_at : (P : List ℕ) (v a : ℕ) → a < 3 → get_or (point_bits P v) a 0 ≡ get_or P (3 * v + a) 0
unfolding point_bits
bits_at P v zero h = let e : 3 * v ≡ 3 * v + 0 = omega arith in ap (λ (m : ℕ). get_or P m 0) e
bits_at P v (suc zero) h = refl
bits_at P v (suc (suc zero)) h = refl
bits_at P v (suc (suc (suc a))) h = absurd (omega arith)

bits_three : (P : List ℕ) (v : ℕ) → length (point_bits P v) ≡ 3
unfolding point_bits
bits_three P v = refl

pub points_length : (P s : List ℕ) → length (points_at P s) ≡ 3 * length s
unfolding points_at
points_length P s = spread_length (point_bits P) 3 (bits_three P) s

pub points_at_lem : (P s : List ℕ) (k a : ℕ) → k < length s → a < 3 → get_or (points_at P s) (3 * k + a) 0 ≡ get_or P (3 * get_or s k 0 + a) 0
unfolding points_at
points_at_lem P s k a h b = spread_at (point_bits P) 3 (bits_three P) s k a h b ∙ bits_at P (get_or s k 0) a b

-- one point
module _ {P o T : List ℕ} {v k : ℕ} (e : k ≡ get_or T v 0) where
  pub point_copied : {o' : List ℕ} → k ≢ 0 → o' ≡ sets o (3 * (k - 1)) (point_bits P v) → PointStored P o o' T v
  point_copied d s = record { unused = λ z. absurd (d (e ∙ z)); stored = λ y. s ∙ ap (λ (m : ℕ). sets o (3 * (m - 1)) (point_bits P v)) e }

module _ (P T o₀ : List ℕ) where
  -- the points below v that are used stand at their places
  pub record Copying (o : List ℕ) (v : ℕ) : Type 0 where
    pub size : length o ≡ length o₀
    pub copied : (s : List ℕ) → Table T s → length o₀ ≡ 3 * length s → (u : ℕ) → u < v → place u s < length s → (a : ℕ) → a < 3
        → get_or o (3 * place u s + a) 0 ≡ get_or P (3 * u + a) 0

  pub copying_step : (o o' : List ℕ) (v : ℕ) → Copying o v → length o' ≡ length o → PointStored P o o' T v → Copying o' (v + 1)
  copying_step o o' v l same p = record {
    size = same ∙ l.size;
    copied = λ s t e u b h a c. go s t e u b h a c (eq_or u v) (eq_or (get_or T v 0) 0);
  }
    where
      go : (s : List ℕ) → Table T s → length o₀ ≡ 3 * length s → (u : ℕ) → u < v + 1 → place u s < length s → (a : ℕ) → a < 3
          → (u ≡ v) ⊎ (u ≢ v) → (get_or T v 0 ≡ 0) ⊎ (get_or T v 0 ≢ 0) → get_or o' (3 * place u s + a) 0 ≡ get_or P (3 * u + a) 0
      go s t e u b h a c (inl q) (inl z) = absurd (omega (arith, t.given u h, ap (λ (k : ℕ). get_or T k 0) q))
      go s t e u b h a c (inl q) (inr d) =
          let at : 3 * (get_or T v 0 - 1) ≡ 3 * place u s = omega (arith, t.given u h, ap (λ (k : ℕ). get_or T k 0) q) in
          ap (λ (m : List ℕ). get_or m (3 * place u s + a) 0) (p.stored d ∙ ap (λ (k : ℕ). sets o k (point_bits P v)) at)
          ∙ sets_in (point_bits P v) o (3 * place u s) a (omega (arith, bits_three P v)) (omega (arith, bits_three P v, l.size))
          ∙ bits_at P v a c ∙ ap (λ (k : ℕ). get_or P (3 * k + a) 0) (sym q)
      go s t e u b h a c (inr n) (inl z) = ap (λ (m : List ℕ). get_or m (3 * place u s + a) 0) (p.unused z) ∙ l.copied s t e u (omega arith) h a c
      go s t e u b h a c (inr n) (inr d) =
          ap (λ (m : List ℕ). get_or m (3 * place u s + a) 0) (p.stored d)
          ∙ sets_out (point_bits P v) o (3 * (get_or T v 0 - 1)) (3 * place u s + a) (apart (lt_or (place v s) (length s)) (lt_or (place u s) (place v s)))
          ∙ l.copied s t e u (omega arith) h a c
        where
          apart : (place v s < length s) ⊎ (length s ≤ place v s) → (place u s < place v s) ⊎ (place v s ≤ place u s)
              → (3 * place u s + a < 3 * (get_or T v 0 - 1)) ⊎ (3 * (get_or T v 0 - 1) + length (point_bits P v) ≤ 3 * place u s + a)
          apart (inr g) w = absurd (d (t.free v g))
          apart (inl g) (inl w) = inl (omega (arith, t.given v g))
          apart (inl g) (inr w) = inr (further (eq_or (place u s) (place v s)))
            where
              further : (place u s ≡ place v s) ⊎ (place u s ≢ place v s) → 3 * (get_or T v 0 - 1) + length (point_bits P v) ≤ 3 * place u s + a
              further (inl r) = absurd (n (place_one u v s h r))
              further (inr r) = omega (arith, t.given v g, bits_three P v)

  pub copying_done : (o : List ℕ) (v : ℕ) → Copying o v → length T ≤ v → PointsStored P o₀ o T
  copying_done o v l d = record {
    all = λ s t x e. ext_get_or 0 o (points_at P s) (l.size ∙ e ∙ sym (points_length P s)) (λ k b. at s t x e k (omega (arith, l.size)));
  }
    where
      at : (s : List ℕ) → Table T s → Distinct s → length o₀ ≡ 3 * length s → (k : ℕ) → k < 3 * length s → get_or o k 0 ≡ get_or (points_at P s) k 0
      at s t x e k b =
          let q : ℕ = k / 3 in
          let a : ℕ = k % 3 in
          let ke : 3 * (k / 3) + k % 3 ≡ k = omega arith in
          let qh : k / 3 < length s = omega arith in
          let own : place (get_or s (k / 3) 0) s ≡ k / 3 = x.own (k / 3) qh in
          let there : get_or s (k / 3) 0 < length T = entry_in T (get_or s (k / 3) 0) (omega (arith, t.given (get_or s (k / 3) 0) (omega (arith, own)))) in
          ap (λ (m : ℕ). get_or o m 0) (sym ke)
          ∙ ap (λ (m : ℕ). get_or o (3 * m + k % 3) 0) (sym own)
          ∙ l.copied s t e (get_or s (k / 3) 0) (omega arith) (omega (arith, own)) (k % 3) (omega arith)
          ∙ sym (points_at_lem P s (k / 3) (k % 3) qh (omega arith))
          ∙ ap (λ (m : ℕ). get_or (points_at P s) m 0) ke
