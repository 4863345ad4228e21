-- How many marks are of one kind: turn by turn, and as many as which cells. Assumes nothing.
use mathlib.Core.Path.{◌≡◌, refl, sym, ap, ap₂, ◌∙◌}
use mathlib.Core.Bool.{Bool, true, false, cond, ◌&&◌}
use mathlib.Core.List.{List, [], ◌∷◌}
use Prim.Native.Nat.{ℕ, zero, suc, ◌+◌, ◌*◌, ◌≤◌, ◌<◌}
use native.Mathlib.Nat.{zero-add}
use native.Mathlib.Numerals.{add-one}
use native.Mathlib.Omega.{arith}
use borrow.Author.Tests.{eq-eqb, ne_eqb}
use lib.Dec.{eqb}
use lib.Ieee.{Float}
use lib.ListN.{length, get_or, drop, drop_of_length-le, length-append}
use lib.Seq.{drop-cons}
use Rattle.lists.specs.Tests.{bit}
use Rattle.lists.specs.Tables.{list_of}
use Rattle.lists.specs.Runs.{run, those}
use Rattle.lists.proofs.Running.{run_last}
use Rattle.lists.proofs.Passing.{those_next, those_same}
use Rattle.sorting.specs.Entries.{many}
use Rattle.sorting.specs.Numbers.{hit, cnt}
use Rattle.sorting.proofs.Counting.{many_append}
use Rattle.mesh.specs.Mesh.{cell_of, in_order}
use Rattle.mesh.specs.declared.Cell.{Cell}
use Rattle.volume.specs.Volume.{verdict_at}
use Rattle.volume.specs.declared.Verdict.{Verdict}
use Rattle.volume.specs.declared.Verdict.TheVariants.{Kept, Exchanged, Dropped}
use Rattle.marked.specs.Weighed.{shaped, is_dropped, shape_at, drops_at, final_cells, dropped_count}
use Rattle.marks.specs.Marks.{verdict_mark, mark_by}

-- ---- the loop: at turn i so many are counted

pub record Counting (k : ℕ) (l : List ℕ) (i many : ℕ) : Type 0 where
  pub left : many + cnt k (drop i l) ≡ cnt k l
  pub few : many ≤ i

module _ {k : ℕ} {l : List ℕ} {i many : ℕ} (g : Counting k l i many) where
  turn : i < length l → cnt k (drop i l) ≡ hit k (get_or l i 0) + cnt k (drop (i + 1) l)
  unfolding many
  turn h = ap (cnt k) (drop-cons l i 0 h) ∙ ap (λ (j : ℕ). hit k (get_or l i 0) + cnt k (drop j l)) (sym (add-one i))

  pub count_one : i < length l → get_or l i 0 ≡ k → Counting k l (i + 1) (many + 1)
  count_one h e = record { left = omega (arith, g.left, turn h, ap bit (eq-eqb k (get_or l i 0) (sym e))); few = omega (arith, g.few) }

  pub count_none : i < length l → (get_or l i 0 ≡ k → ⊥) → Counting k l (i + 1) many
  count_none h d = record { left = omega (arith, g.left, turn h, ap bit (ne_eqb k (get_or l i 0) (λ e. d (sym e)))); few = omega (arith, g.few) }

  pub count_done : length l ≤ i → many ≡ cnt k l
  unfolding many
  count_done h = omega (arith, g.left, ap (cnt k) (drop_of_length-le l {i = i} h))

pub count_start : (k : ℕ) (l : List ℕ) → Counting k l 0 0
count_start k l = record { left = zero-add (cnt k l); few = omega arith }

-- ---- of the cells that a test marks

-- a number stands as often as f gives it
cnt_list : (k : ℕ) (f : ℕ → ℕ) (n : ℕ) → cnt k (list_of f n) ≡ length (those (λ i. eqb k (f i)) n)
unfolding many list_of those run
cnt_list k f zero = refl
cnt_list k f (suc n) =
    many_append (eqb k) (list_of f n) (f n ∷ [])
    ∙ ap₂ (λ (a b : ℕ). a + b) (cnt_list k f n) (one (eqb k (f n)))
    ∙ sym (ap length (those_next (λ i. eqb k (f i)) n) ∙ length-append (those (λ i. eqb k (f i)) n) (cond (eqb k (f n)) (n ∷ []) []))
  where
    one : (t : Bool) → bit t + 0 ≡ length (cond t (n ∷ []) [])
    one true = refl
    one false = refl

module _ (mark : ℕ → Bool) (least : Float) (P C : List ℕ) where
  abbrev mark_at : ℕ → ℕ
  mark_at i = mark_by (mark i) (verdict_at P C i least)

  -- those marked 2 are the cells dropped
  two_drops : (b : Bool) (v : Verdict) → eqb 2 (mark_by b v) ≡ b && is_dropped v
  unfolding mark_by verdict_mark is_dropped
  two_drops false v = refl
  two_drops true (Kept x) = refl
  two_drops true (Exchanged x) = refl
  two_drops true (Dropped x) = refl

  pub twos : (n : ℕ) → cnt 2 (list_of mark_at n) ≡ dropped_count mark least P C n
  unfolding dropped_count drops_at
  twos n = cnt_list 2 mark_at n ∙ ap length (those_same (λ i. eqb 2 (mark_at i)) (λ i. mark i && is_dropped (verdict_at P C i least)) n (λ i h. two_drops (mark i) (verdict_at P C i least)))

  -- those marked 1 give the mesh four vertices each, and no other cell gives any
  one_shape : (b : Bool) (v : Verdict) (k : Cell) (i : ℕ) → length (cond b (shaped v k) []) ≡ 4 * length (cond (eqb 1 (mark_by b v)) (i ∷ []) [])
  unfolding mark_by verdict_mark shaped in_order
  one_shape false v k i = refl
  one_shape true (Kept x) k i = refl
  one_shape true (Exchanged x) k i = refl
  one_shape true (Dropped x) k i = refl

  shapes : (n : ℕ) → length (run n (λ i. shape_at (mark i) least P C i) 0) ≡ 4 * length (those (λ i. eqb 1 (mark_at i)) n)
  unfolding run those shape_at
  shapes zero = refl
  shapes (suc n) =
      let t : List ℕ = those (λ i. eqb 1 (mark_at i)) n in
      let last : List ℕ = cond (eqb 1 (mark_at n)) (n ∷ []) [] in
      let e : length (run (suc n) (λ i. shape_at (mark i) least P C i) 0) ≡ length (run n (λ i. shape_at (mark i) least P C i) 0) + length (shape_at (mark n) least P C n) =
      ap (λ (k : ℕ). length (run k (λ i. shape_at (mark i) least P C i) 0)) (sym (add-one n))
      ∙ ap length (run_last (λ i. shape_at (mark i) least P C i) n)
      ∙ length-append (run n (λ i. shape_at (mark i) least P C i) 0) (shape_at (mark n) least P C n)
      in
      let f : length (those (λ i. eqb 1 (mark_at i)) (suc n)) ≡ length t + length last = ap length (those_next (λ i. eqb 1 (mark_at i)) n) ∙ length-append t last in
      omega (arith, e, f, shapes n, one_shape (mark n) (verdict_at P C n least) (cell_of C n) n)

  pub ones : (n : ℕ) → 4 * cnt 1 (list_of mark_at n) ≡ length (final_cells mark least P C n)
  unfolding final_cells
  ones n = ap (λ (k : ℕ). 4 * k) (cnt_list 1 mark_at n) ∙ sym (shapes n)
