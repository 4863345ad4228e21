-- Clearing what does not stand under an octant that counts, level by level from the roots down, makes the raw refinement. Assumes nothing.
use mathlib.Core.Path.{◌≡◌, refl, ap, ap₂, sym, ◌∙◌, subst}
use mathlib.Core.Bool.{Bool, true, ◌&&◌}
use mathlib.Core.List.{List}
use Prim.Native.Nat.{ℕ, suc, ◌+◌, ◌*◌, ◌-◌, ◌/◌, ◌%◌, ◌≤◌, ◌<◌}
use native.Mathlib.Omega.{arith}
use lib.Dec.{eqb}
use lib.ListN.{get_or, length}
use Rattle.lists.specs.Tests.{bit}
use Rattle.lists.specs.Tables.{all_at_most}
use Rattle.space.specs.Space.{ax, ay, Pos, pos}
use Rattle.space.proofs.Space.{inside_three}
use Rattle.space.specs.Levels.{depth, size, off}
use Rattle.space.proofs.Levels.{off_suc}
use Rattle.octants.specs.Oct.{Tree, parent, raw, raw_from}
use Rattle.octants.specs.Table.{place, at, read, raw_of}
use Rattle.octants.proofs.TableLaws.{place_in_lem, slot_lt, slot_room}
use Rattle.octants.proofs.Levels.{half_in, parent_place}
use Rattle.octree.specs.Parts.{counts_of, level_at, below_of, in_level, Stacked}
use Rattle.octree.specs.Sweep.{one, Swept, Shows}
use Rattle.octree.specs.declared.Level.{Level}
use Rattle.octree.proofs.Levels.{level_eq, on_below}
use Rattle.octree.proofs.Sweeping.{swept_cong, rows_more, row_layer, row_fits, row_place}
use Rattle.octree.proofs.Showing.{shows_at, shows_table, shows_read, shows_part, read_one, shows_above, shows_join}
use Rattle.answers.specs.Parts.{cleared_byte}

-- ---- rows

-- where the octant over the first one of row r stands, in the level v; p is the level below
abbrev slot_over : Level → Level → ℕ → ℕ
slot_over v p r = 0 + r % p.ny / 2 * v.nx + r / p.ny / 2 * (v.nx * v.ny)

-- row r is in the table, and the octants over it stand before it
pub record RowIn (s : List ℕ) (v p : Level) (r : ℕ) : Type 0 where
  pub some : 1 ≤ p.ny
  pub room : p.start + r * p.nx + p.nx ≤ length s
  pub layer : v.nx * v.ny ≤ p.start
  pub over : v.start + slot_over v p r + (p.nx + 1) / 2 ≤ p.start

module _ (v : Level) (r : ℕ) {p : Level} (e : p ≡ below_of v) where
  pub row_in : {s : List ℕ} → Stacked s v × (r < (below_of v).ny * (below_of v).nz) → RowIn s v p r
  row_in {s} h = subst (λ (p : Level). RowIn s v p r) (sym e)
      (let k = h.0 in
      let fx : 1 ≤ v.nx = k.counts.some ax in
      let fy : 1 ≤ v.ny = k.counts.some ay in
      let l = row_layer (2 * v.nx) (2 * v.ny) (2 * v.nz) r (omega arith) h.1 in
      let y : r % (2 * v.ny) / 2 < v.ny = omega (arith, l.0) in
      let z : r / (2 * v.ny) / 2 < v.nz = omega (arith, l.1) in
      let o = slot_room v.start (below_of v).start (counts_of v) (pos (v.nx - 1) (r % (2 * v.ny) / 2) (r / (2 * v.ny) / 2)) (inside_three (omega arith) y z) (omega arith) in
      record { some = omega arith; room = omega (arith, k.room, row_fits (2 * v.nx) (2 * v.ny) (2 * v.nz) r h.1); layer = o.1; over = omega (arith, o.0) })

  pub row_cleared : {t s : List ℕ} {o : ℕ} → o ≡ slot_over v p r
      → Swept t s (p.start + r * p.nx) p.nx (λ x. bit (one t (p.start + r * p.nx + x) && one t (v.start + o + x / 2)))
      → Swept t s ((below_of v).start + r * (below_of v).nx) (below_of v).nx (λ x. cleared_byte t v (r * (below_of v).nx + x))
  unfolding cleared_byte
  row_cleared {t} {s} {o} d w = subst (λ (p : Level). Swept t s (p.start + r * p.nx) p.nx (λ x. bit (one t (p.start + (r * p.nx + x)) && in_level t v (parent (place (counts_of p) (r * p.nx + x)))))) e
      (swept_cong _ w (λ x f.
      let a : p.start + r * p.nx + x ≡ p.start + (r * p.nx + x) = omega arith in
      let u : v.start + o + x / 2 ≡ v.start + (x / 2 + r % p.ny / 2 * v.nx + r / p.ny / 2 * (v.nx * v.ny)) = omega arith in
      ap₂ (λ (i k : ℕ). bit (one t i && one t k)) a u
      ∙ ap (λ (q : Pos). bit (one t (p.start + (r * p.nx + x)) && in_level t v (parent q))) (sym (row_place p.nx p.ny p.nz r x f))))

-- a row may read what is written so far: it does not look there
clear_swept : {e s : List ℕ} {r : ℕ} {f : ℕ → ℕ} (v : Level) (i : ℕ) → Swept e s (below_of v).start r f → r ≤ i → i < size (counts_of (below_of v))
    → cleared_byte s v i ≡ cleared_byte e v i
unfolding cleared_byte
clear_swept {e} {s} {r} {f} v i w g h =
    let p : Pos = parent (place (counts_of (below_of v)) i) in
    ap (λ (b : ℕ). bit (eqb b 1 && in_level s v p)) (w.high ((below_of v).start + i) (omega arith))
    ∙ ap (λ (b : ℕ). bit (eqb (get_or e ((below_of v).start + i) 0) 1 && eqb b 1)) (w.low _ (omega (arith, slot_lt (counts_of v) p (parent_place (counts_of v) i h))))

-- one row more
pub cleared_more : {e s t : List ℕ} (v : Level) (r : ℕ) → r < (below_of v).ny * (below_of v).nz → Swept e s (below_of v).start (r * (below_of v).nx) (cleared_byte e v)
    → Swept s t ((below_of v).start + r * (below_of v).nx) (below_of v).nx (λ x. cleared_byte s v (r * (below_of v).nx + x))
    → Swept e t (below_of v).start ((r + 1) * (below_of v).nx) (cleared_byte e v)
cleared_more {e} {s} {t} v r h w q = rows_more (below_of v).nx r (cleared_byte s v) w q
    (λ x f. clear_swept v (r * (below_of v).nx + x) w (omega arith) (omega (arith, row_fits (below_of v).nx (below_of v).ny (below_of v).nz r h)))

-- ---- the levels

-- the byte of octant i of the level j + 1 levels down
abbrev cleared_at : Pos → List ℕ → ℕ → ℕ → ℕ
cleared_at d s j i = bit (one s (off d (suc j) + i) && at s (off d j) (depth d j) (parent (place (depth d (suc j)) i)))

level_cleared : (d : Pos) (j : ℕ) {v : Level} → v ≡ level_at d j → {e s : List ℕ} → Swept e s (below_of v).start (size (counts_of (below_of v))) (cleared_byte e v)
    → Swept e s (off d (suc j)) (size (depth d (suc j))) (cleared_at d e j)
unfolding cleared_byte
level_cleared d j {v} h {e} {s} w = on_below d j h (λ o n. Swept e s o (size n) (λ i. bit (one e (o + i) && at e (off d j) (depth d j) (parent (place n i)))))
    (swept_cong _ w (λ i f. level_eq d j h (λ o n. bit (one e ((below_of v).start + i) && at e o n (parent (place (counts_of (below_of v)) i))))))

module _ (d : Pos) (l : ℕ) (c : List ℕ) where
  abbrev t : Tree
  t = raw l (read d l c)

  raw_step : (m : ℕ) (x : Pos) → m < l → t m x ≡ read d l c m x && t (suc m) (parent x)
  unfolding raw_from
  raw_step m x h =
      let e : l - m ≡ suc (l - suc m) = omega arith in
      ap (λ (k : ℕ). raw_from (read d l c) k m x) e

  raw_root : (x : Pos) → t l x ≡ read d l c l x
  unfolding raw_from
  raw_root x =
      let e : l - l ≡ 0 = omega arith in
      ap (λ (k : ℕ). raw_from (read d l c) k l x) e

  -- what the code's loop knows after j of the levels: from the next on the table still holds the answers
  pub record Cleared (s : List ℕ) (j : ℕ) : Type 0 where
    pub few : j < l
    pub long : length s ≡ length c
    pub shows : Shows d l s t 0 (suc j)
    pub fresh : (i : ℕ) → off d (suc j) ≤ i → get_or s i 0 ≡ get_or c i 0

  -- the roots, whose answers all count
  pub cleared_start : 0 < l → length c ≡ off d l → all_at_most 1 c ≡ true → Cleared c 0
  cleared_start f e a = record { few = f; long = refl; shows = record { byte = byte }; fresh = λ i p. refl }
    where
      byte : (j i : ℕ) → 0 ≤ j → j < 1 → i < size (depth d j) → get_or c (off d j + i) 0 ≡ bit (t (l - j) (place (depth d j) i))
      byte j i p q o =
          let u : l ≡ l - j = omega arith in
          (shows_read d l c e a).byte j i p (omega arith) o
          ∙ subst (λ (k : ℕ). (x : Pos) → bit (read d l c k x) ≡ bit (t k x)) u (λ x. ap bit (sym (raw_root x))) (place (depth d j) i)

  pub cleared_turn : {e s : List ℕ} (j : ℕ) {v : Level} → j < l - 1 → v ≡ level_at d j → Swept e s (below_of v).start (size (counts_of (below_of v))) (cleared_byte e v)
      → Cleared e j → Cleared s (j + 1)
  cleared_turn {e} {s} j {v} f q w₀ h = subst (Cleared s) u
      (record {
        few = omega arith;
        long = w.long ∙ h.long;
        shows = shows_join d l s t 0 (suc (suc j)) (suc j) byte (shows_above d l (suc j) t 0 (suc j) w (omega arith) h.shows) (record { byte = λ k i p q o. absurd (omega arith) });
        fresh = λ i p. w.high i (omega (arith, off_suc d (suc j))) ∙ h.fresh i (omega (arith, off_suc d (suc j)));
      })
    where
      u : suc j ≡ j + 1
      u = omega arith

      w : Swept e s (off d (suc j)) (size (depth d (suc j))) (cleared_at d e j)
      w = level_cleared d j q w₀

      byte : (i : ℕ) → i < size (depth d (suc j)) → get_or s (off d (suc j) + i) 0 ≡ bit (t (l - suc j) (place (depth d (suc j)) i))
      byte i o =
          let x : Pos = place (depth d (suc j)) i in
          let a : suc (l - suc j) ≡ l - j = omega arith in
          let g : suc j < l = omega arith in
          w.done i o
          ∙ ap (λ (b : ℕ). bit (eqb b 1 && at e (off d j) (depth d j) (parent x))) (h.fresh (off d (suc j) + i) (omega arith))
          ∙ ap (λ (b : Bool). bit (b && at e (off d j) (depth d j) (parent x))) (read_one d l c (suc j) i g)
          ∙ ap (λ (b : Bool). bit (read d l c (l - suc j) x && b))
          (shows_at d l e t 0 (suc j) j h.shows (omega arith) (omega arith) (parent x) (λ k. half_in (d k) j (x k) (place_in_lem (depth d (suc j)) i o k)))
          ∙ ap (λ (k : ℕ). bit (read d l c (l - suc j) x && t k (parent x))) (sym a)
          ∙ ap bit (sym (raw_step (l - suc j) x (omega arith)))

  pub cleared_end : (s : List ℕ) (j : ℕ) → l - 1 ≤ j → length c ≡ off d l → Cleared s j → s ≡ raw_of d l c
  cleared_end s j p e h =
      let f : j < l = h.few in
      shows_table d l s t (h.long ∙ e) (shows_part d l s t 0 (suc j) 0 l (omega arith) (omega arith) h.shows)
