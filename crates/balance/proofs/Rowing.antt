-- A level row by row: what is balanced, and what would be. Assumes nothing.
use mathlib.Core.Path.{◌≡◌, ap, ap₂, sym, ◌∙◌, fun_ext}
use mathlib.Core.Bool.{Bool, true, not, ◌&&◌, ◌||◌}
use mathlib.Core.List.{List}
use Prim.Native.Nat.{ℕ, zero, ◌+◌, ◌*◌, ◌/◌, ◌%◌, ◌≤◌, ◌<◌}
use native.Mathlib.Omega.{arith}
use native.Mathlib.Nat.{mod-lt, div-lt_iff_lt-mul, div-add-mod'}
use lib.Arith.{digits_lt}
use lib.Dec.{eqb}
use lib.ListN.{length, get_or, replicate, length-replicate}
use Rattle.lists.specs.Tests.{any, bit}
use Rattle.lists.proofs.Bools.{bool_ext}
use Rattle.lists.proofs.Any.{any_some, some_any}
use Rattle.lists.proofs.Lent.{zeros_at}
use Rattle.space.specs.Space.{ay, Pos}
use Rattle.space.specs.Levels.{size}
use Rattle.octants.specs.Oct.{near}
use Rattle.octants.specs.Table.{slot, place}
use Rattle.octants.proofs.TableLaws.{factor_right}
use Rattle.octree.specs.Parts.{counts_of, below_of, in_level}
use Rattle.octree.specs.Sweep.{one, Swept}
use Rattle.octree.specs.declared.Level.{Level}
use Rattle.octree.proofs.Sweeping.{swept_cong, rows_more, row_layer, row_fits, row_place}
use Rattle.balance.specs.Parts.{touched_of, Blank, Seen, LevelAsked, touches, balanced_byte, gives}

pub blank : (w : ℕ) → w ≤ 1024 → Blank (replicate 1026 zero) w
blank w h = record { room = omega (arith, length-replicate 1026 zero); none = λ j. ap (λ (v : ℕ). eqb v 1) (zeros_at 1026 j) }

-- row q is one of the level's, and in the table
pub record RowIn (s : List ℕ) (v : Level) (q : ℕ) : Type 0 where
  pub some : 1 ≤ v.ny
  pub y : q % v.ny < v.ny
  pub z : q / v.ny < v.nz
  pub room : v.start + q * v.nx + v.nx ≤ length s
  pub short : v.nx ≤ 512

pub row_in : {s : List ℕ} {v : Level} {q : ℕ} → LevelAsked s v × (q < v.ny * v.nz) → RowIn s v q
row_in {s} {v} {q} h =
    let k = h.0.stacked in
    let r = row_layer v.nx v.ny v.nz q (k.counts.some ay) h.1 in
    record { some = k.counts.some ay; y = r.0; z = r.1; room = omega (arith, k.room, row_fits v.nx v.ny v.nz q h.1); short = h.0.short }

pub any_cong : (n : ℕ) (f g : ℕ → Bool) → ((k : ℕ) → k < n → f k ≡ g k) → any n f ≡ any n g
any_cong n f g e = bool_ext (any n f) (any n g) (go f g e) (go g f (λ k h. sym (e k h)))
  where
    go : (f g : ℕ → Bool) → ((k : ℕ) → k < n → f k ≡ g k) → any n f ≡ true → any n g ≡ true
    go f g e h = let k = any_some n f h in some_any n g k.0 k.1 (sym (e k.0 k.1) ∙ k.2)

-- ---- row q: its marks tell which of its octants are touched

module _ (v : Level) (q : ℕ) {seen e : List ℕ} (h : Seen seen e (below_of v) v.nx (q % v.ny) (q / v.ny)) where
  row_touches : (x : ℕ) → x < v.nx → touched_of seen x ≡ touches e v (q * v.nx + x)
  unfolding touches
  row_touches x f = h.tells x f ∙ ap (near (counts_of (below_of v)) (in_level e (below_of v))) (sym (row_place v.nx v.ny v.nz q x f))

  pub row_balanced : {s : List ℕ} → Swept e s (v.start + q * v.nx) v.nx (λ x. bit (one e (v.start + q * v.nx + x) || touched_of seen x))
      → Swept e s (v.start + q * v.nx) v.nx (λ x. balanced_byte e v (q * v.nx + x))
  row_balanced w = swept_cong _ w (λ x f.
      let a : v.start + q * v.nx + x ≡ v.start + (q * v.nx + x) = omega arith in
      ap₂ (λ (i : ℕ) (t : Bool). bit (one e i || t)) a (row_touches x f))

  pub row_gives : any v.nx (λ x. not (one e (v.start + q * v.nx + x)) && touched_of seen x) ≡ any v.nx (λ x. gives e v (q * v.nx + x))
  row_gives = any_cong v.nx _ _ (λ x f.
      let a : v.start + q * v.nx + x ≡ v.start + (q * v.nx + x) = omega arith in
      ap₂ (λ (i : ℕ) (t : Bool). not (one e i) && t) a (row_touches x f))

-- ---- all rows

-- the balance of a row may read what is written so far: it does not look there
balanced_swept : {e s : List ℕ} {r : ℕ} {f : ℕ → ℕ} (v : Level) (i : ℕ) → Swept e s v.start r f → r ≤ i → r ≤ size (counts_of v) → balanced_byte s v i ≡ balanced_byte e v i
unfolding touches
balanced_swept {e} {s} {r} {f} v i w h g =
    ap (λ (b : ℕ). bit (eqb b 1 || near (counts_of (below_of v)) (in_level s (below_of v)) (place (counts_of v) i))) (w.high (v.start + i) (omega arith))
    ∙ ap (λ (t : Pos → Bool). bit (eqb (get_or e (v.start + i) 0) 1 || near (counts_of (below_of v)) t (place (counts_of v) i))) (fun_ext same)
  where
    same : (y : Pos) → in_level s (below_of v) y ≡ in_level e (below_of v) y
    same y = ap (λ (b : ℕ). eqb b 1) (w.high ((below_of v).start + slot (counts_of (below_of v)) y) (omega arith))

-- one row more
pub balanced_more : {e s t : List ℕ} (v : Level) (q : ℕ) → q < v.ny * v.nz → Swept e s v.start (q * v.nx) (balanced_byte e v)
    → Swept s t (v.start + q * v.nx) v.nx (λ x. balanced_byte s v (q * v.nx + x)) → Swept e t v.start ((q + 1) * v.nx) (balanced_byte e v)
balanced_more {e} {s} {t} v q h w r = rows_more v.nx q (balanced_byte s v) w r
    (λ x f. balanced_swept v (q * v.nx + x) w (omega arith) (omega (arith, row_fits v.nx v.ny v.nz q h)))

-- some octant of n rows of w
any_rows : (w n : ℕ) (f : ℕ → Bool) → any n (λ q. any w (λ x. f (q * w + x))) ≡ any (n * w) f
any_rows w n f = bool_ext (any n (λ q. any w (λ x. f (q * w + x)))) (any (n * w) f) there back
  where
    there : any n (λ q. any w (λ x. f (q * w + x))) ≡ true → any (n * w) f ≡ true
    there h =
        let q = any_some n (λ q. any w (λ x. f (q * w + x))) h in
        let x = any_some w (λ x. f (q.0 * w + x)) q.2 in
        some_any (n * w) f (q.0 * w + x.0) (digits_lt q.1 x.1) x.2

    back : any (n * w) f ≡ true → any n (λ q. any w (λ x. f (q * w + x))) ≡ true
    back h =
        let r = any_some (n * w) f h in
        let p : 0 < w = factor_right n w r.0 r.1 in
        some_any n (λ q. any w (λ x. f (q * w + x))) (r.0 / w) ((div-lt_iff_lt-mul p).1 r.1)
        (some_any w (λ x. f (r.0 / w * w + x)) (r.0 % w) (mod-lt r.0 p) (ap f (div-add-mod' r.0 w) ∙ r.2))

pub level_gives : (nx ny nz : ℕ) (f : ℕ → Bool) → any (ny * nz) (λ q. any nx (λ x. f (q * nx + x))) ≡ any (nx * ny * nz) f
level_gives nx ny nz f =
    let e : ny * nz * nx ≡ nx * ny * nz = omega arith in
    any_rows nx (ny * nz) f ∙ ap (λ (n : ℕ). any n f) e
