-- Passes over parts of the table, one after another. Assumes nothing.
use mathlib.Core.Path.{◌≡◌, refl, ap, sym, ◌∙◌, fun_ext, subst}
use mathlib.Core.List.{List}
use Prim.Native.Nat.{ℕ, ◌+◌, ◌*◌, ◌-◌, ◌/◌, ◌%◌, ◌≤◌, ◌<◌}
use native.Mathlib.Omega.{arith}
use native.Mathlib.Nat.{mul-le-mul_right, mod-lt, div-lt_iff_lt-mul, div-div-eq-div-mul, mul_comm}
use native.Mathlib.Decide.{dec_le}
use lib.Arith.{digits_div, digits_mod}
use lib.ListN.{get_or, set, length, length-set}
use lib.Seq.{get_or-set_same, get_or-set_other}
use Rattle.space.specs.Space.{pos}
use Rattle.space.proofs.Space.{on_all}
use Rattle.octants.specs.Table.{place}
use Rattle.octree.specs.Sweep.{Swept}

pub swept_none : (e : List ℕ) (o : ℕ) (f : ℕ → ℕ) → Swept e e o 0 f
swept_none e o f = record { long = refl; done = λ i h. absurd (omega arith); low = λ j h. refl; high = λ j h. refl }

-- a part right after the part that is done
pub swept_run : {e s t : List ℕ} {o r : ℕ} {f : ℕ → ℕ} (k : ℕ) (g : ℕ → ℕ) → Swept e s o r f → Swept s t (o + r) k g → ((i : ℕ) → i < k → g i ≡ f (r + i))
    → Swept e t o (r + k) f
swept_run {e} {s} {t} {o} {r} {f} k g w v h =
    record {
      long = v.long ∙ w.long;
      done = done';
      low = λ j q. v.low j (omega arith) ∙ w.low j q;
      high = λ j q. v.high j (omega arith) ∙ w.high j (omega arith);
    }
  where
    done' : (i : ℕ) → i < r + k → get_or t (o + i) 0 ≡ f i
    done' i q = go (dec_le r i)
      where
        go : Dec (r ≤ i) → get_or t (o + i) 0 ≡ f i
        go (yes a) =
            let x : o + r + (i - r) ≡ o + i = omega arith in
            let y : r + (i - r) ≡ i = omega arith in
            ap (λ (j : ℕ). get_or t j 0) (sym x) ∙ v.done (i - r) (omega arith) ∙ h (i - r) (omega arith) ∙ ap f y
        go (no a) = v.low (o + i) (omega arith) ∙ w.done i (omega arith)

-- one byte
swept_one : (s : List ℕ) (i v : ℕ) (f : ℕ → ℕ) → i < length s → v ≡ f 0 → Swept s (set s i v) i 1 f
swept_one s i v f h e =
    record {
      long = length-set s i v;
      done = λ j q.
          let z : 0 ≡ j = omega arith in
          let y : i + j ≡ i = omega arith in
          ap (λ (k : ℕ). get_or (set s i v) k 0) y ∙ get_or-set_same s i v 0 h ∙ e ∙ ap f z;
      low = λ j q. get_or-set_other s i j v 0 (omega arith);
      high = λ j q. get_or-set_other s i j v 0 (omega arith);
    }

pub swept_more : {e s : List ℕ} {o r : ℕ} {f : ℕ → ℕ} (v : ℕ) → Swept e s o r f → o + r < length s → v ≡ f r → Swept e (set s (o + r) v) o (r + 1) f
swept_more {e} {s} {o} {r} {f} v w h p =
    swept_run 1 (λ i. f (r + i)) w
    (swept_one s (o + r) v (λ i. f (r + i)) h (let z : r ≡ r + 0 = omega arith in p ∙ ap f z)) (λ i q. refl)

pub swept_at : {e s : List ℕ} {o r : ℕ} {f : ℕ → ℕ} (n : ℕ) → Swept e s o r f → r ≡ n → Swept e s o n f
swept_at {e} {s} {o} {r} {f} n w h = subst (λ (k : ℕ). Swept e s o k f) h w

pub swept_cong : {e s : List ℕ} {o r : ℕ} {f : ℕ → ℕ} (g : ℕ → ℕ) → Swept e s o r f → ((i : ℕ) → i < r → f i ≡ g i) → Swept e s o r g
swept_cong g w h = record { long = w.long; done = λ i q. w.done i q ∙ h i q; low = w.low; high = w.high }

-- ---- row by row: f is what the pass makes of the table as lent, g of the table as it stands before row q

pub rows_more : {e s t : List ℕ} {o : ℕ} {f : ℕ → ℕ} (w q : ℕ) (g : ℕ → ℕ) → Swept e s o (q * w) f → Swept s t (o + q * w) w (λ x. g (q * w + x))
    → ((x : ℕ) → x < w → g (q * w + x) ≡ f (q * w + x)) → Swept e t o ((q + 1) * w) f
rows_more w q g p v h = swept_at ((q + 1) * w) (swept_run w (λ x. g (q * w + x)) p v h) (omega arith)

pub rows_end : {e s : List ℕ} {o : ℕ} {f : ℕ → ℕ} (nx ny nz q : ℕ) → Swept e s o (q * nx) f → q ≤ ny * nz → ny * nz ≤ q → Swept e s o (nx * ny * nz) f
rows_end nx ny nz q w h g =
    let e : q ≡ ny * nz = omega arith in
    swept_at (nx * ny * nz) w (ap (λ (k : ℕ). k * nx) e ∙ omega arith)

module _ (nx ny nz q : ℕ) where
  -- row q is one of the level's
  pub row_layer : 1 ≤ ny → q < ny * nz → (q % ny < ny) × (q / ny < nz)
  row_layer s h = (mod-lt q s, (div-lt_iff_lt-mul s).1 (omega (arith, mul_comm ny nz)))

  pub row_fits : q < ny * nz → q * nx + nx ≤ nx * ny * nz
  row_fits h = omega (arith, mul-le-mul_right nx h)

  -- octant x of row q
  pub row_place : (x : ℕ) → x < nx → place (pos nx ny nz) (q * nx + x) ≡ pos x (q % ny) (q / ny)
  row_place x h = fun_ext (on_all (λ a. place (pos nx ny nz) (q * nx + x) a ≡ pos x (q % ny) (q / ny) a)
      (digits_mod q h) (ap (λ (v : ℕ). v % ny) in_row) (sym (div-div-eq-div-mul (q * nx + x) nx ny) ∙ ap (λ (v : ℕ). v / ny) in_row))
    where
      in_row : (q * nx + x) / nx ≡ q
      in_row = digits_div q h
