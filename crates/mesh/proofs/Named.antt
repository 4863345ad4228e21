-- The points that a cell of a table names. Assumes nothing.
use mathlib.Core.Path.{◌≡◌, refl}
use mathlib.Core.List.{List}
use Prim.Native.Nat.{ℕ, ◌+◌, ◌*◌, ◌<◌}
use native.Mathlib.Omega.{arith}
use lib.ListN.{get_or}
use Rattle.mesh.specs.Mesh.{cells_of, Cells, cell_of, Each, Points, exchanged}
use Rattle.mesh.specs.declared.Cell.{Cell}

pub cell_points : (C : List ℕ) (n i : ℕ) {k : Cell} → Cells C n → i < cells_of C → k ≡ cell_of C i → Points n k
unfolding cell_of
cell_points C n i v h e =
    rw e
    (record {
      a_is = v.names (4 * i) (omega (arith, v.whole));
      b_is = v.names (4 * i + 1) (omega (arith, v.whole));
      c_is = v.names (4 * i + 2) (omega (arith, v.whole));
      d_is = v.names (4 * i + 3) (omega (arith, v.whole));
    })

-- a cell whose points were read one by one
pub cell_is : (C : List ℕ) (i m : ℕ) {a b c d : ℕ} → m ≡ 4 * i
    → a ≡ get_or C m 0 → b ≡ get_or C (m + 1) 0 → c ≡ get_or C (m + 2) 0 → d ≡ get_or C (m + 3) 0
    → ◌≡◌ {A = Cell} (record { a = a; b = b; c = c; d = d }) (cell_of C i)
unfolding cell_of
cell_is C i m e ea eb ec ed = rw (ea, eb, ec, ed, e) refl

-- what holds of each point holds of each where two are exchanged, and what follows from it holds too
pub each_exchanged : {Q : ℕ → Type 0} {k : Cell} → Each Q k → Each Q (exchanged k)
each_exchanged e = record { a_is = e.b_is; b_is = e.a_is; c_is = e.c_is; d_is = e.d_is }

pub each_then : {Q R : ℕ → Type 0} {k : Cell} → ((v : ℕ) → Q v → R v) → Each Q k → Each R k
each_then f e = record { a_is = f _ e.a_is; b_is = f _ e.b_is; c_is = f _ e.c_is; d_is = f _ e.d_is }
