-- What is known of a mesh that is not refused: its tables are whole, it has few points and cells, and enough work; and the other way.
-- Assumes nothing.
use mathlib.Core.Path.{◌≡◌, refl}
use mathlib.Core.Bool.{true}
use mathlib.Core.List.{List}
use Prim.Native.Nat.{ℕ, ◌*◌, ◌/◌, ◌%◌, ◌≤◌}
use native.Mathlib.Omega.{arith}
use borrow.Author.Tests.{ltb-false, eqb-true, not-false, le-ltb, eq-eqb}
use lib.ListN.{length}
use Rattle.lists.specs.Tables.{all_below}
use Rattle.lists.proofs.Lent.{below_at, all_below_lem}
use Rattle.refusals.specs.Rows.{first, proper}
use Rattle.refusals.specs.Causes.{work_rows}
use Rattle.refusals.specs.Refusals.{as_refusal, named}
use Rattle.refusals.proofs.Rows.{clear, front_clear, rest_clear}
use Rattle.mesh.specs.Mesh.{most, Cells}
use Rattle.mesh.specs.Judged.{count_rows, whole_rows, need_of, size_rows, name_rows, mesh_rows}

-- tables of whole points and cells, not too many of them, and as much work as is asked
pub record Sizes (p c room a b : ℕ) : Type 0 where
  pub points : p ≡ 3 * (p / 3)
  pub cells : c ≡ 4 * (c / 4)
  pub few_points : p / 3 ≤ most
  pub few_cells : c / 4 ≤ most
  pub work : need_of a b p c ≤ room

-- cells that name points which are there, beside them
pub record Fitting (p : ℕ) (C : List ℕ) (room a b : ℕ) : Type 0 where
  pub points : p ≡ 3 * (p / 3)
  pub cells : Cells C (p / 3)
  pub work : need_of a b p (length C) ≤ room

module _ (p c room a b : ℕ) where
  pub sizes_proper : proper (size_rows p c room a b) ≡ true
  unfolding proper size_rows count_rows whole_rows work_rows
  sizes_proper = refl

  pub sizes_named : named (size_rows p c room a b) ≡ true
  unfolding named as_refusal size_rows count_rows whole_rows work_rows
  sizes_named = refl

  pub sizes_fit : first (size_rows p c room a b) ≡ 0 → Sizes p c room a b
  unfolding first proper size_rows count_rows whole_rows work_rows
  sizes_fit e =
      let h = clear (size_rows p c room a b) refl e in
      let q : p % 3 ≡ 0 = eqb-true _ _ (not-false _ (h 2)) in
      let r : c % 4 ≡ 0 = eqb-true _ _ (not-false _ (h 3)) in
      record {
        points = omega arith;
        cells = omega arith;
        few_points = ltb-false _ _ (h 0);
        few_cells = ltb-false _ _ (h 1);
        work = ltb-false _ _ (h 4);
      }

pub names_fit : (n : ℕ) (C : List ℕ) → first (name_rows n C) ≡ 0 → all_below n C ≡ true
unfolding name_rows proper
names_fit n C e = not-false _ (clear (name_rows n C) refl e 0)

module _ (p : ℕ) (C : List ℕ) (room a b : ℕ) where
  pub mesh_proper : proper (mesh_rows p C room a b) ≡ true
  unfolding proper mesh_rows name_rows size_rows count_rows whole_rows work_rows
  mesh_proper = refl

  pub mesh_named : named (mesh_rows p C room a b) ≡ true
  unfolding named as_refusal mesh_rows name_rows size_rows count_rows whole_rows work_rows
  mesh_named = refl

  pub named_fit : Sizes p (length C) room a b → all_below (p / 3) C ≡ true → Fitting p C room a b
  named_fit s n = record {
    points = s.points;
    cells = record { whole = s.cells; few = s.few_cells; small = s.few_points; names = below_at (p / 3) C n };
    work = s.work;
  }

  pub mesh_fits : first (mesh_rows p C room a b) ≡ 0 → Fitting p C room a b
  unfolding mesh_rows
  mesh_fits e =
      named_fit (sizes_fit p (length C) room a b (front_clear (size_rows p (length C) room a b) _ e))
      (names_fit (p / 3) C (rest_clear (size_rows p (length C) room a b) _ (sizes_proper p (length C) room a b) e))

  pub fits_mesh : Fitting p C room a b → first (mesh_rows p C room a b) ≡ 0
  unfolding first mesh_rows name_rows size_rows count_rows whole_rows work_rows
  fits_mesh f =
      let q : p % 3 ≡ 0 = omega (arith, f.points) in
      let r : length C % 4 ≡ 0 = omega (arith, f.cells.whole) in
      rw (
        le-ltb most (p / 3) f.cells.small,
        le-ltb most (length C / 4) f.cells.few,
        eq-eqb _ _ q,
        eq-eqb _ _ r,
        le-ltb room (need_of a b p (length C)) f.work,
        all_below_lem (p / 3) C f.cells.names,
      )
      refl

-- work that is asked of points alone
pub points_work : (p : ℕ) (C : List ℕ) (room b : ℕ) → Fitting p C room 0 b → b * (p / 3) ≤ room
points_work p C room b f = omega (arith, f.work)
