-- Cells that name one point twice, and the refusals of a step that takes faces. Assumes nothing.
use mathlib.Core.Path.{◌≡◌, refl, sym, ap, ◌∙◌}
use mathlib.Core.Logic.{◌⊎◌, inl, inr}
use mathlib.Core.Bool.{Bool, true, false, not, ◌&&◌, ◌||◌}
use mathlib.Core.List.{List}
use Prim.Native.Nat.{ℕ, ◌+◌, ◌*◌, ◌<◌}
use native.Mathlib.Omega.{arith}
use Rattle.lists.specs.Tests.{any}
use Rattle.lists.proofs.Any.{some_any, any_found}
use Rattle.lists.proofs.Bools.{bool_cases, clash}
use Rattle.refusals.specs.Rows.{first, proper}
use Rattle.refusals.specs.Refusals.{as_refusal, named}
use Rattle.refusals.proofs.Rows.{clear, front_clear, rest_clear}
use Rattle.mesh.specs.Mesh.{cells_of, cell_of, in_order}
use Rattle.refusals.specs.Causes.{work_rows}
use Rattle.mesh.specs.Judged.{count_rows, whole_rows, size_rows, name_rows, mesh_rows}
use Rattle.mesh.specs.declared.Cell.{Cell}
use Rattle.mesh.proofs.Unrefused.{Fitting, mesh_proper, mesh_fits}
use Rattle.face_theory.specs.Faces.{cell_at, differ, Proper}
use Rattle.faces.specs.Judged.{twice_rows, face_rows}

-- a cell read by value
pub twice_at : (C : List ℕ) (i : ℕ) {k : Cell} {r : Bool} → k ≡ cell_of C i → r ≡ not (differ (in_order k)) → not (differ (cell_at C i)) ≡ r
unfolding cell_of in_order
twice_at C i e f = let z : 4 * i + 0 ≡ 4 * i = omega arith in rw z (sym (f ∙ ap (λ (k : Cell). not (differ (in_order k))) e))

pub found_twice : (C : List ℕ) (i many : ℕ) → many ≡ cells_of C → i < many → not (differ (cell_at C i)) ≡ true
    → true ≡ any (cells_of C) (λ q. not (differ (cell_at C q)))
found_twice C i many e h p = any_found (λ q. not (differ (cell_at C q))) (cells_of C) i (omega arith) p

-- the last of the tests decides
pub last : (t : Bool) → t ≡ not (not (t || false) && true)
last true = refl
last false = refl

-- ---- a mesh that is not refused

module _ (p : ℕ) (C : List ℕ) (room : ℕ) where
  pub rows_proper : proper (face_rows p C room) ≡ true
  unfolding proper face_rows twice_rows mesh_rows name_rows size_rows count_rows whole_rows work_rows
  rows_proper = refl

  pub rows_named : named (face_rows p C room) ≡ true
  unfolding named as_refusal face_rows twice_rows mesh_rows name_rows size_rows count_rows whole_rows work_rows
  rows_named = refl

  pub faces_fit : first (face_rows p C room) ≡ 0 → Fitting p C room 16 0
  unfolding face_rows
  faces_fit e = mesh_fits p C room 16 0 (front_clear (mesh_rows p C room 16 0) (twice_rows C) e)

  -- no cell names a point twice
  pub once : first (face_rows p C room) ≡ 0 → Proper C
  unfolding face_rows twice_rows proper
  once e q h = go (bool_cases (differ (cell_at C q)))
    where
      none : any (cells_of C) (λ q. not (differ (cell_at C q))) ≡ false
      none = clear (twice_rows C) refl (rest_clear (mesh_rows p C room 16 0) (twice_rows C) (mesh_proper p C room 16 0) e) 0

      go : (differ (cell_at C q) ≡ true) ⊎ (differ (cell_at C q) ≡ false) → differ (cell_at C q) ≡ true
      go (inl t) = t
      go (inr f) = clash (some_any (cells_of C) (λ q. not (differ (cell_at C q))) q h (ap not f)) none
