-- What is known where a mesh with answers is not refused. Assumes nothing.
use mathlib.Core.Path.{◌≡◌, refl}
use mathlib.Core.Bool.{true}
use mathlib.Core.List.{List, ◌++◌}
use Prim.Native.Nat.{ℕ, ◌+◌, ◌/◌, ◌≤◌}
use lib.ListN.{length, take}
use lib.Seq.{length-take-le}
use Rattle.refusals.specs.Rows.{first, proper}
use Rattle.refusals.specs.Refusals.{as_refusal, named}
use Rattle.refusals.specs.Causes.{work_rows, each_rows, answer_rows}
use Rattle.refusals.proofs.Rows.{front_clear, rest_clear}
use Rattle.refusals.proofs.Causes.{each_fits}
use Rattle.mesh.specs.Mesh.{cells_of, Cells}
use Rattle.mesh.specs.Judged.{count_rows, whole_rows, size_rows, name_rows}
use Rattle.mesh.proofs.Unrefused.{Fitting, sizes_proper, sizes_fit, names_fit, named_fit}
use Rattle.groups.specs.Judged.{crossed_rows}
use Rattle.groups.specs.Parts.{Sized}

pub crossed_proper : (p : ℕ) (C X : List ℕ) (room a b : ℕ) → proper (crossed_rows p C X room a b) ≡ true
unfolding proper crossed_rows size_rows count_rows whole_rows work_rows each_rows answer_rows name_rows
crossed_proper p C X room a b = refl

pub crossed_named : (p : ℕ) (C X : List ℕ) (room a b : ℕ) → named (crossed_rows p C X room a b) ≡ true
unfolding named as_refusal crossed_rows size_rows count_rows whole_rows work_rows each_rows answer_rows name_rows
crossed_named p C X room a b = refl

pub record Answered (p : ℕ) (C X : List ℕ) (room a b : ℕ) : Type 0 where
  pub mesh : Fitting p C room a b
  pub answers : length X ≡ cells_of C

pub crossed_fits : (p : ℕ) (C X : List ℕ) (room a b : ℕ) → first (crossed_rows p C X room a b) ≡ 0 → Answered p C X room a b
unfolding crossed_rows proper each_rows answer_rows
crossed_fits p C X room a b e =
    let sizes = size_rows p (length C) room a b in
    let each = each_rows (cells_of C) (length X) in
    let more : first (each ++ (answer_rows X ++ name_rows (p / 3) C)) ≡ 0 = rest_clear sizes _ (sizes_proper p (length C) room a b) e in
    let names : first (name_rows (p / 3) C) ≡ 0 = rest_clear (answer_rows X) _ refl (rest_clear each _ refl more) in
    record {
      mesh = named_fit p C room a b (sizes_fit p (length C) room a b (front_clear sizes _ e)) (names_fit (p / 3) C names);
      answers = each_fits (cells_of C) (length X) (front_clear each _ more);
    }

-- the front of the work, with an entry a point and a cell
pub sized_front : (C w : List ℕ) (n : ℕ) → Cells C n → n + cells_of C ≤ length w → Sized C (take (n + cells_of C) w) n
sized_front C w n c h = record { cells = c; long = length-take-le (n + cells_of C) w h }
