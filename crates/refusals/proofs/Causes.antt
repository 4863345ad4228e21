-- What is known where a cause that steps share is not there. Assumes nothing.
use mathlib.Core.Path.{◌≡◌, refl}
use mathlib.Core.Bool.{true}
use mathlib.Core.List.{List}
use Prim.Native.Nat.{ℕ, ◌≤◌}
use borrow.Author.Tests.{ltb-false, eqb-true, not-false}
use Rattle.lists.specs.Tables.{all_at_most}
use Rattle.refusals.specs.Rows.{first, proper}
use Rattle.refusals.specs.Causes.{each_rows, work_rows, answer_rows, room_rows}
use Rattle.refusals.proofs.Rows.{clear}

pub each_fits : (n many : ℕ) → first (each_rows n many) ≡ 0 → many ≡ n
unfolding each_rows proper
each_fits n many e = eqb-true _ _ (not-false _ (clear (each_rows n many) refl e 0))

pub work_fits : (room need : ℕ) → first (work_rows room need) ≡ 0 → need ≤ room
unfolding work_rows proper
work_fits room need e = ltb-false _ _ (clear (work_rows room need) refl e 0)

pub answers_fit : (X : List ℕ) → first (answer_rows X) ≡ 0 → all_at_most 1 X ≡ true
unfolding answer_rows proper
answers_fit X e = not-false _ (clear (answer_rows X) refl e 0)

pub room_fits : (room need : ℕ) → first (room_rows room need) ≡ 0 → need ≤ room
unfolding room_rows proper
room_fits room need e = ltb-false _ _ (clear (room_rows room need) refl e 0)
