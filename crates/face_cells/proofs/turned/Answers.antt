use native.Mathlib.Omega.{arith}
use mathlib.Core.Path.{◌≡◌}
use Rattle.lists.proofs.Running.{stored_as}
use Rattle.face_cells.proofs.Laws.{turned_0, turned_1, turned_2, turned_3, room_halves}
use Rattle.face_cells.proofs.turned.Goals as goal

pub halves-requires : goal.halves-requires
halves-requires c = room_halves _ _ _ _ _ c.requires.at_in_bounds

pub returns-then-n-eq0 : goal.returns-then-n-eq0
returns-then-n-eq0 c = stored_as (turned_0 _ _ _ _ _ _ c.if-n-eq0.true) c.halves.ensures

pub halves-requires-then-n-eq1 : goal.halves-requires-then-n-eq1
halves-requires-then-n-eq1 c = room_halves _ _ _ _ _ c.requires.at_in_bounds

pub returns-then-n-eq1 : goal.returns-then-n-eq1
returns-then-n-eq1 c = stored_as (turned_1 _ _ _ _ _ _ c.if-n-eq1.true) c.halves-then-n-eq1.ensures

pub halves-requires-then-n-eq2 : goal.halves-requires-then-n-eq2
halves-requires-then-n-eq2 c = room_halves _ _ _ _ _ c.requires.at_in_bounds

pub returns-then-n-eq2 : goal.returns-then-n-eq2
returns-then-n-eq2 c = stored_as (turned_2 _ _ _ _ _ _ c.if-n-eq2.true) c.halves-then-n-eq2.ensures

pub halves-requires-2 : goal.halves-requires-2
halves-requires-2 c = room_halves _ _ _ _ _ c.requires.at_in_bounds

pub returns : goal.returns
returns c = let h : c.args.n ≡ 3 = omega (arith, c.if-n-eq2.false, c.if-n-eq1.false, c.if-n-eq0.false, c.requires.n_bound) in stored_as (turned_3 _ _ _ _ _ _ h) c.halves-2.ensures
