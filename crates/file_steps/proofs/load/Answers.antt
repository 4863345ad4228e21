use mathlib.Core.Path.{sym}
use native.Mathlib.Omega.{arith}
use lib.Seq.{length-take-le}
use Rattle.file_steps.proofs.Readers.{has, has_not, points_room, cells_room, work_room, work_fits, short, wrong, done}
use Rattle.file_steps.proofs.load.Goals as goal

pub returns-then-not-has_room : goal.returns-then-not-has_room
returns-then-not-has_room c = short _ c.args.s _ _ _ (has_not _ _ _ _ _ c.has_room.ensures c.if-not-has_room.true)

pub slice_bounds-numbers_right-end : goal.slice_bounds-numbers_right-end
slice_bounds-numbers_right-end c = work_room _ _ _ _ _ (has _ _ _ _ _ c.has_room.ensures c.if-not-has_room.false)

pub slice_bounds-numbers_right-end-2 : goal.slice_bounds-numbers_right-end-2
slice_bounds-numbers_right-end-2 c = sym (length-take-le _ _ (work_room _ _ _ _ _ (has _ _ _ _ _ c.has_room.ensures c.if-not-has_room.false)))

pub numbers_right-requires : goal.numbers_right-requires
numbers_right-requires c = (c.requires.stands, work_fits _ c.args.s _ (work_room _ _ _ _ _ (has _ _ _ _ _ c.has_room.ensures c.if-not-has_room.false)) c.requires.cells)

pub returns-then-not-numbers_right : goal.returns-then-not-numbers_right
returns-then-not-numbers_right c = wrong _ c.args.s _ _ _ (has _ _ _ _ _ c.has_room.ensures c.if-not-has_room.false) c.if-not-numbers_right.true c.numbers_right.ensures

pub overflow_mul-vertices : goal.overflow_mul-vertices
overflow_mul-vertices c = omega (arith, cells_room _ _ _ _ _ (has _ _ _ _ _ c.has_room.ensures c.if-not-has_room.false))

pub slice_bounds-get_words-end : goal.slice_bounds-get_words-end
slice_bounds-get_words-end c = points_room _ _ _ _ _ (has _ _ _ _ _ c.has_room.ensures c.if-not-has_room.false)

pub slice_bounds-get_words-end-2 : goal.slice_bounds-get_words-end-2
slice_bounds-get_words-end-2 c = sym (length-take-le _ _ (points_room _ _ _ _ _ (has _ _ _ _ _ c.has_room.ensures c.if-not-has_room.false)))

pub slice_bounds-get_cells-end : goal.slice_bounds-get_cells-end
slice_bounds-get_cells-end c = cells_room _ _ _ _ _ (has _ _ _ _ _ c.has_room.ensures c.if-not-has_room.false)

pub slice_bounds-get_cells-end-2 : goal.slice_bounds-get_cells-end-2
slice_bounds-get_cells-end-2 c = sym (length-take-le _ _ (cells_room _ _ _ _ _ (has _ _ _ _ _ c.has_room.ensures c.if-not-has_room.false)))

pub get_cells-requires : goal.get_cells-requires
get_cells-requires c = (c.requires.stands.cells, length-take-le _ _ (cells_room _ _ _ _ _ (has _ _ _ _ _ c.has_room.ensures c.if-not-has_room.false)))

pub returns : goal.returns
returns c = done _ c.args.s _ _ _ (has _ _ _ _ _ c.has_room.ensures c.if-not-has_room.false) c.if-not-numbers_right.false c.numbers_right.ensures c.get_words.ensures c.get_cells.ensures
