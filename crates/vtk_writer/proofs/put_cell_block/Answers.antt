use native.Mathlib.Omega.{arith}
use Rattle.decimal.specs.Text.{text_of}
use Rattle.vtk_layout.specs.Texts.{feed, cells_word, space}
use Rattle.vtk_writer.proofs.Writing.{cells_1, cells_2, cells_3, cells_4, cells_stored}
use Rattle.vtk_writer.proofs.put_cell_block.Goals as goal

pub put_lines-words-requires : goal.put_lines-words-requires
unfolding cells_word space text_of
put_lines-words-requires c = cells_1 _ c.requires

pub put_digits-feed-requires : goal.put_digits-feed-requires
unfolding cells_word space text_of
put_digits-feed-requires c = cells_2 _ c.requires c.put_lines-words.ensures

pub put_text-block-requires : goal.put_text-block-requires
unfolding cells_word space feed text_of
put_text-block-requires c = cells_3 _ c.requires c.put_lines-words.ensures c.put_digits-feed.ensures

pub put_cells-requires : goal.put_cells-requires
unfolding cells_word space feed text_of
put_cells-requires c = cells_4 _ c.requires c.put_lines-words.ensures c.put_digits-feed.ensures c.put_text-block.ensures

pub overflow_add-result : goal.overflow_add-result
unfolding cells_word space feed text_of
overflow_add-result c = omega (arith, cells_4 c.args.cells.now c.requires c.put_lines-words.ensures c.put_digits-feed.ensures c.put_text-block.ensures, c.put_lines-words.auto.file, c.put_digits-feed.auto.file, c.put_text-block.auto.file)

pub returns : goal.returns
unfolding cells_word space feed text_of
returns c = cells_stored _ c.requires c.put_lines-words.ensures c.put_digits-feed.ensures c.put_text-block.ensures c.put_cells.ensures
