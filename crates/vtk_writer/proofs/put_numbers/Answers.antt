use native.Mathlib.Omega.{arith}
use Rattle.decimal.specs.Text.{text_of}
use Rattle.vtk_layout.specs.Texts.{feed, data_word, scalar_lines}
use Rattle.vtk_writer.proofs.Writing.{numbers_1, numbers_2, numbers_3, numbers_stored}
use Rattle.vtk_writer.proofs.put_numbers.Goals as goal

pub put_lines-block-requires : goal.put_lines-block-requires
unfolding data_word scalar_lines text_of
put_lines-block-requires c = numbers_1 _ c.requires.0

pub put_numbers-requires : goal.put_numbers-requires
unfolding data_word scalar_lines text_of
put_numbers-requires c = (c.requires.1, numbers_2 _ c.requires.0 c.put_lines-block.ensures)

pub overflow_add-block : goal.overflow_add-block
unfolding data_word scalar_lines text_of
overflow_add-block c = omega (arith, numbers_2 c.args.cells.now c.requires.0 c.put_lines-block.ensures, c.put_lines-block.auto.file)

pub put_text-end-requires : goal.put_text-end-requires
unfolding data_word scalar_lines feed text_of
put_text-end-requires c = numbers_3 _ c.requires.0 c.put_lines-block.ensures c.put_numbers.ensures.numbers

pub returns : goal.returns
unfolding data_word scalar_lines feed text_of
returns c = record { stored = numbers_stored _ c.requires.0 c.put_lines-block.ensures c.put_numbers.ensures.numbers c.put_text-end.ensures; zero = c.put_numbers.ensures.zero }
