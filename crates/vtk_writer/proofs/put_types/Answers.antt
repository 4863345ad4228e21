use native.Mathlib.Omega.{arith}
use Rattle.decimal.specs.Text.{text_of}
use Rattle.vtk_layout.specs.Texts.{feed, types_word}
use Rattle.vtk_writer.proofs.Writing.{types_1, types_2, types_stored}
use Rattle.vtk_writer.proofs.put_types.Goals as goal

pub put_lines-block-requires : goal.put_lines-block-requires
unfolding types_word feed text_of
put_lines-block-requires c = types_1 _ c.requires

pub put_same-requires : goal.put_same-requires
unfolding types_word feed text_of
put_same-requires c = types_2 _ c.requires c.put_lines-block.ensures

pub overflow_mul-result : goal.overflow_mul-result
unfolding types_word feed text_of
overflow_mul-result c = omega (arith, types_2 c.args.n c.requires c.put_lines-block.ensures, c.put_lines-block.auto.file)

pub overflow_add-result : goal.overflow_add-result
unfolding types_word feed text_of
overflow_add-result c = omega (arith, types_2 c.args.n c.requires c.put_lines-block.ensures, c.put_lines-block.auto.file)

pub returns : goal.returns
unfolding types_word feed text_of
returns c = types_stored _ c.requires c.put_lines-block.ensures c.put_same.ensures
