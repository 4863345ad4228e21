use native.Mathlib.Omega.{arith}
use Rattle.decimal.specs.Text.{text_of}
use Rattle.vtk_layout.specs.Texts.{version_line, our_title, feed, dataset_lines, float_line}
use Rattle.vtk_writer.proofs.Writing.{points_1, points_2, points_3, points_4, points_stored}
use Rattle.vtk_writer.proofs.put_points.Goals as goal

pub put_text-title-requires : goal.put_text-title-requires
unfolding version_line text_of
put_text-title-requires c = points_1 _ c.requires

pub put_text-dataset-requires : goal.put_text-dataset-requires
unfolding version_line our_title feed text_of
put_text-dataset-requires c = points_2 _ c.requires c.put_text-title.ensures

pub put_lines-block-requires : goal.put_lines-block-requires
unfolding version_line our_title feed dataset_lines float_line text_of
put_lines-block-requires c = points_3 _ c.requires c.put_text-title.ensures c.put_text-dataset.ensures

pub put_words-requires : goal.put_words-requires
unfolding version_line our_title feed dataset_lines float_line text_of
put_words-requires c = points_4 _ c.requires c.put_text-title.ensures c.put_text-dataset.ensures c.put_lines-block.ensures

pub overflow_add-result : goal.overflow_add-result
unfolding version_line our_title feed dataset_lines float_line text_of
overflow_add-result c = omega (arith, points_4 c.args.points.now c.requires c.put_text-title.ensures c.put_text-dataset.ensures c.put_lines-block.ensures, c.put_lines-block.auto.file, c.put_text-dataset.auto.file, c.put_text-title.auto.file)

pub returns : goal.returns
unfolding version_line our_title feed dataset_lines float_line text_of
returns c = points_stored _ c.requires c.put_text-title.ensures c.put_text-dataset.ensures c.put_lines-block.ensures c.put_words.ensures
