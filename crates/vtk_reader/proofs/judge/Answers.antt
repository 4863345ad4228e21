use mathlib.Core.Path.{◌∙◌}
use Rattle.lists.proofs.Tests.{failed, passed}
use Rattle.vtk_reader.proofs.Judging.{shape, no_shape, row_1, row_2, row_3, row_4, row_5}
use Rattle.vtk_reader.proofs.judge.Goals as goal

pub returns-then-eq : goal.returns-then-eq
returns-then-eq c = let e = shape _ _ c.eq.ensures c.if-eq.true in e ∙ row_1 _ c.args.l _ c.judge_cells-cells.ensures e

pub returns-then-not-all_are : goal.returns-then-not-all_are
returns-then-not-all_are c = row_2 _ c.args.l _ c.judge_cells-cells.ensures (no_shape _ _ c.eq.ensures c.if-eq.false) (failed c.all_are.ensures c.if-not-all_are.true)

pub returns-then-p-gt-MOST : goal.returns-then-p-gt-MOST
returns-then-p-gt-MOST c = row_3 _ c.args.l _ c.judge_cells-cells.ensures (no_shape _ _ c.eq.ensures c.if-eq.false) (passed c.all_are.ensures c.if-not-all_are.false) c.if-p-gt-MOST.true

pub returns-then-n-gt-MOST : goal.returns-then-n-gt-MOST
returns-then-n-gt-MOST c = row_4 _ c.args.l _ c.judge_cells-cells.ensures (no_shape _ _ c.eq.ensures c.if-eq.false) (passed c.all_are.ensures c.if-not-all_are.false) c.if-p-gt-MOST.false c.if-n-gt-MOST.true

pub returns : goal.returns
returns c = row_5 _ c.args.l _ c.judge_cells-cells.ensures (no_shape _ _ c.eq.ensures c.if-eq.false) (passed c.all_are.ensures c.if-not-all_are.false) c.if-p-gt-MOST.false c.if-n-gt-MOST.false c.min.ensures
