use mathlib.Core.Path.{sym}
use native.Mathlib.Omega.{arith}
use Rattle.vtk_layout.proofs.Parts.{block_ends, block_there}
use Rattle.vtk_layout.proofs.block.Goals as goal

pub returns-then-file-size : goal.returns-then-file-size
returns-then-file-size c = block_ends c.args.size c.args.file.now c.args.at (omega arith)

pub returns-then-file-size-2 : goal.returns-then-file-size-2
returns-then-file-size-2 c = block_ends c.args.size c.args.file.now c.args.at (omega arith)

pub returns : goal.returns
returns c = sym (block_there c.args.size c.args.file.now c.args.at (omega arith))
