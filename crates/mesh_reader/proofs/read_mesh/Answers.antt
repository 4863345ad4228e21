use mathlib.Core.Path.{sym}
use Rattle.std.proofs.lemmas.Result.{err_from_is_err_and}
use Rattle.mesh_layout.specs.Layout.{blocks_of}
use Rattle.file_steps.proofs.Readers.{refused}
use Rattle.mesh_reader.proofs.Sections.{file_named, no_nine, no_thirteen, laid_file, loads, loaded}
use Rattle.mesh_reader.proofs.read_mesh.Goals as goal

pub returns-in_err-judge : goal.returns-in_err-judge
returns-in_err-judge c =
    let p = err_from_is_err_and c.from_residual.result c.from_residual.ensures.1 in
    rw (p.1, p.2) (refused _ _ (blocks_of _) _ _ _ (file_named _) (no_nine _) (no_thirteen _) c.in_err-judge.ensures)

pub blocks-s-requires : goal.blocks-s-requires
blocks-s-requires c = laid_file _ (sym c.in_ok-judge.ensures)

pub load-requires : goal.load-requires
load-requires c = loads _ c.blocks-s.ensures (sym c.in_ok-judge.ensures)

pub returns : goal.returns
returns c = loaded _ c.blocks-s.ensures (sym c.in_ok-judge.ensures) c.load.ensures
