use mathlib.Core.Path.{sym}
use Rattle.std.proofs.lemmas.Result.{err_from_is_err_and}
use Rattle.vtk_reader.specs.Step.{blocks_of}
use Rattle.vtk_reader.proofs.Files.{loadable, body_refused, body_loaded}
use Rattle.vtk_reader.proofs.load.Goals as goal

pub returns-in_err-judge : goal.returns-in_err-judge
returns-in_err-judge c =
    let p = err_from_is_err_and c.from_residual.result c.from_residual.ensures.1 in
    rw (p.1, p.2) (body_refused _ c.args.l c.in_err-judge.ensures)

pub load-requires : goal.load-requires
unfolding blocks_of
load-requires c = loadable _ c.args.l (sym c.in_ok-judge.ensures) c.requires

pub returns : goal.returns
unfolding blocks_of
returns c = body_loaded _ c.args.l (sym c.in_ok-judge.ensures) c.load.ensures
