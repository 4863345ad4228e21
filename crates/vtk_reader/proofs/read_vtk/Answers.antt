use mathlib.Core.Path.{sym}
use Rattle.std.proofs.lemmas.Result.{err_from_is_err_and}
use Rattle.vtk_layout.proofs.Sound.{located_laid}
use Rattle.vtk_reader.proofs.Files.{located, unlocated}
use Rattle.vtk_reader.proofs.read_vtk.Goals as goal

pub returns-in_err-l : goal.returns-in_err-l
returns-in_err-l c =
    let p = err_from_is_err_and c.from_residual.result c.from_residual.ensures.1 in
    rw (p.1, p.2) (unlocated (sym c.in_err-l.ensures))

pub load-requires : goal.load-requires
load-requires c = located_laid _ _ (sym c.in_ok-l.ensures)

pub returns : goal.returns
returns c = located (sym c.in_ok-l.ensures) c.load.ensures
