use mathlib.Core.Path.{refl, sym}
use native.Mathlib.Omega.{arith}
use lib.Seq.{length-take-le}
use Rattle.std.proofs.lemmas.Result.{err_from_is_err_and}
use Rattle.mesh.proofs.Unrefused.{mesh_fits, points_work}
use Rattle.file_steps.proofs.Writers.{refused, short, done, storable}
use Rattle.mesh_writer.proofs.write_mesh.Goals as goal

pub returns-in_err-judge : goal.returns-in_err-judge
returns-in_err-judge c =
    let p = err_from_is_err_and c.from_residual.result c.from_residual.ensures.1 in
    rw (p.1, p.2) (refused _ _ _ _ _ _ _ c.in_err-judge.ensures)

pub overflow_add-bytes-2 : goal.overflow_add-bytes-2
overflow_add-bytes-2 c = let f = mesh_fits _ _ _ _ _ (sym c.in_ok-judge.ensures) in omega (arith, f.cells.small, f.cells.few)

pub returns-then-file-bytes : goal.returns-then-file-bytes
returns-then-file-bytes c = short _ _ _ _ _ _ _ (sym c.in_ok-judge.ensures) refl c.if-file-bytes.true

pub slice_bounds-put_mesh-end-3 : goal.slice_bounds-put_mesh-end-3
slice_bounds-put_mesh-end-3 c = points_work _ _ _ _ (mesh_fits _ _ _ _ _ (sym c.in_ok-judge.ensures))

pub slice_bounds-put_mesh-end-4 : goal.slice_bounds-put_mesh-end-4
slice_bounds-put_mesh-end-4 c = sym (length-take-le _ _ (points_work _ _ _ _ (mesh_fits _ _ _ _ _ (sym c.in_ok-judge.ensures))))

pub put_mesh-requires : goal.put_mesh-requires
put_mesh-requires c = storable _ _ _ _ _ (sym c.in_ok-judge.ensures) refl c.if-file-bytes.false

pub returns : goal.returns
returns c = done _ _ _ _ _ _ _ (sym c.in_ok-judge.ensures) refl c.if-file-bytes.false c.put_mesh.ensures
