use native.Mathlib.Omega.{arith}
use Rattle.space.specs.Space.{pos}
use Rattle.lattice.proofs.Formulas.{cells_count, vertices_count}
use Rattle.lattice.proofs.count.Goals as goal

pub returns : goal.returns
returns c =
    let a = c.args in
    let d = pos a.nx a.ny a.nz in
    record {
      cells_are = omega (arith, c.times.ensures.0, c.times-2.ensures.0, c.times-3.ensures.0, cells_count d);
      vertices_are = omega (arith, c.times-corners.ensures.0, c.times-centres.ensures.0, vertices_count d);
      cells_few = omega arith;
      vertices_few = omega arith;
    }
