use native.Mathlib.Omega.{arith}
use Rattle.coverage.proofs.Held.{again}
use Rattle.coverage.proofs.Volumes.{edge_x}
use Rattle.coverage.proofs.edge.Goals as goal

pub returns : goal.returns
returns c =
    record {
      x_held = edge_x c.args.triples.now c.args.p c.args.q (again (omega arith) c.along.ensures);
      y_held = again (omega arith) c.along-2.ensures;
      z_held = again (omega arith) c.along-3.ensures;
    }
