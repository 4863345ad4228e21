use mathlib.Core.Path.{◌∙◌}
use native.Mathlib.Omega.{arith}
use Rattle.links.proofs.Linking.{joined_four}
use Rattle.links.proofs.join_four.Goals as goal

pub join-requires-3 : goal.join-requires-3
join-requires-3 c =
    let p = c.requires in
    let e = c.join-2.auto.parent ∙ c.join.auto.parent in
    record {
      forest = c.join-2.ensures.forest;
      x_in = omega (arith, e, p.points.a_is);
      y_in = omega (arith, e, p.points.d_is);
      small = omega (arith, e, p.small);
    }

pub returns : goal.returns
returns c = joined_four c.join.ensures c.join-2.ensures c.join-3.ensures
