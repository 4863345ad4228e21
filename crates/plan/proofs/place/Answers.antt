use lib.Ieee.{in_float}
use lib.Dec.{le→leb}
use Prim.Native.Nat.{◌^◌}
use Rattle.plan.specs.Vertices.{place_of}
use Rattle.plan.proofs.place.Goals as goal

pub int_to_float-v : goal.int_to_float-v
unfolding in_float
int_to_float-v c = le→leb c.args.v (2 ^ 24) c.requires

pub returns : goal.returns
unfolding place_of
returns c = c.from_f32.ensures
