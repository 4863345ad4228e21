use Prim.Native.Nat.{◌+◌, ◌*◌}
use Rattle.balance.specs.Parts.{some, Merged, in_rows}
use Rattle.balance.proofs.merge_layers.Given as goal

abbrev pub invariant-loop-z : goal.invariant-loop-z
invariant-loop-z l = Merged l.initial.seen l.seen l.w (λ x. some l.z0 l.z (λ k. in_rows l.s (l.o + k * (l.w * l.h)) l.w l.y0 l.y1 x))
