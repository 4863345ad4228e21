use mathlib.Core.Path.{◌≡◌}
use mathlib.Core.Bool.{false}
use Prim.Native.Nat.{◌+◌, ◌*◌}
use Rattle.lists.specs.Tests.{any}
use Rattle.balance.specs.Parts.{gives}
use Rattle.balance.proofs.level_unsteady.Given as goal

abbrev pub invariant-loop-q : goal.invariant-loop-q
invariant-loop-q l = any l.q (λ k. any l.v.nx (λ x. gives l.s l.v (k * l.v.nx + x))) ≡ false
