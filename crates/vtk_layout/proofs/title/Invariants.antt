use mathlib.Core.Path.{◌≡◌}
use Prim.Native.Nat.{◌-◌}
use Rattle.vtk_layout.specs.Layout.{title_at}
use Rattle.vtk_layout.proofs.title.Given as goal

abbrev pub invariant-loop : goal.invariant-loop
invariant-loop l = title_at 255 l.file l.at ≡ title_at (255 - l.counter) l.file l.q
