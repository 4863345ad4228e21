use Rattle.lattice.specs.declared.Row.{Row}
use Prim.Native.Nat.{◌-◌}
use Rattle.lists.specs.Runs.{run, Storing}
use Rattle.lattice.specs.Parts.{numbers_at, row_numbers}
use Rattle.lattice.proofs.store_row.Given as goal

abbrev pub invariant-loop-i : goal.invariant-loop-i
invariant-loop-i l =
    let r : Row = record { n = l.n; h = l.h; tx = l.tx; ty = l.ty; tz = l.tz; centre = l.centre; low = l.low; line = l.line; layer = l.layer; deep = l.deep } in
    Storing l.initial.cells l.at (row_numbers r) l.cells l.here (run (l.n - l.i) (numbers_at r) l.i)
