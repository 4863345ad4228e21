use mathlib.Core.Logic.{◌↔◌}
use Prim.Native.Nat.{◌≤◌}
use borrow.Author.Rules.{rules}
use Rattle.std.specs.Prelude.{IsTrue, EachIndex, slice_index}
use Rattle.lists.proofs.Lent.{at_most_if}
use Rattle.lists.proofs.all_at_most.Goals as goal

pub returns : goal.returns
returns c =
    let h : IsTrue c.all.result ↔ EachIndex c.args.table.now (λ k. slice_index c.args.table.now k ≤ c.args.bound) = search rules in
    at_most_if c.args.bound c.args.table.now c.all.result h
