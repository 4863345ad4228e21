use mathlib.Core.Path.{ap, ◌∙◌}
use Prim.Native.Nat.{◌≤◌}
use native.Mathlib.Omega.{arith}
use lib.ListN.{length}
use Rattle.lists.specs.Tables.{all_at_most}
use Rattle.octants.proofs.TableLaws.{table_bits}
use Rattle.refine.proofs.Tables.{none_done, covers_again, table_done}
use Rattle.refine.proofs.refine_table.Goals as goal

pub returns-then-d-eq0 : goal.returns-then-d-eq0
returns-then-d-eq0 c = none_done c.requires c.if-d-eq0.true

pub balance-requires : goal.balance-requires
balance-requires c =
    let p = c.requires in
    let h = c.clear.ensures in
    let f : 1 ≤ c.args.d.levels = omega (arith, c.if-d-eq0.false) in
    (covers_again (p.covers f) (c.clear.auto.s ∙ ap length c.copy.ensures), f, ap (all_at_most 1) h ∙ table_bits _ _ _)

pub returns : goal.returns
returns c = table_done c.copy.ensures c.clear.ensures c.balance.ensures c.ones.ensures
