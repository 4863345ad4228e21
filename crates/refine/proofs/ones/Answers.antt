use Rattle.std.proofs.Common.{◌≡◌, rules, sum, sym, ◌∙◌}
use Rattle.refine.proofs.Summing.{total_sum}
use Rattle.refine.proofs.ones.Goals as goal

pub returns : goal.returns
returns c =
    let e : c.sum.result ≡ sum c.args.s.now = search rules in
    e ∙ sym (total_sum c.args.s.now)
