use mathlib.Core.Path.{sym, ◌∙◌}
use Rattle.std.proofs.lemmas.Result.{err_from_is_err_and}
use Rattle.refusals.proofs.Refusals.{above_none}
use Rattle.refine.proofs.WaysOut.{refused_plan, asked, refused, short, done}
use Rattle.refine.proofs.refine.Goals as goal

pub returns-in_default : goal.returns-in_default
returns-in_default c = let s = c.args in refused_plan s.b s.c s.levels s.crossing.now s.split.now c.new-a.ensures c.in_default.is c.refusal.ensures

pub returns-in_err-judge : goal.returns-in_err-judge
returns-in_err-judge c =
    let s = c.args in
    let p = err_from_is_err_and c.from_residual.result c.from_residual.ensures.1 in
    rw (p.1, p.2) (refused s.b s.c s.levels s.crossing.now s.split.now (sym c.new-a.ensures ∙ c.in-Ready.is) c.in_err-judge.ensures (above_none _))

pub returns-then-split-n : goal.returns-then-split-n
returns-then-split-n c =
    let s = c.args in
    short s.b s.c s.levels s.crossing.now s.split.now (sym c.new-a.ensures ∙ c.in-Ready.is) (sym c.in_ok-judge.ensures) c.if-split-n.true

pub refine_table-count-requires : goal.refine_table-count-requires
refine_table-count-requires c =
    let s = c.args in
    rw c.roots.ensures (asked s.b s.c s.levels s.crossing.now s.split.now (sym c.new-a.ensures ∙ c.in-Ready.is) (sym c.in_ok-judge.ensures) c.if-split-n.false)

pub returns : goal.returns
returns c =
    let s = c.args in
    let k = rw c.roots.ensures at c.refine_table-count.ensures in
    done s.b s.c s.levels s.crossing.now s.split.now (sym c.new-a.ensures ∙ c.in-Ready.is) (sym c.in_ok-judge.ensures) c.if-split-n.false k
