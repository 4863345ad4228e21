use mathlib.Core.Path.{sym, ap, ◌∙◌}
use Rattle.std.proofs.lemmas.Result.{err_from_is_err_and}
use Rattle.refusals.proofs.Refusals.{above_none}
use Rattle.plan.specs.Step.{refusal_of}
use Rattle.plan.proofs.Ready.{ready, ready_levels}
use Rattle.grid.proofs.WaysOut.{short_table, taken, plan_refused, split_refused, filled, filled_lattice}
use Rattle.grid.proofs.grid.Goals as goal

pub returns-in_default : goal.returns-in_default
returns-in_default c =
    let e = c.in_default.is in
    plan_refused _ _ _ _ _ _ _ _ (sym c.new-a.ensures ∙ e) (c.refusal.ensures ∙ ap refusal_of e)

pub judge-requires : goal.judge-requires
judge-requires c =
    let x = c.args in
    let e = sym c.new-a.ensures ∙ c.in-Ready.is in
    ready x.b x.c x.levels _ e

pub returns-in_err-judge : goal.returns-in_err-judge
returns-in_err-judge c =
    let x = c.args in
    let e = sym c.new-a.ensures ∙ c.in-Ready.is in
    let p = err_from_is_err_and c.from_residual.result c.from_residual.ensures.1 in
    rw (p.1, p.2) (split_refused x.b x.c x.levels _ _ _ _ _ _ e c.in_err-judge.ensures (above_none _))

pub lattice_grid-requires : goal.lattice_grid-requires
lattice_grid-requires c =
    let x = c.args in
    let e = sym c.new-a.ensures ∙ c.in-Ready.is in
    (ready x.b x.c x.levels _ e, ready_levels x.b x.c x.levels _ e ∙ c.if-levels-eq0.true)

pub returns-then-levels-eq0 : goal.returns-then-levels-eq0
returns-then-levels-eq0 c =
    let x = c.args in
    let e = sym c.new-a.ensures ∙ c.in-Ready.is in
    let z = sym c.in_ok-judge.ensures in
    filled_lattice x.b x.c x.levels _ _ _ _ _ _ e z c.if-levels-eq0.true c.lattice_grid.ensures

pub octree_grid-requires : goal.octree_grid-requires
octree_grid-requires c =
    let x = c.args in
    let e = sym c.new-a.ensures ∙ c.in-Ready.is in
    let z = sym c.in_ok-judge.ensures in
    let t = taken x.b x.c x.levels _ e _ z c.if-levels-eq0.false in
    (t.some, t, short_table x.b x.c x.levels _ e _ z)

pub returns : goal.returns
returns c =
    let x = c.args in
    let e = sym c.new-a.ensures ∙ c.in-Ready.is in
    let z = sym c.in_ok-judge.ensures in
    filled x.b x.c x.levels _ _ _ _ _ _ e z c.octree_grid.ensures
