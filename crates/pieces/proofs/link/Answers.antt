use Rattle.pieces.proofs.Chains.{asked_after, chain_start, pieces_of, next_asked, chain_next, chain_done}
use Rattle.pieces.proofs.link.Goals as goal

pub loop-i-init : goal.loop-i-init
loop-i-init c = chain_start _ _ _ _ c.requires c.start.new.parent c.start.auto.parent c.start.ensures

pub join_next-requires : goal.join_next-requires
join_next-requires c = next_asked _ _ _ _ (asked_after _ _ _ _ c.requires c.start.new.parent c.start.auto.parent) _ _ c.loop-i.invariant c.loop-i-test.true

pub loop-i-preserved : goal.loop-i-preserved
loop-i-preserved c = chain_next _ _ _ _ (asked_after _ _ _ _ c.requires c.start.new.parent c.start.auto.parent) c.loop-i.work _ c.loop-i.invariant c.loop-i-test.true c.join_next.new.work c.join_next.auto.work c.join_next.ensures

pub returns : goal.returns
returns c =
    pieces_of _ _ _ _ c.requires c.start.new.parent c.start.auto.parent _
    (chain_done _ _ _ _ (asked_after _ _ _ _ c.requires c.start.new.parent c.start.auto.parent) _ _ c.loop-i.invariant c.loop-i-test.false)
