use mathlib.Core.Path.{refl, sym, ap, ◌∙◌}
use Rattle.mesh.specs.Mesh.{in_order, exchanged}
use Rattle.volume.specs.Volume.{verdict_at}
use Rattle.marked.specs.Weighed.{shaped, is_dropped}
use Rattle.marked.specs.Parts.{code_of}
use Rattle.marked.proofs.Weighing.{corners_in, stay_asked, exchange_asked, weighed_not, weighed_stays, weighed_lost}
use Rattle.marked.proofs.weigh.Goals as goal

pub returns-then-work-entry-eq0 : goal.returns-then-work-entry-eq0
returns-then-work-entry-eq0 c = weighed_not _ _ _ _ _ _ _ c.if-work-entry-eq0.true

pub corners_at-requires : goal.corners_at-requires
corners_at-requires c = corners_in c.requires c.cell_at-cell.ensures

pub stay-requires : goal.stay-requires
stay-requires c = stay_asked c.requires c.cell_at-cell.ensures

pub stay-requires-in-Exchanged : goal.stay-requires-in-Exchanged
stay-requires-in-Exchanged c = exchange_asked c.requires c.cell_at-cell.ensures c.exchange.ensures

pub returns-in-Kept : goal.returns-in-Kept
unfolding code_of shaped is_dropped verdict_at
returns-in-Kept c =
    weighed_stays _ _ _ _ _ _ _ c.if-work-entry-eq0.false _
    (sym c.in-Kept.is ∙ c.verdict_on-verdict.ensures ∙ rw (c.corners_at.ensures, c.cell_at-cell.ensures) refl) refl
    (ap in_order (sym c.cell_at-cell.ensures)) refl c.stay.ensures

pub returns-in-Exchanged : goal.returns-in-Exchanged
unfolding code_of shaped is_dropped verdict_at
returns-in-Exchanged c =
    weighed_stays _ _ _ _ _ _ _ c.if-work-entry-eq0.false _
    (sym c.in-Exchanged.is ∙ c.verdict_on-verdict.ensures ∙ rw (c.corners_at.ensures, c.cell_at-cell.ensures) refl) refl
    (ap in_order (sym (c.exchange.ensures ∙ ap exchanged c.cell_at-cell.ensures))) refl c.stay-in-Exchanged.ensures

pub returns-in-Dropped : goal.returns-in-Dropped
unfolding code_of shaped is_dropped verdict_at
returns-in-Dropped c =
    weighed_lost _ _ _ _ _ _ _ c.if-work-entry-eq0.false _
    (sym c.in-Dropped.is ∙ c.verdict_on-verdict.ensures ∙ rw (c.corners_at.ensures, c.cell_at-cell.ensures) refl) refl refl refl
