use mathlib.Core.Path.{ap, ◌∙◌}
use Prim.Native.Nat.{ℕ}
use lib.ListN.{replicate}
use Rattle.pieces.proofs.Numbering.{sort_asked, link_asked, number_asked, after_long, listed}
use Rattle.pieces.proofs.number_all.Goals as goal

pub sort-at-requires : goal.sort-at-requires
sort-at-requires c = sort_asked _ _ _ c.requires

pub link-requires : goal.link-requires
link-requires c = let s = c.sort-at in link_asked _ _ _ c.requires s.new.work _ s.auto.work s.ensures

pub number_cells-count-requires : goal.number_cells-count-requires
number_cells-count-requires c =
    let l = c.link in
    number_asked _ _ _ c.requires _ l.new.work (l.auto.work ∙ c.sort-at.auto.work) l.ensures

pub returns : goal.returns
returns c =
    let p = c.requires in
    let l = c.link in
    let n = c.number_cells-count in
    let size = l.auto.work ∙ c.sort-at.auto.work in
    listed _ _ _ p _ l.new.work size l.ensures n.ensures
    (c.fill.ensures.after (λ y e. e) ∙ ap (λ (k : ℕ). replicate k 0) (after_long _ _ _ p _ l.new.work size l.ensures n.new.work n.auto.work))
