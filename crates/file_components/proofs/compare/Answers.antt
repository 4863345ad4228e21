use mathlib.Core.Path.{refl, sym, ◌∙◌}
use mathlib.Core.Logic.{inl, inr}
use Rattle.file_components.proofs.Comparing.{comparing_start, first_is, comparing_asks, comparing_off, comparing_on, comparing_end, alike_told}
use Rattle.file_components.proofs.compare.Goals as goal
use Rattle.file_components.proofs.compare.Goals.{else-k-count, then-k-count}

pub returns-then-one : goal.returns-then-one
returns-then-one c = alike_told _ c.args.s c.requires.1 c.requires.2 (sym c.requires.3 ∙ c.if-one.true) c.all_are.ensures

pub loop-i-init : goal.loop-i-init
loop-i-init c = comparing_start _ c.args.s c.requires.1 c.requires.2

pub number_at-k-requires : goal.number_at-k-requires
number_at-k-requires c = comparing_asks _ c.args.s c.requires.1 c.loop-i.invariant c.loop-i-test.true (first_is _ c.args.s _ c.loop-i-test.true refl c.word-v.ensures)

pub returns-then-word-k : goal.returns-then-word-k
returns-then-word-k c = comparing_off _ c.args.s c.requires.1 c.loop-i.invariant c.loop-i-test.true (first_is _ c.args.s _ c.loop-i-test.true refl c.word-v.ensures) _ _ c.number_at-k.auto.work c.number_at-k.ensures refl c.word.ensures c.if-word-k.true

pub loop-i-preserved : goal.loop-i-preserved
loop-i-preserved c =
    comparing_on _ c.args.s c.requires.1 c.loop-i.invariant c.loop-i-test.true (first_is _ c.args.s _ c.loop-i-test.true refl c.word-v.ensures) _ _ c.number_at-k.auto.work c.number_at-k.ensures refl c.word.ensures c.if-word-k.false _
    (elim c.if-k-count.branch [ then-k-count a ↦ inl (a.if-k-count.true, a.count-is) | else-k-count a ↦ inr (a.if-k-count.false, a.count-is) ])

pub returns : goal.returns
returns c = comparing_end _ c.args.s c.requires.1 c.loop-i.invariant c.loop-i-test.false
