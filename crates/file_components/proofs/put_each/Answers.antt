use mathlib.Core.Path.{refl, sym, ◌∙◌}
use mathlib.Core.Logic.{inl, inr}
use native.Mathlib.Omega.{arith}
use Rattle.mesh.specs.Mesh.{cells_of}
use Rattle.words.proofs.Turns.{writing_start, writing_on, writing_done}
use Rattle.components.proofs.Numbering.{numbering_start, number_is, numbering_on}
use Rattle.components.proofs.Patterns.{length_components}
use Rattle.components.proofs.Counting.{alike_numbers}
use Rattle.file_components.proofs.put_each.Goals as goal
use Rattle.file_components.proofs.put_each.Goals.{else-k-count, then-k-count}

pub returns-then-one : goal.returns-then-one
returns-then-one c = rw (alike_numbers _ _ _ c.requires.0 (sym c.requires.2 ∙ c.if-one.true)) c.put_same.ensures

pub loop-i-init : goal.loop-i-init
loop-i-init c = (refl, numbering_start c.requires.0, writing_start _ _ _ _)

pub loop-i-preserved : goal.loop-i-preserved
loop-i-preserved c =
    let s = c.args in
    let n = c.number_at-k in
    let h = c.loop-i-test.true in
    (refl, numbering_on c.loop-i.invariant.1 h _ refl _ _ n.auto.work n.ensures _ (elim c.if-k-count.branch [ then-k-count a ↦ inl (a.if-k-count.true, a.count-is) | else-k-count a ↦ inr (a.if-k-count.false, a.count-is) ]), writing_on _ _ _ _ _ _ c.loop-i.invariant.2 (omega (arith, h, length_components s.cells.now (cells_of s.cells.now))) (number_is c.loop-i.invariant.1 h _ refl _ _ n.auto.work n.ensures) c.put_word.ensures)

pub returns : goal.returns
returns c =
    let s = c.args in
    writing_done _ _ _ _ _ _ c.loop-i.invariant.2 (omega (arith, c.loop-i.invariant.0, c.loop-i-test.false, length_components s.cells.now (cells_of s.cells.now)))
