use mathlib.Core.Path.{◌≡◌, sym, ap, ◌∙◌}
use native.Mathlib.Omega.{arith}
use Prim.Native.Nat.{ℕ, ◌+◌, ◌-◌}
use Rattle.vtk_layout.proofs.Parts.{title_on, title_feed, title_ends, title_last}
use Rattle.decimal.specs.Text.{text_of}
use Rattle.vtk_layout.specs.Texts.{feed}
use Rattle.vtk_layout.specs.Layout.{title_at}
use Rattle.vtk_layout.proofs.title.Goals as goal

pub returns-then-file-q : goal.returns-then-file-q
returns-then-file-q c = sym (c.loop.invariant ∙ title_ends _ _ _ (omega arith) c.if-file-q.true)

pub returns-then-file-q-eq10 : goal.returns-then-file-q-eq10
returns-then-file-q-eq10 c = sym (c.loop.invariant ∙ title_feed _ _ _ (omega arith) c.if-file-q.false c.if-file-q-eq10.true)

pub loop-preserved : goal.loop-preserved
loop-preserved c =
    let l = c.loop in
    let e : 255 - l.counter - 1 ≡ 255 - (l.counter + 1) = omega arith in
    l.invariant ∙ title_on _ _ _ (omega arith) c.if-file-q.false c.if-file-q-eq10.false ∙ ap (λ (k : ℕ). title_at k c.args.file.now (l.q + 1)) e

pub returns : goal.returns
unfolding feed text_of
returns c = c.text.ensures ∙ sym (c.loop.invariant ∙ title_last _ _ _ (omega arith))
