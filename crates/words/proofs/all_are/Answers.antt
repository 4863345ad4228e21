use mathlib.Core.Path.{refl, sym, ◌∙◌}
use native.Mathlib.Omega.{arith}
use Prim.Native.Nat.{ℕ, ◌+◌, ◌*◌, ◌<◌}
use lib.ListN.{get_or}
use Rattle.words.specs.Words.{word_at}
use Rattle.words.proofs.Turns.{are_not, are_still, are_all}
use Rattle.words.proofs.Words.{Bytes, low_word, turned_same, turned_other}
use Rattle.words.proofs.all_are.Goals as goal
use Rattle.words.proofs.all_are.Goals.{else-from_le_bytes-y, then-from_le_bytes-y}

pub loop-i-preserved : goal.loop-i-preserved
unfolding word_at
loop-i-preserved c =
    let h = c.loop-i-test.true in
    let l = c.loop-i in
    let z = c.from_le_bytes.ensures ∙ low_word _ _ _ _ in
    let y = c.turned-y.ensures in
    let p = c.args.at + 4 * l.i in
    let b = c.args.file.now in
    let small : (i : ℕ) → get_or b i 0 < 256 = λ i. omega (arith, c.type_inv.file i) in
    let s : Bytes (get_or b p 0) (get_or b (p + 1) 0) (get_or b (p + 2) 0) (get_or b (p + 3) 0) = (small p, small (p + 1), small (p + 2), small (p + 3)) in
    l.invariant
    ∙ elim c.if-from_le_bytes-y.branch [ then-from_le_bytes-y w ↦ are_not _ _ _ _ _ _ l.all h refl (turned_other _ _ _ _ _ s (omega arith) _ z y w.if-from_le_bytes-y.true) w.all-is | else-from_le_bytes-y w ↦ are_still _ _ _ _ _ _ l.all h refl (turned_same _ _ _ _ _ s (omega arith) _ z y w.if-from_le_bytes-y.false) w.all-is ]

pub returns : goal.returns
returns c = sym (c.loop-i.invariant ∙ are_all _ _ _ _ _ _ _ c.loop-i-test.false)
