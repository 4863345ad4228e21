use mathlib.Core.Path.{sym}
use native.Mathlib.Omega.{arith}
use Prim.Native.Nat.{◌<◌}
use lib.ListN.{length-replicate, get_or-replicate}
use Rattle.words.proofs.Turns.{writing_on, writing_done}
use Rattle.words.proofs.put_same.Goals as goal

pub loop-i-preserved : goal.loop-i-preserved
loop-i-preserved c =
    let l = c.loop-i in
    let s = c.args in
    let h : l.i < s.n = c.loop-i-test.true in
    writing_on _ _ _ _ _ _ l.invariant (omega (arith, length-replicate s.n s.x)) (sym (get_or-replicate s.n l.i s.x 0 h)) c.put_word.ensures

pub returns : goal.returns
returns c =
    let s = c.args in
    writing_done _ _ _ _ _ _ c.loop-i.invariant (omega (arith, length-replicate s.n s.x))
