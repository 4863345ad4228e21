use mathlib.Core.Path.{◌≡◌, refl, ◌∙◌}
use mathlib.Core.List.{List, [], ◌∷◌}
use Prim.Native.Nat.{ℕ}
use native.Mathlib.Omega.{arith}
use lib.Seq.{sets}
use Rattle.lists.proofs.Running.{loop_next, loop_room, loop_done}
use Rattle.lattice.proofs.vertex_row.Goals as goal

three : {x x' y y' z z' : ℕ} (l : List ℕ) (at : ℕ) → x ≡ x' → y ≡ y' → z ≡ z' → sets l at (x ∷ y ∷ z ∷ []) ≡ sets l at (x' ∷ y' ∷ z' ∷ [])
three l at p q r = rw (p, q, r) refl

pub store_all-requires : goal.store_all-requires
store_all-requires c = let r = (loop_room _ _ _ _ c.loop-i.invariant.0 c.loop-i-test.true c.requires.4.triples).fits in omega (arith, r)

pub store_all-requires-in-loop-i : goal.store_all-requires-in-loop-i
store_all-requires-in-loop-i c = let r = (loop_room _ _ _ _ c.loop-i.invariant.1 c.loop-i-test.true c.requires.4.points).fits in omega (arith, r)

pub loop-i-preserved : goal.loop-i-preserved
loop-i-preserved c = (
  loop_next _ _ _ _ c.loop-i.invariant.0 c.loop-i-test.true (record { count = refl; kept = c.store_all.ensures }),
  loop_next _ _ _ _ c.loop-i.invariant.1 c.loop-i-test.true (record { count = refl; kept = c.store_all-in-loop-i.ensures ∙ three c.loop-i.points c.loop-i.here c.place-px.ensures c.place-py.ensures c.place-pz.ensures }),
)

pub returns : goal.returns
returns c = record { triples = loop_done _ _ _ _ c.loop-i.invariant.0 c.loop-i-test.false; points = loop_done _ _ _ _ c.loop-i.invariant.1 c.loop-i-test.false }
