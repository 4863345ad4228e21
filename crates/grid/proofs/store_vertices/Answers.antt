use mathlib.Core.Path.{refl, ap, ◌∙◌}
use Prim.Native.Nat.{ℕ, ◌≤◌}
use native.Mathlib.Omega.{arith}
use lib.Seq.{length-take-le, sets}
use Rattle.lists.proofs.Running.{loop_next, loop_room, loop_done, storing_length}
use Rattle.space.specs.Space.{ax, ay, az, Pos}
use Rattle.vertex_keys.specs.Keys.{triple_of}
use Rattle.plan.specs.Vertices.{triple_at, point_at}
use Rattle.grid.specs.Parts.{three_of}
use Rattle.grid.proofs.Vertices.{key_at, key_room, three_same}
use Rattle.grid.proofs.store_vertices.Goals as goal

pub overflow_cast-x : goal.overflow_cast-x
overflow_cast-x c =
    let k = key_at c.args.keys.now c.args.v c.loop-key.key-index c.requires.there c.loop-key-test.true in
    let h = c.requires.small c.loop-key.key-index k.0 in
    omega (arith, ap (λ (q : Pos). q ax) c.unpack-t.ensures, k.1)

pub overflow_cast-y : goal.overflow_cast-y
overflow_cast-y c =
    let k = key_at c.args.keys.now c.args.v c.loop-key.key-index c.requires.there c.loop-key-test.true in
    let h = c.requires.small c.loop-key.key-index k.0 in
    omega (arith, ap (λ (q : Pos). q ay) c.unpack-t.ensures, k.1)

pub overflow_cast-z : goal.overflow_cast-z
overflow_cast-z c =
    let k = key_at c.args.keys.now c.args.v c.loop-key.key-index c.requires.there c.loop-key-test.true in
    let h = c.requires.small c.loop-key.key-index k.0 in
    omega (arith, ap (λ (q : Pos). q az) c.unpack-t.ensures, k.1)

pub place-px-requires : goal.place-px-requires
place-px-requires c =
    let k = key_at c.args.keys.now c.args.v c.loop-key.key-index c.requires.there c.loop-key-test.true in
    let h = c.requires.small c.loop-key.key-index k.0 in
    omega (arith, ap (λ (q : Pos). q ax) c.unpack-t.ensures, k.1)

pub place-py-requires : goal.place-py-requires
place-py-requires c =
    let k = key_at c.args.keys.now c.args.v c.loop-key.key-index c.requires.there c.loop-key-test.true in
    let h = c.requires.small c.loop-key.key-index k.0 in
    omega (arith, ap (λ (q : Pos). q ay) c.unpack-t.ensures, k.1)

pub place-pz-requires : goal.place-pz-requires
place-pz-requires c =
    let k = key_at c.args.keys.now c.args.v c.loop-key.key-index c.requires.there c.loop-key-test.true in
    let h = c.requires.small c.loop-key.key-index k.0 in
    omega (arith, ap (λ (q : Pos). q az) c.unpack-t.ensures, k.1)

pub store_all-requires : goal.store_all-requires
unfolding three_of
store_all-requires c =
    let k = key_at c.args.keys.now c.args.v c.loop-key.key-index c.requires.there c.loop-key-test.true in
    let r = (loop_room _ _ _ _ c.loop-key.invariant.0 k.0 (key_room triple_at c.args.v c.args.keys.now _ c.requires.triple_room)).fits in
    omega (arith, r)

pub store_all-requires-in-loop-key : goal.store_all-requires-in-loop-key
unfolding three_of
store_all-requires-in-loop-key c =
    let k = key_at c.args.keys.now c.args.v c.loop-key.key-index c.requires.there c.loop-key-test.true in
    let r = (loop_room _ _ _ _ c.loop-key.invariant.1 k.0 (key_room (point_at c.args.p) c.args.v c.args.keys.now _ c.requires.point_room)).fits in
    omega (arith, r)

pub overflow_add-here : goal.overflow_add-here
unfolding three_of
overflow_add-here c =
    let k = key_at c.args.keys.now c.args.v c.loop-key.key-index c.requires.there c.loop-key-test.true in
    let r = (loop_room _ _ _ _ c.loop-key.invariant.0 k.0 (key_room triple_at c.args.v c.args.keys.now _ c.requires.triple_room)).fits in
    omega (arith, r, storing_length c.loop-key.invariant.0, c.requires.triple_room, c.well_formed)

pub loop-key-preserved : goal.loop-key-preserved
unfolding three_of
loop-key-preserved c =
    let l = c.loop-key in
    let p = c.args.p in
    let k = key_at c.args.keys.now c.args.v c.loop-key.key-index c.requires.there c.loop-key-test.true in
    let ex = ap (λ (q : Pos). q ax) c.unpack-t.ensures ∙ ap (λ (n : ℕ). triple_of n ax) k.1 in
    let ey = ap (λ (q : Pos). q ay) c.unpack-t.ensures ∙ ap (λ (n : ℕ). triple_of n ay) k.1 in
    let ez = ap (λ (q : Pos). q az) c.unpack-t.ensures ∙ ap (λ (n : ℕ). triple_of n az) k.1 in (
      loop_next _ _ _ _ l.invariant.0 k.0 (record { count = refl; kept = c.store_all.ensures ∙ ap (sets l.triples l.here) (three_same ex ey ez) }),
      loop_next _ _ _ _ l.invariant.1 k.0
          (record {
            count = refl;
            kept = c.store_all-in-loop-key.ensures ∙ ap (sets l.points l.here) (three_same (c.place-px.ensures ∙ ap (point_at p ax) ex) (c.place-py.ensures ∙ ap (point_at p ay) ey) (c.place-pz.ensures ∙ ap (point_at p az) ez));
          }),
    )

pub returns : goal.returns
returns c =
    let e : c.args.v ≤ c.loop-key.key-index = omega (arith, length-take-le c.args.v c.args.keys.now c.requires.there) in
    ((loop_done _ _ _ _ c.loop-key.invariant.0 e).kept, (loop_done _ _ _ _ c.loop-key.invariant.1 e).kept)
