use Rattle.octants.specs.Table.{slot}
use mathlib.Core.Bool.{true}
use mathlib.Core.List.{List}
use Rattle.octree.specs.Parts.{counts_of, Held}
use Rattle.octree.specs.declared.Level.{Level}
use mathlib.Core.Path.{◌≡◌}
use Rattle.octants.specs.Oct.{within}
use Prim.Native.Nat.{◌+◌, ◌*◌, ◌<◌, ◌≤◌, ℕ}
use native.Mathlib.Omega.{arith}
use lib.ListN.{length}
use Rattle.lists.proofs.Tests.{failed, passed}
use Rattle.space.specs.Space.{pos, Pos}
use Rattle.octants.proofs.Near.{within_in}
use Rattle.octants.proofs.TableLaws.{slot_room}
use Rattle.octree.proofs.hits.Goals as goal

-- past the test the octant is in the box
room : (s : List ℕ) (v : Level) (x : Pos) → within (counts_of v) x ≡ true → Held s v
    → (v.start + slot (counts_of v) x < length s) × (v.nx * v.ny ≤ length s)
room s v x h f = slot_room v.start (length s) (counts_of v) x (within_in (counts_of v) x h) f

pub returns-then-not-is_inside : goal.returns-then-not-is_inside
returns-then-not-is_inside c = simp (failed c.is_inside.ensures c.if-not-is_inside.true)

pub slot_of-requires : goal.slot_of-requires
slot_of-requires c =
    let a = c.args in
    let r = room a.s.now a.v (pos a.x a.y a.z) (passed c.is_inside.ensures c.if-not-is_inside.false) c.requires in
    omega arith

pub overflow_add-i : goal.overflow_add-i
overflow_add-i c =
    let a = c.args in
    let r = room a.s.now a.v (pos a.x a.y a.z) (passed c.is_inside.ensures c.if-not-is_inside.false) c.requires in
    omega arith

pub bounds-s-i : goal.bounds-s-i
bounds-s-i c =
    let a = c.args in
    let r = room a.s.now a.v (pos a.x a.y a.z) (passed c.is_inside.ensures c.if-not-is_inside.false) c.requires in
    omega arith

pub returns : goal.returns
returns c = simp (passed c.is_inside.ensures c.if-not-is_inside.false, c.slot_of.ensures)
