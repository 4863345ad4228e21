use native.Mathlib.Omega.{arith}
use Rattle.mesh.specs.Mesh.{in_order}
use Rattle.marked.specs.Used.{first_uses}
use Rattle.marked.proofs.note_corners.Goals as goal

pub returns : goal.returns
unfolding first_uses in_order
returns c =
    let one = c.note-one.ensures in
    let two = c.note-two.ensures in
    let three = c.note-three.ensures in
    let four = c.note.ensures in
    record {
      numbered = λ s t e.
          let p = one.numbered s t e in
          let q = two.numbered _ p.0 p.1 in
          let r = three.numbered _ q.0 q.1 in
          four.numbered _ r.0 r.1;
      few = omega (arith, one.few, two.few, three.few, four.few);
    }
