use mathlib.Core.Path.{◌∙◌, ap}
use Prim.Native.Nat.{ℕ}
use lib.ListN.{replicate}
use lib.Seq.{length_front}
use Rattle.keep.specs.Parts.{front_of}
use Rattle.keep.proofs.WaysOut.{rest_kept}
use Rattle.keep.proofs.keep_rest.Goals as goal

pub returns : goal.returns
returns c =
    let s = c.args in
    let k = c.keep_marked-answer in
    record {
      zero = c.fill.ensures.after (λ y e. e) ∙ ap (λ (m : ℕ). replicate m 0) (length_front s.work.now k.new.work (front_of s.points.now s.cells.now) k.auto.work);
      kept = rest_kept _ _ _ _ _ _ c.least_volume-least.ensures k.ensures;
    }
