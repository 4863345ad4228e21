use mathlib.Core.Path.{◌≡◌, ap, ◌∙◌}
use Prim.Native.Nat.{◌+◌, ◌-◌}
use native.Mathlib.Omega.{arith}
use lib.ListN.{length, length-drop}
use lib.Seq.{length-take-le, sets}
use Rattle.lists.proofs.Parts.{put_sets}
use Rattle.leaf_cells.specs.Parts.{nine_keys}
use Rattle.leaf_cells.proofs.store_nine.Goals as goal

pub returns : goal.returns
unfolding nine_keys
returns c =
    let at = c.args.at in
    let work = c.args.work.now in
    let stored = c.copy_from_slice.ensures in
    let n : at + 9 - at ≡ 9 = omega arith in
    let size : length c.copy_from_slice.new.self ≡ 9 = stored.len ∙ length-take-le _ _ (omega (arith, length-drop at work)) ∙ n in
    put_sets at 9 work _ size c.requires.at_in_bounds ∙ ap (sets work at) stored.after
