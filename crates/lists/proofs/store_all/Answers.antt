use mathlib.Core.Path.{◌≡◌, ap, ◌∙◌}
use Prim.Native.Nat.{◌+◌, ◌-◌}
use native.Mathlib.Omega.{arith}
use lib.ListN.{length, length-drop}
use lib.Seq.{length-take-le, sets}
use Rattle.lists.proofs.Parts.{put_sets}
use Rattle.lists.proofs.store_all.Goals as goal

pub returns : goal.returns
returns g c =
    let at = c.args.at in
    let table = c.args.table.now in
    let stored = c.copy_from_slice.ensures in
    let n : at + g.row.N - at ≡ g.row.N = omega arith in
    let size : length c.copy_from_slice.new.self ≡ g.row.N = stored.len ∙ length-take-le _ _ (omega (arith, length-drop at table)) ∙ n in
    put_sets at g.row.N table _ size c.requires ∙ ap (sets table at) stored.after
