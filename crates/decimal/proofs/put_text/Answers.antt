use mathlib.Core.Path.{refl, ap, ◌∙◌}
use lib.ListN.{length}
use lib.Seq.{sets}
use Rattle.lists.proofs.Parts.{put_sets}
use Rattle.decimal.proofs.put_text.Goals as goal

pub returns : goal.returns
returns c =
    let e = c.copy_from_slice.ensures.after in
    record { count = refl; kept = put_sets c.args.at (length c.args.text.now) c.args.file.now _ (ap length e) c.requires ∙ ap (sets c.args.file.now c.args.at) e }
