use mathlib.Core.Path.{◌≡◌, ap, ◌∙◌}
use mathlib.Core.Bool.{true, false}
use native.Mathlib.Omega.{arith}
use lib.ListN.{length}
use lib.Seq.{sets}
use Rattle.lists.proofs.Parts.{put_sets}
use Rattle.words.specs.Words.{bytes4}
use Rattle.words.proofs.Words.{length_four, library_bytes}
use Rattle.words.proofs.put_word.Goals as goal

pub returns-then-big : goal.returns-then-big
returns-then-big c =
    let b : c.copy_from_slice.new.self ≡ bytes4 true c.args.x = c.copy_from_slice.ensures.after ∙ c.to_be_bytes.ensures ∙ library_bytes true c.args.x (omega arith) in
    rw c.if-big.true (put_sets c.args.at 4 c.args.file.now _ (ap length b ∙ length_four _ _) c.requires ∙ ap (sets c.args.file.now c.args.at) b)

pub returns : goal.returns
returns c =
    let b : c.copy_from_slice-2.new.self ≡ bytes4 false c.args.x = c.copy_from_slice-2.ensures.after ∙ c.to_le_bytes.ensures ∙ library_bytes false c.args.x (omega arith) in
    rw c.if-big.false (put_sets c.args.at 4 c.args.file.now _ (ap length b ∙ length_four _ _) c.requires ∙ ap (sets c.args.file.now c.args.at) b)
