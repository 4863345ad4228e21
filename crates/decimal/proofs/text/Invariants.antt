use mathlib.Core.Path.{◌≡◌}
use lib.ListN.{drop}
use Rattle.decimal.specs.Text.{text_at}
use Rattle.decimal.proofs.text.Given as goal

abbrev pub invariant-loop-x : goal.invariant-loop-x
invariant-loop-x l = text_at l.text l.file l.at ≡ text_at (drop l.x-index l.text) l.file l.q
