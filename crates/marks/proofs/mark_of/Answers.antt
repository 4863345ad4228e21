use mathlib.Core.Path.{sym, ap}
use Rattle.marks.specs.Marks.{verdict_mark}
use Rattle.marks.proofs.mark_of.Goals as goal

pub returns-in-Kept : goal.returns-in-Kept
unfolding verdict_mark
returns-in-Kept c = sym (ap verdict_mark c.in-Kept.is)

pub returns-in-Exchanged : goal.returns-in-Exchanged
unfolding verdict_mark
returns-in-Exchanged c = sym (ap verdict_mark c.in-Exchanged.is)

pub returns-in-Dropped : goal.returns-in-Dropped
unfolding verdict_mark
returns-in-Dropped c = sym (ap verdict_mark c.in-Dropped.is)
