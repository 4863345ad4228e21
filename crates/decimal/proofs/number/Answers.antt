use mathlib.Core.Path.{sym, ◌∙◌}
use Rattle.decimal.proofs.Texts.{exits, number_low, number_stops, number_ends, number_over}
use Rattle.decimal.proofs.number.Goals as goal

pub returns-then-n-lt10000000000 : goal.returns-then-n-lt10000000000
returns-then-n-lt10000000000 c = c.digits_of.ensures ∙ sym (number_low _ _ _ c.if-n-lt10000000000.true)

pub returns-in_err-next : goal.returns-in_err-next
returns-in_err-next c = exits c.from_residual.ensures.1 ∙ number_stops _ _ _ c.if-n-lt10000000000.false _ c.in_err-next.ensures

pub returns-then-file-next : goal.returns-then-file-next
returns-then-file-next c = number_ends _ _ _ c.if-n-lt10000000000.false _ c.in_ok-next.ensures c.if-file-next.true

pub returns : goal.returns
returns c = number_over _ _ _ c.if-n-lt10000000000.false _ c.in_ok-next.ensures c.if-file-next.false
