use Rattle.file_components.proofs.Comparing.{uneven}
use Rattle.file_components.proofs.numbers_right.Goals as goal

pub returns-then-s : goal.returns-then-s
returns-then-s c = record { right = uneven _ c.args.s c.if-s.true; zero = c.fill.ensures.after (λ y e. e) }
