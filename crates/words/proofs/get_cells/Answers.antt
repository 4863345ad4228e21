use mathlib.Core.Path.{sym, ap, ◌∙◌}
use Rattle.words.specs.Words.{words_at}
use Rattle.words.proofs.Words.{cells_plain}
use Rattle.words.proofs.get_cells.Goals as goal

pub returns-then-stride-eq4 : goal.returns-then-stride-eq4
returns-then-stride-eq4 c = c.get_words.ensures ∙ ap (words_at _ _ _) c.requires.1 ∙ sym (rw c.if-stride-eq4.true (cells_plain _ _ _ _))
