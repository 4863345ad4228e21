use Rattle.marked.proofs.Using.{noted_there, noted_next}
use Rattle.marked.proofs.note.Goals as goal

pub returns-then-numbers-v-ne0 : goal.returns-then-numbers-v-ne0
returns-then-numbers-v-ne0 c = noted_there _ _ _ c.requires.inside c.if-numbers-v-ne0.true

pub returns : goal.returns
returns c = noted_next _ _ _ c.requires.inside c.if-numbers-v-ne0.false
