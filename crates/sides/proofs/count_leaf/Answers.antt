use Rattle.sides.proofs.Levels.{count_link}
use Rattle.sides.proofs.count_leaf.Goals as goal

pub returns : goal.returns
returns c =
    count_link _ _ c.requires.0 _ c.requires.1 c.sides_at-f.ensures
    c.given_at.ensures.0 c.given_at-2.ensures.0 c.given_at-3.ensures.0 c.given_at-4.ensures.0 c.given_at-5.ensures.0 c.given_at-6.ensures.0
