use native.Mathlib.Omega.{arith}
use Rattle.space.specs.Space.{ax, ay, az}
use Rattle.sides.proofs.Levels.{around_held, near, along_small, sides_link}
use Rattle.sides.proofs.sides_at.Goals as goal

pub overflow_mul-x : goal.overflow_mul-x
overflow_mul-x c = omega (arith, along_small _ _ c.requires.0 _ c.requires.1 _ c.along-w.ensures ax)

pub overflow_mul-y : goal.overflow_mul-y
overflow_mul-y c = omega (arith, along_small _ _ c.requires.0 _ c.requires.1 _ c.along-w.ensures ay)

pub overflow_mul-z : goal.overflow_mul-z
overflow_mul-z c = omega (arith, along_small _ _ c.requires.0 _ c.requires.1 _ c.along-w.ensures az)

pub side_of-x0-requires : goal.side_of-x0-requires
side_of-x0-requires c = (around_held _ _ c.requires.0 _ c.requires.1 c.around_of-l.ensures, near _ _ c.requires.0 _ c.requires.1 ax ay az)

pub side_of-x1-requires : goal.side_of-x1-requires
side_of-x1-requires c = (around_held _ _ c.requires.0 _ c.requires.1 c.around_of-l.ensures, near _ _ c.requires.0 _ c.requires.1 ax ay az)

pub side_of-y0-requires : goal.side_of-y0-requires
side_of-y0-requires c = (around_held _ _ c.requires.0 _ c.requires.1 c.around_of-l.ensures, near _ _ c.requires.0 _ c.requires.1 ay az ax)

pub side_of-y1-requires : goal.side_of-y1-requires
side_of-y1-requires c = (around_held _ _ c.requires.0 _ c.requires.1 c.around_of-l.ensures, near _ _ c.requires.0 _ c.requires.1 ay az ax)

pub side_of-z0-requires : goal.side_of-z0-requires
side_of-z0-requires c = (around_held _ _ c.requires.0 _ c.requires.1 c.around_of-l.ensures, near _ _ c.requires.0 _ c.requires.1 az ax ay)

pub side_of-z1-requires : goal.side_of-z1-requires
side_of-z1-requires c = (around_held _ _ c.requires.0 _ c.requires.1 c.around_of-l.ensures, near _ _ c.requires.0 _ c.requires.1 az ax ay)

pub returns : goal.returns
returns c =
    sides_link _ _ c.requires.0 _ c.requires.1 _ c.around_of-l.ensures c.along-w.ensures
    c.side_of-x0.ensures c.side_of-x1.ensures c.side_of-y0.ensures c.side_of-y1.ensures c.side_of-z0.ensures c.side_of-z1.ensures
