use Rattle.lookup.proofs.+descend.Given as goal

-- The levels left fall.
abbrev pub decreases-descend : goal.decreases-descend
decreases-descend l = l.k
