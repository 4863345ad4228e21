use Rattle.representatives.proofs.WaysOut.{short_numbers, short_centroids, all_listed}
use Rattle.representatives.proofs.list_in_room.Goals as goal

pub returns-then-numbers-count : goal.returns-then-numbers-count
returns-then-numbers-count c = short_numbers _ _ _ _ _ c.count_last-count.ensures.count c.if-numbers-count.true

pub returns-then-centroids-count : goal.returns-then-centroids-count
returns-then-centroids-count c = short_centroids _ _ _ _ _ c.count_last-count.ensures.count c.if-numbers-count.false c.if-centroids-count.true

pub returns : goal.returns
returns c = all_listed _ _ _ _ _ c.count_last-count.ensures.count c.if-numbers-count.false c.if-centroids-count.false c.list_last.ensures
