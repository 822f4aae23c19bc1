use Rattle.uma_zone.proofs.Extremes.{tells_extremes, is_farthest, counts_moves}
use Rattle.uma_zone.proofs.laws.the_working_set_is_how_far_the_count_moved.Goals as goal

pub returns-clause-extremes : goal.returns-clause-extremes
returns-clause-extremes g c = tells_extremes

pub returns-clause-farthest : goal.returns-clause-farthest
returns-clause-farthest g c = is_farthest

pub returns-clause-moves : goal.returns-clause-moves
returns-clause-moves g c = counts_moves
