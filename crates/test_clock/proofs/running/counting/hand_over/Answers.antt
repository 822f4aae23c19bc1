use Rattle.smr_clock.proofs.CountingLemmas.{over_keep}
use Rattle.test_clock.proofs.running.counting.hand_over.Goals as goal

pub seat_split-requires-clause-keeps : goal.seat_split-requires-clause-keeps
seat_split-requires-clause-keeps c = over_keep _ _ _ c.requires.here.1
