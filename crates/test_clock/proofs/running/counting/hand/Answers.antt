use Rattle.smr_clock.proofs.CountingLemmas.{hand_keep}
use Rattle.test_clock.proofs.running.counting.hand.Goals as goal

pub seat_step-requires-clause-keeps : goal.seat_step-requires-clause-keeps
seat_step-requires-clause-keeps c = hand_keep _ _ _ c.requires.here.1 _ c.requires.hand
