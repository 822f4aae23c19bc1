use Rattle.smr_clock.proofs.CountingLemmas.{back_keep}
use Rattle.test_clock.proofs.running.counting.take_back.Goals as goal

pub seat_join-requires-clause-keeps : goal.seat_join-requires-clause-keeps
seat_join-requires-clause-keeps c = back_keep _ _ _ c.requires.here.1 _ _ c.requires.keeps_none c.args.other.is_note
