-- Each field of what is asked is found by itself where the two together are not.
use Rattle.std.proofs.Common.{rules}
use Rattle.test_clock.proofs.running.schedules.a_stale_enter_counts_as_one_at_the_read_hand.Goals as goal

pub exit-requires : goal.exit-requires
exit-requires g c = record { here = search rules; phase = search rules }

pub poll-requires-2 : goal.poll-requires-2
poll-requires-2 g c = record { here = search rules; seen = search rules }
