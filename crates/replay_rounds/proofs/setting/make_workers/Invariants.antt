-- The workers so far are as many as the passes that were taken, and none took a turn.
use Rattle.std.proofs.Common.{length}
use Rattle.replay_rounds.specs.Beginners.{AreBeginners}
use Rattle.replay_rounds.proofs.setting.make_workers.Given as goal

abbrev pub invariant-loop-pass : goal.invariant-loop-pass
invariant-loop-pass g l = AreBeginners l.zones l.clock l.domains (length l.yielded) l.workers.items
