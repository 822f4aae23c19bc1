use Rattle.std.proofs.Common.{All, take}
use Rattle.replay_rounds.specs.Rounds.{HasEnded}
use Rattle.replay_rounds.proofs.playing.all_ended.Given as goal

abbrev pub invariant-loop-run : goal.invariant-loop-run
invariant-loop-run g l = All HasEnded (take l.run-index l.workers)
