use Rattle.std.proofs.Common.{[], inl, refl}
use Rattle.replay_rounds.proofs.playing.PlainNamesNameCalls.bind.Goals as goal

pub returns-clause-moves : goal.returns-clause-moves
returns-clause-moves g c = record { brought = []; handed = []; balance = refl; come = inl refl }
