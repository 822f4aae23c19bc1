use Rattle.std.proofs.Common.{None, refl, le_of_eq}
use Rattle.replay_rounds.proofs.playing.PlainNamesNameCalls.find.Goals as goal

pub returns-clause-finds : goal.returns-clause-finds
returns-clause-finds c = record { version = 0; content = None; knows = (refl, refl); met = λ other bound known. le_of_eq known.0; answer = refl }
