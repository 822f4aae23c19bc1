use Rattle.std.proofs.Common.{None, refl, le_of_eq}
use Rattle.replay_rounds.proofs.playing.PlainNamesNameCalls.unbind.Goals as goal

pub returns-clause-unbinds : goal.returns-clause-unbinds
returns-clause-unbinds g c = record { version = 0; content = None; knows = (refl, refl); met = λ other bound known. le_of_eq known.0; newest = λ other bound known. le_of_eq known.0; unbound = refl }
