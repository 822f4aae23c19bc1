use Rattle.name_rows.proofs.EntrySteps.{key-keeps}
use Rattle.name_rows.proofs.words.Words.write_key.Goals as goal

pub seat_step-requires-clause-keeps : goal.seat_step-requires-clause-keeps
seat_step-requires-clause-keeps c = key-keeps _ _ _ c.requires.here.1 c.args.self.now.kept c.args.self.now.no_rows c.args.self.now.owns _ _ c.key_place-place.ensures c.requires.clean
