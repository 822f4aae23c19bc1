use Rattle.name_rows.proofs.EntrySteps.{value-keeps}
use Rattle.name_rows.proofs.words.Words.write_value.Goals as goal

pub seat_step-requires-clause-keeps : goal.seat_step-requires-clause-keeps
seat_step-requires-clause-keeps c = value-keeps _ _ _ c.requires.here.1 c.args.self.now.kept c.args.self.now.no_rows c.args.self.now.owns _ _ c.value_place-place.ensures c.requires.clean
