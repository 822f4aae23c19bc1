use Rattle.name_rows.proofs.EntrySteps.{ripe-keeps}
use Rattle.name_rows.proofs.words.Words.load_read_hand.Goals as goal

pub seat_step-read-requires-clause-keeps : goal.seat_step-read-requires-clause-keeps
seat_step-read-requires-clause-keeps c = ripe-keeps _ _ _ c.requires.here.1 c.args.self.now.kept c.args.self.now.no_rows c.args.self.now.owns
