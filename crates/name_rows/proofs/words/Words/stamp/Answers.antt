use Rattle.name_rows.proofs.EntrySteps.{stamp-keeps}
use Rattle.name_rows.proofs.words.Words.stamp.Goals as goal

pub seat_step-write-requires-clause-keeps : goal.seat_step-write-requires-clause-keeps
seat_step-write-requires-clause-keeps c = stamp-keeps _ _ _ c.requires.here.1 c.args.self.now.kept c.args.self.now.no_rows c.args.self.now.owns c.requires.unlinked
