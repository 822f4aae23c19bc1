use Rattle.name_rows.specs.Moving.{taken}
use Rattle.name_rows.proofs.SeatMoves.{join_keeps}
use Rattle.name_rows.proofs.RootSteps.{takes_back}
use Rattle.name_rows.proofs.writing.take_back.Goals as goal

pub seat_join-requires-clause-keeps : goal.seat_join-requires-clause-keeps
seat_join-requires-clause-keeps c =
    join_keeps _ _ _ _ _ taken c.requires.here.1 c.args.words.seat.is_note (takes_back _ _ c.args.root.now.no_rows c.args.words.no_rows)
