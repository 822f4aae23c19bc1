use Rattle.name_rows.specs.Moving.{linked_rest, unlinked_entry}
use Rattle.name_rows.proofs.SeatMoves.{split_keeps, gives_out}
use Rattle.name_rows.proofs.row_steps.give_out.Goals as goal

pub seat_split-requires-clause-keeps : goal.seat_split-requires-clause-keeps
seat_split-requires-clause-keeps c = split_keeps _ _ _ linked_rest unlinked_entry c.requires.here.1 (λ ws ps held here. gives_out _)
