use Rattle.name_rows.proofs.RowSteps.{open_keeps}
use Rattle.name_rows.proofs.making.open_row.Goals as goal

pub seat_step-word-requires-clause-keeps : goal.seat_step-word-requires-clause-keeps
seat_step-word-requires-clause-keeps c = open_keeps _ _ _ c.requires.here.1 _ c.requires.row c.requires.none _ c.row_place-place.ensures
