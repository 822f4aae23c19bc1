use Rattle.std.proofs.Common.{arith}
use Rattle.name_rows.proofs.RowSteps.{store_link-keeps}
use Rattle.name_rows.proofs.row_steps.store_link.Goals as goal

pub seat_step-requires-clause-keeps : goal.seat_step-requires-clause-keeps
seat_step-requires-clause-keeps c =
    store_link-keeps _ _ _ c.requires.here.1 _ _ c.requires.seen c.requires.low _ _ _ c.row_place-place.ensures c.requires.written (omega arith) c.requires.of_row
