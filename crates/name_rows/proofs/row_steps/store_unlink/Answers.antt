use Rattle.std.proofs.Common.{arith}
use Rattle.name_rows.proofs.RowSteps.{store_unlink-keeps}
use Rattle.name_rows.proofs.row_steps.store_unlink.Goals as goal

pub seat_step-requires-clause-keeps : goal.seat_step-requires-clause-keeps
seat_step-requires-clause-keeps c =
    store_unlink-keeps _ _ _ c.requires.here.1 _ _ c.requires.seen c.requires.low _ _ c.row_place-place.ensures (omega arith)
