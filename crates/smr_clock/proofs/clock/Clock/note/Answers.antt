use Rattle.std.proofs.Common.{rules}
use Rattle.smr_clock.proofs.Splits.{note_splits}
use Rattle.smr_clock.proofs.clock.Clock.note.Goals as goal

pub split_seat-seat-requires : goal.split_seat-seat-requires
split_seat-seat-requires g c = (search rules, search rules, note_splits _ g.H.Host.includes g.H.Host.copied g.H.Host.split _ _ _ (search rules))
