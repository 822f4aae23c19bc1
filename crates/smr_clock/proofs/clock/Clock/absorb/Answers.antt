use Rattle.std.proofs.Common.{rules}
use Rattle.smr_clock.proofs.Splits.{note_joins}
use Rattle.smr_clock.proofs.clock.Clock.absorb.Goals as goal

pub join_seat-requires : goal.join_seat-requires
join_seat-requires g c = (search rules, search rules, search rules, search rules, note_joins _ g.H.Host.includes g.H.Host.may_note g.H.Host.merged g.H.Host.blank g.H.Host.join _ _ _ _ _ (search rules) (search rules) (search rules))
