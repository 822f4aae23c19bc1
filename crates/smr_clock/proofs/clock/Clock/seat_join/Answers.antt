use Rattle.std.proofs.Common.{rules}
use Rattle.smr_clock.proofs.HostAllowed.{join_allowed}
use Rattle.smr_clock.proofs.clock.Clock.seat_join.Goals as goal

pub join_seat-requires : goal.join_seat-requires
join_seat-requires g c = (
  search rules,
  search rules,
  search rules,
  search rules,
  join_allowed g.H.Host.holds c.args.self.now.setup _ (search rules) _ _ _ _ g.M.HostJoin.both g.H.Host.blank c.requires.keeps,
)
