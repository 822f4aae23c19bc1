use Rattle.std.proofs.Common.{rules}
use Rattle.smr_clock.proofs.HostAllowed.{split_allowed}
use Rattle.smr_clock.proofs.clock.Clock.seat_split.Goals as goal

pub split_seat-other-requires : goal.split_seat-other-requires
split_seat-other-requires g c = (
  search rules,
  search rules,
  split_allowed g.H.Host.holds c.args.self.now.setup _ (search rules) _ c.args.seat.now.seat.me.0 _ c.load_from_seat.result g.M.HostSplit.left g.M.HostSplit.right
      c.load_from_seat.ensures.found c.load_from_seat.ensures.view _ c.load_from_seat.ensures.same c.requires.keeps,
)
