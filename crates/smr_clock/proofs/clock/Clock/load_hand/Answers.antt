use Rattle.std.proofs.Common.{rules}
use Rattle.smr_clock.proofs.SeatSteps.{hand_allowed}
use Rattle.smr_clock.proofs.clock.Clock.load_hand.Goals as goal

pub load-requires : goal.load-requires
load-requires g c = (search rules, search rules, hand_allowed g.H.Host.holds g.H.Host.includes c.args.self.now.setup _ _ _ _ _ g.M.HostPlay.changes (search rules) c.requires.keeps)
