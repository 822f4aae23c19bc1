use Rattle.uma_seat.specs.Seating.{home_of}
use Rattle.uma_seat.proofs.seat.SeatCache.put.Goals as goal

pub invariant_of-self-clause-plain_home : goal.invariant_of-self-clause-plain_home
invariant_of-self-clause-plain_home g c = c.push.ensures.home (home_of c.args.self.now.seating) c.args.self.now.plain_home c.requires.home
