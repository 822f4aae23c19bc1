use Rattle.uma_seat.specs.Seating.{home_of}
use Rattle.uma_seat.proofs.seat.SeatCache.defer.Goals as goal

pub invariant_of-self-clause-freed_home : goal.invariant_of-self-clause-freed_home
invariant_of-self-clause-freed_home g c = c.push.ensures.home (home_of c.args.self.now.seating) c.args.self.now.freed_home c.requires.home
