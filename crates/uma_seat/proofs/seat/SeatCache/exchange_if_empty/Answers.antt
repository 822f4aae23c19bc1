use Rattle.std.proofs.Common.{rules}
use Rattle.uma_seat.specs.Seating.{home_of}
use Rattle.uma_seat.proofs.seat.SeatCache.exchange_if_empty.Goals as goal

pub invariant_of-self-clause-plain_home : goal.invariant_of-self-clause-plain_home
invariant_of-self-clause-plain_home g c = c.exchange.ensures.row_home (home_of c.args.self.now.seating) c.args.self.now.plain_home

pub returns-then-len-eq0 : goal.returns-then-len-eq0
returns-then-len-eq0 g c = record { top = search rules; plain = search rules; home = λ before. c.exchange.ensures.home (home_of c.args.self.now.seating) c.args.self.now.plain_home; frame = search rules }
