use Rattle.std.proofs.Common.{rules}
use Rattle.uma_seat.specs.Seating.{home_of}
use Rattle.uma_seat.proofs.Crossing.{cross_of}
use Rattle.uma_seat.proofs.RowSteps.{no_none}
use Rattle.uma_seat.proofs.seat.SeatCache.take_cross.Goals as goal

pub invariant_of-self-clause-plain_home : goal.invariant_of-self-clause-plain_home
invariant_of-self-clause-plain_home g c = c.pop.ensures.row_home (home_of c.args.self.now.seating) c.args.self.now.plain_home

pub returns : goal.returns
returns g c = record {
  taken = cross_of c.args.self.now _ c.in_ok-domain.domain c.in_ok-domain.ensures.found.within c.in_ok-domain.ensures.found.other c.pop.result c.pop.ensures.takes;
  home = c.pop.ensures.home (home_of c.args.self.now.seating) c.args.self.now.plain_home;
  none = no_none _ c.pop.result c.pop.ensures.some;
  unchanged = no_none _ c.pop.result c.pop.ensures.some;
  same = search rules;
  ports = search rules;
  top = search rules;
  freed = search rules;
  rack = search rules;
  counts = search rules;
  misses = search rules;
}
