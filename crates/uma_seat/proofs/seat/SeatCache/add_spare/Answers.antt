use Rattle.std.proofs.Common.{sym, subst}
use Rattle.std.specs.List.{All}
use Rattle.uma_seat.specs.Seating.{home_of, clock_of}
use Rattle.uma_bucket.specs.Shelved.{IsShelvedAt, IsShelvedOf}
use Rattle.uma_seat.proofs.seat.SeatCache.add_spare.Goals as goal

pub invariant_of-self-clause-shelf_home : goal.invariant_of-self-clause-shelf_home
invariant_of-self-clause-shelf_home g c = subst (All (IsShelvedAt (home_of c.args.self.now.seating))) (sym c.put_spare.ensures.shelf) c.args.self.now.shelf_home

pub invariant_of-self-clause-shelf_clock : goal.invariant_of-self-clause-shelf_clock
invariant_of-self-clause-shelf_clock g c = subst (All (IsShelvedOf (clock_of c.args.self.now.seating))) (sym c.put_spare.ensures.shelf) c.args.self.now.shelf_clock
