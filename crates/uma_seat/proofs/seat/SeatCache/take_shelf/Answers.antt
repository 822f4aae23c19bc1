use Rattle.std.proofs.Common.{rules, arith}
use Rattle.std.proofs.lemmas.Grind.{common_steps}
use Rattle.uma_seat.specs.Seating.{home_of, clock_of}
use Rattle.uma_bucket.specs.Shelved.{IsShelvedAt, IsShelvedOf}
use Rattle.uma_seat.proofs.OntoShelf.{All-taken}
use Rattle.uma_seat.proofs.seat.SeatCache.take_shelf.Goals as goal

pub invariant_of-self-clause-shelf_home : goal.invariant_of-self-clause-shelf_home
invariant_of-self-clause-shelf_home g c = (All-taken (IsShelvedAt (home_of c.args.self.now.seating)) _ _ _ c.take_oldest.ensures.oldest c.take_oldest.ensures.unchanged c.args.self.now.shelf_home).0

pub invariant_of-self-clause-shelf_clock : goal.invariant_of-self-clause-shelf_clock
invariant_of-self-clause-shelf_clock g c = (All-taken (IsShelvedOf (clock_of c.args.self.now.seating)) _ _ _ c.take_oldest.ensures.oldest c.take_oldest.ensures.unchanged c.args.self.now.shelf_clock).0

pub returns : goal.returns
returns g c = record {
  oldest = search rules;
  filled = search rules;
  home = (All-taken (IsShelvedAt (home_of c.args.self.now.seating)) _ _ _ c.take_oldest.ensures.oldest c.take_oldest.ensures.unchanged c.args.self.now.shelf_home).1;
  clock = (All-taken (IsShelvedOf (clock_of c.args.self.now.seating)) _ _ _ c.take_oldest.ensures.oldest c.take_oldest.ensures.unchanged c.args.self.now.shelf_clock).1;
  place = grind (arith, common_steps);
  none = search rules;
  unchanged = search rules;
  spares = search rules;
  same = search rules;
  ports = search rules;
  top = search rules;
  plain = search rules;
  freed = search rules;
  counts = search rules;
  misses = search rules;
}
