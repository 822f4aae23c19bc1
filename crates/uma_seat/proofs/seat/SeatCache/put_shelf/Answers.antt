use Rattle.std.proofs.Common.{sym, subst}
use Rattle.std.specs.List.{All}
use Rattle.std.proofs.lemmas.List.Elements.{All-cons}
use Rattle.uma_seat.specs.Seating.{home_of, clock_of}
use Rattle.uma_bucket.specs.Shelved.{IsShelvedAt, IsShelvedOf}
use Rattle.uma_seat.proofs.seat.SeatCache.put_shelf.Goals as goal

pub invariant_of-self-clause-shelf_home : goal.invariant_of-self-clause-shelf_home
invariant_of-self-clause-shelf_home g c =
    let P = IsShelvedAt (home_of c.args.self.now.seating) in
    subst (All P) (sym c.put_oldest.ensures.shelf) (All-cons P c.args.shelved _ c.requires.home c.args.self.now.shelf_home)

pub invariant_of-self-clause-shelf_clock : goal.invariant_of-self-clause-shelf_clock
invariant_of-self-clause-shelf_clock g c =
    let P = IsShelvedOf (clock_of c.args.self.now.seating) in
    subst (All P) (sym c.put_oldest.ensures.shelf) (All-cons P c.args.shelved _ c.requires.clock c.args.self.now.shelf_clock)
