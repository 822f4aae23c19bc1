use Rattle.std.proofs.Common.{◌≡◌, ◌<◌, sym, subst}
use Rattle.std.proofs.lemmas.List.Elements.{All-nil}
use Rattle.uma_seat.specs.Seating.{home_of, clock_of}
use Rattle.uma_bucket.specs.Shelved.{IsShelvedAt, IsShelvedOf}
use Rattle.uma_seat.proofs.OntoShelf.{All-shelved, plain_shelved}
use Rattle.uma_seat.proofs.seat.SeatCache.shelve.Goals as goal

pub invariant_of-self-clause-plain_home : goal.invariant_of-self-clause-plain_home
invariant_of-self-clause-plain_home g c = c.push_last-bucket.ensures.row_home (home_of c.args.self.now.seating) c.args.self.now.plain_home

pub invariant_of-self-clause-shelf_home : goal.invariant_of-self-clause-shelf_home
invariant_of-self-clause-shelf_home g c =
    let home = home_of c.args.self.now.seating in
    All-shelved (IsShelvedAt home) _ _ _ _ c.take_spare-spare.ensures.shelf c.put_newest.ensures.shelf c.args.self.now.shelf_home
    (subst (λ domain. domain < home.domains) (sym c.requires.put.own) c.requires.put.home.2, c.push_last-bucket.ensures.home home c.args.self.now.plain_home c.requires.put.home)

pub invariant_of-self-clause-shelf_clock : goal.invariant_of-self-clause-shelf_clock
invariant_of-self-clause-shelf_clock g c =
    let clock = clock_of c.args.self.now.seating in
    All-shelved (IsShelvedOf clock) _ _ _ _ c.take_spare-spare.ensures.shelf c.put_newest.ensures.shelf c.args.self.now.shelf_clock (All-nil (λ own. own ≡ clock))

pub returns-clause-full : goal.returns-clause-full
returns-clause-full g c =
    plain_shelved c.args.self.now _ c.args.domain _ c.args.item c.push_last-bucket.result _ _ _ c.requires.put.own c.push_last-bucket.ensures.full c.take_spare-spare.ensures.shelf c.put_newest.ensures.shelf c.take_spare-spare.ensures.spares c.put_newest.ensures.spares c.push_last-bucket.ensures.stacks
