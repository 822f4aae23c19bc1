use Rattle.std.proofs.Common.{rules, ◌≡◌, ◌≤◌, ◌+◌, ◌<◌, length, length-append, ap, sym, subst, ◌∙◌, arith}
use Rattle.std.proofs.lemmas.List.{length-map}
use Rattle.smr_clock.specs.Belongs.{view}
use Rattle.uma_bucket.specs.Bucket.{size_of}
use Rattle.uma_bucket.specs.Home.{AreHome}
use Rattle.uma_bucket.specs.Freed.{freed_item}
use Rattle.uma_seat.specs.Rack.{spares_in, shelf_in}
use Rattle.uma_seat.specs.Seating.{home_of, clock_of}
use Rattle.uma_bucket.specs.Shelved.{IsShelvedAt, IsShelvedOf}
use Rattle.uma_seat.proofs.OntoShelf.{All-shelved, freed_shelved}
use Rattle.uma_seat.proofs.seat.SeatCache.seal_full.Goals as goal

pub invariant_of-self-clause-freed_home : goal.invariant_of-self-clause-freed_home
invariant_of-self-clause-freed_home g c = c.push_last-loose.ensures.row_home (home_of c.args.self.now.seating) c.args.self.now.freed_home

pub invariant_of-self-clause-shelf_home : goal.invariant_of-self-clause-shelf_home
invariant_of-self-clause-shelf_home g c =
    let home = home_of c.args.self.now.seating in
    All-shelved (IsShelvedAt home) _ _ _ _ c.take_spare-spare.ensures.shelf c.put_newest.ensures.shelf c.args.self.now.shelf_home (
      subst (λ domain. domain < home.domains) (sym (c.try_to_seal-newest.ensures.domain ∙ c.requires.put.own)) c.requires.put.home.2,
      subst (AreHome home) (sym c.try_to_seal-newest.ensures.tickets) (c.push_last-loose.ensures.home home c.args.self.now.freed_home c.requires.put.home),
    )

pub invariant_of-self-clause-shelf_clock : goal.invariant_of-self-clause-shelf_clock
invariant_of-self-clause-shelf_clock g c =
    All-shelved (IsShelvedOf (clock_of c.args.self.now.seating)) _ _ _ _ c.take_spare-spare.ensures.shelf c.put_newest.ensures.shelf c.args.self.now.shelf_clock
    (subst (λ id. IsShelvedOf id c.try_to_seal-newest.result) c.requires.clock c.try_to_seal-newest.ensures.clock)

pub returns-clause-full : goal.returns-clause-full
returns-clause-full g c =
    freed_shelved g.H.Host.copied (view c.args.pass.now) _ c.args.self.now _ c.args.domain _ (freed_item c.args.item) c.push_last-loose.result c.try_to_seal-newest.result _ _ _ _ c.requires.put.own c.reuse.ensures.size
    c.push_last-loose.ensures.full c.try_to_seal-newest.ensures.tried c.take_spare-spare.ensures.shelf c.put_newest.ensures.shelf c.take_spare-spare.ensures.spares c.put_newest.ensures.spares c.push_last-loose.ensures.stacks

pub put_newest-requires : goal.put_newest-requires
put_newest-requires g c =
    let old = c.args.self.now.rack in
    let new = c.take_spare-spare.new.self in
    let one : length (spares_in old) ≡ length (spares_in new) + 1 = ap length c.take_spare-spare.ensures.spares ∙ length-append (spares_in new) _ in
    let same : length (shelf_in new) ≡ length (shelf_in old) = ap length c.take_spare-spare.ensures.shelf in
    let few : length (spares_in old) + length (shelf_in old) ≤ 2 = omega (arith, old.few, old.spares.ok.0, old.shelf.ok.0, length-map old.spares.items size_of) in
    record { place = omega (arith, one, same, few); filled = search rules }
