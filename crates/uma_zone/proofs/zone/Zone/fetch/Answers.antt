use Rattle.std.proofs.Common.{Err, refl, rules, ap, ◌∙◌}
use Rattle.uma_keg.specs.declared.fetch.FetchAsk.{FetchAsk}
use Rattle.keyed_lock.specs.KeyedGuard.{guard_key}
use Rattle.uma_bucket.specs.Bucket.{size_of}
use Rattle.locked_keg.specs.LockedKeg.{keg_in}
use Rattle.uma_zone.specs.Zone.{zone_home}
use Rattle.uma_zone.proofs.Fetches.{has_fetched, turned_away}
use Rattle.uma_zone.proofs.Seats.{lent_of, refilled_of, domain_below, fetches_home}
use Rattle.uma_zone.proofs.zone.Zone.fetch.Goals as goal

pub returns-then-not-has_zone-clause-kept : goal.returns-then-not-has_zone-clause-kept
returns-then-not-has_zone-clause-kept g c = record {
  seat = lent_of c.args.self.now c.args.seat.now c.lend_empty.result.now c.lend_empty.ensures.bucket c.requires.seat;
  rest = search rules;
}

pub drop-guard-requires-in-Ok : goal.drop-guard-requires-in-Ok
drop-guard-requires-in-Ok g c =
    let key = guard_key c.lock-guard.result in
    c.fetch.ensures.keeps key (domain_below c.args.self.now c.args.seat.now c.domain.result key c.domain.ensures c.lock-guard.ensures.key c.requires.seat) c.lock-guard.ensures.kept

pub drop-guard-requires-in-Err-Refused : goal.drop-guard-requires-in-Err-Refused
drop-guard-requires-in-Err-Refused g c =
    let key = guard_key c.lock-guard.result in
    c.fetch.ensures.keeps key (domain_below c.args.self.now c.args.seat.now c.domain.result key c.domain.ensures c.lock-guard.ensures.key c.requires.seat) c.lock-guard.ensures.kept

pub drop-guard-requires-2 : goal.drop-guard-requires-2
drop-guard-requires-2 g c =
    let key = guard_key c.lock-guard.result in
    c.fetch.ensures.keeps key (domain_below c.args.self.now c.args.seat.now c.domain.result key c.domain.ensures c.lock-guard.ensures.key c.requires.seat) c.lock-guard.ensures.kept

pub returns-in-Ok-clause-kept : goal.returns-in-Ok-clause-kept
returns-in-Ok-clause-kept g c =
    let zone = c.args.self.now in
    let seat = c.args.seat.now in
    let done = c.fetch.ensures in
    let locked = c.lock-guard.ensures in
    record {
      seat = refilled_of zone seat c.fetch.new.seat done.rest.same done.rest.misses done.rest.ports done.fails
          (done.home (zone_home zone) (fetches_home zone seat (keg_in c.lock-guard.result.value) _ locked.numbers locked.domains (refl {_}) c.domain.ensures c.requires.seat)) c.requires.seat;
      rest = search rules;
    }

pub returns-in-Ok-clause-fetched : goal.returns-in-Ok-clause-fetched
returns-in-Ok-clause-fetched g c =
    let zone = c.args.self.now in
    let done = c.fetch.ensures in
    let locked = c.lock-guard.ensures in
    let lent = ap size_of c.lend_empty.ensures.bucket in
    has_fetched zone c.args.seat.now c.fetch.new.seat (keg_in c.lock-guard.result.value) (keg_in c.fetch.new.self) _ c.fetch.result c.in-Ok.field-0 locked.numbers locked.reserve
    refl (c.size.ensures.size ∙ lent) (done.top_room ∙ lent) c.domain.ensures done.rest.same done.fetched done.share done.ledger c.in-Ok.is

pub returns-in-Err-Refused-clause-kept : goal.returns-in-Err-Refused-clause-kept
returns-in-Err-Refused-clause-kept g c =
    let zone = c.args.self.now in
    let seat = c.args.seat.now in
    let done = c.fetch.ensures in
    let locked = c.lock-guard.ensures in
    record {
      seat = refilled_of zone seat c.fetch.new.seat done.rest.same done.rest.misses done.rest.ports done.fails
          (done.home (zone_home zone) (fetches_home zone seat (keg_in c.lock-guard.result.value) _ locked.numbers locked.domains (refl {_}) c.domain.ensures c.requires.seat)) c.requires.seat;
      rest = search rules;
    }

pub returns-clause-kept : goal.returns-clause-kept
returns-clause-kept g c =
    let zone = c.args.self.now in
    let seat = c.args.seat.now in
    let done = c.fetch.ensures in
    let locked = c.lock-guard.ensures in
    record {
      seat = refilled_of zone seat c.fetch.new.seat done.rest.same done.rest.misses done.rest.ports done.fails
          (done.home (zone_home zone) (fetches_home zone seat (keg_in c.lock-guard.result.value) _ locked.numbers locked.domains (refl {_}) c.domain.ensures c.requires.seat)) c.requires.seat;
      rest = search rules;
    }

pub returns-in-Err-Refused-clause-refused : goal.returns-in-Err-Refused-clause-refused
returns-in-Err-Refused-clause-refused g c =
    let zone = c.args.self.now in
    let ask : FetchAsk = record { zone = zone.index; most = c.size.result; reserve = _; domain = c.domain.result } in
    let done = c.fetch.ensures in
    let locked = c.lock-guard.ensures in
    let lent = ap size_of c.lend_empty.ensures.bucket in
    turned_away zone c.args.seat.now c.fetch.new.seat (keg_in c.lock-guard.result.value) (keg_in c.fetch.new.self) ask c.fetch.result c.in-Err-Refused.refusal locked.numbers locked.reserve locked.cap
    refl (c.size.ensures.size ∙ lent) (done.top_room ∙ lent) c.domain.ensures done.rest.same done.none done.share done.ledger done.refused done.names (c.in-Err-Refused.is ∙ ap Err c.in-Err-Refused.field-0-is)
