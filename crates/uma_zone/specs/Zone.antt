-- Own: what contracts see of a zone.
use Rattle.std.specs.Prelude.{◌≡◌, ℕ, Bool, Option, Some, List, map}
use Rattle.std.specs.Arc.{arc_value}
use Rattle.deed_book.specs.Deed.{TableId}
use Rattle.deed_book.specs.FailShare.{share_table}
use Rattle.keyed_lock.specs.KeyedLock.{lock_key}
use Rattle.smr_clock.specs.declared.clock.Setup.{Setup}
use Rattle.uma_bucket.specs.Home.{Home}
use Rattle.uma_domain.specs.declared.domain.Domain.{Domain}
use Rattle.uma_seat.specs.declared.seat.SeatCache.{SeatCache}
use Rattle.uma_seat.specs.Seat.{seat_fails}
use Rattle.locked_keg.specs.declared.locked_keg.KegKey.{KegKey}
use Rattle.uma_zone.specs.Domains.{domains_home, domains_clock, domains_smr, domain_count, domain_at, IsDomainOf, IsSeatOf as IsSeatOfDomains}
use Rattle.uma_zone.specs.declared.domains.ZoneDomains.{ZoneDomains}
use Rattle.uma_zone.specs.declared.zone.Zone.{Zone}
use Rattle.uma_zone.specs.Right.{right_no}

module _ {T K H P : Type 0} {g k h : _} where
  -- the key of its keg's lock, by which the keg's numbers are seen: two zones of one keg have one key
  abbrev pub zone_key : Zone T K H P g k h → KegKey
  zone_key zone = lock_key (arc_value zone.keg)

  -- its memory domains
  abbrev pub lists_of : Zone T K H P g k h → ZoneDomains T H P g h
  lists_of zone = zone.domains

  -- its number in its keg, 0 for the primary zone
  abbrev pub zone_index : Zone T K H P g k h → ℕ
  zone_index zone = zone.index

  -- where its items are at home: the keg's book, its number and its count of domains
  abbrev pub zone_home : Zone T K H P g k h → Home
  zone_home zone = domains_home zone.domains

  -- the clock of its readers
  abbrev pub zone_clock : Zone T K H P g k h → TableId × Setup
  zone_clock zone = domains_clock zone.domains

  -- whether its readers hold no lock, so that its frees are deferred
  abbrev pub zone_smr : Zone T K H P g k h → Bool
  zone_smr zone = domains_smr zone.domains

  abbrev pub zone_domains : Zone T K H P g k h → ℕ
  zone_domains zone = domain_count zone.domains

  -- the memory domain with this number, if there is one
  abbrev pub zone_domain : Zone T K H P g k h → ℕ → Option (Domain T H P g h)
  zone_domain zone number = domain_at zone.domains number

  abbrev pub zone_hooks : Zone T K H P g k h → K
  zone_hooks zone = zone.hooks

  -- for how many items a bucket of its seats has room
  abbrev pub zone_bucket : Zone T K H P g k h → ℕ
  zone_bucket zone = zone.bucket

  -- the limit that it was made with, which `set_max` leaves; 0 is none
  abbrev pub zone_limit : Zone T K H P g k h → ℕ
  zone_limit zone = zone.limit

  -- the size of an item, the most slabs, and how many free items are kept: those of its keg
  abbrev pub zone_size : Zone T K H P g k h → ℕ
  zone_size zone = (zone_key zone).size

  abbrev pub zone_cap : Zone T K H P g k h → ℕ
  zone_cap zone = (zone_key zone).cap

  abbrev pub zone_reserve : Zone T K H P g k h → ℕ
  zone_reserve zone = (zone_key zone).reserve

  -- the table of its fail book
  abbrev pub zone_fails : Zone T K H P g k h → TableId
  zone_fails zone = share_table zone.added.value

  -- the numbers of the zones that the keg hasn't yet, to which it keeps the rights: the next at the end
  abbrev pub zone_rights : Zone T K H P g k h → List ℕ
  zone_rights zone = map right_no zone.rights.items

  -- The seat is one of this zone, and its share is one of the zone's fail book.
  pub record IsSeatOf (zone : Zone T K H P g k h) (seat : SeatCache T H P g h) : Type 0 where
    pub of_domains : IsSeatOfDomains zone.domains seat
    pub fails : seat_fails seat ≡ zone_fails zone

  -- this is the zone's memory domain of this number
  pub record IsDomainAt (zone : Zone T K H P g k h) (number : ℕ) (domain : Domain T H P g h) : Type 0 where
    pub of_zone : IsDomainOf (zone_clock zone) (zone_home zone) (zone_smr zone) domain
    pub named : zone_domain zone number ≡ Some domain
