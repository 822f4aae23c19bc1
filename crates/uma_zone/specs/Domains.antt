-- Own: what contracts see of the memory domains of a zone, and of the seats that are made for it.
use Rattle.std.specs.Prelude.{◌≡◌, ◌<◌, ℕ, Bool, Option, Some, length, map}
use Rattle.std.specs.List.{slice_get}
use Rattle.smr_clock.specs.declared.clock.Setup.{Setup}
use Rattle.smr_clock.specs.Belongs.{TableId, clock_id}
use Rattle.deed_book.specs.Book.{book_table}
use Rattle.deed_book.specs.FailShare.{share_table}
use Rattle.uma_bucket.specs.Home.{Home, AreHome}
use Rattle.uma_domain.specs.declared.domain.Domain.{Domain}
use Rattle.uma_seat.specs.declared.seat.SeatCache.{SeatCache}
use Rattle.uma_seat.specs.Seat.{seat_home, seat_clock, seat_smr, seat_domain, top_tickets, misses_of}
use Rattle.uma_zone.specs.declared.domains.ZoneDomains.{ZoneDomains}
use Rattle.uma_zone.specs.Ports.{HasPorts}
pub use Rattle.uma_zone.specs.OneDomain.{domain_misses, IsDomainOf}

module _ {T H P : Type 0} {g h : _} where
  -- how many domains the zone has
  abbrev pub domain_count : ZoneDomains T H P g h → ℕ
  domain_count them = length them.domains.items

  -- where the zone's items are at home
  abbrev pub domains_home : ZoneDomains T H P g h → Home
  domains_home them = record { book = book_table them.book.value; zone = them.zone; domains = domain_count them }

  -- which clock it is, of which the notes of sealed buckets are
  abbrev pub domains_clock : ZoneDomains T H P g h → TableId × Setup
  domains_clock them = clock_id them.clock

  -- whether the zone's readers hold no lock, so that its frees are deferred
  abbrev pub domains_smr : ZoneDomains T H P g h → Bool
  domains_smr them = them.smr

  -- the domain with this number, if there is one
  abbrev pub domain_at : ZoneDomains T H P g h → ℕ → Option (Domain T H P g h)
  domain_at them number = slice_get them.domains.items number

  -- the table of the book of misses of the domain with this number, if there is one
  abbrev pub misses_at : ZoneDomains T H P g h → ℕ → Option TableId
  misses_at them domain = slice_get (map domain_misses them.domains.items) domain

  -- The seat is one of this zone: its items are at home where the zone's are, its clock and kind are the zone's, its own domain is one of the zone's, its misses are a share of that domain's book, and its port for each domain is one of that domain's inbox.
  pub record IsSeatOf (them : ZoneDomains T H P g h) (seat : SeatCache T H P g h) : Type 0 where
    pub same_home : seat_home seat ≡ domains_home them
    pub same_clock : seat_clock seat ≡ domains_clock them
    pub same_smr : seat_smr seat ≡ domains_smr them
    pub own : seat_domain seat < domain_count them
    pub own_misses : misses_at them (seat_domain seat) ≡ Some (share_table (misses_of seat))
    pub ports : HasPorts them seat
    pub top_home : AreHome (seat_home seat) (top_tickets seat)
