-- Own: what is answered of a zone's domains, and of the one with a number.
use Rattle.std.specs.Prelude.{◌≡◌, ◌≤◌, ◌<◌, ◌^◌, ℕ, Bool, Some, List, []}
use Rattle.std.specs.List.{All}
use Rattle.deed_book.specs.declared.book.Book.{Book}
use Rattle.deed_book.specs.declared.fail_book.FailShare.{FailShare}
use Rattle.deed_book.specs.Book.{book_table}
use Rattle.deed_book.specs.FailShare.{share_table, causes_in}
use Rattle.inbox.specs.declared.inbox.Port.{Port}
use Rattle.smr_clock.specs.declared.clock.Clock.{Clock}
use Rattle.smr_clock.specs.Belongs.{clock_id}
use Rattle.uma_bucket.specs.declared.shelved.InboxKey.{InboxKey}
use Rattle.uma_bucket.specs.declared.shelved.Shelved.{Shelved}
use Rattle.uma_bucket.specs.declared.shelved.Sums.{Sums}
use Rattle.uma_bucket.specs.Sums.{AreOfAtMost, Balance}
use Rattle.uma_domain.specs.declared.domain.Domain.{Domain}
use Rattle.uma_domain.specs.Domain.{domain_identity}
use Rattle.uma_domain.specs.Identity.{home_of}
use Rattle.uma_seat.specs.declared.seating.Seating.{Seating}
use Rattle.uma_seat.specs.Seating.{home_of as seating_home, clock_of as seating_clock}
use Rattle.uma_zone.specs.declared.domains.ZoneDomains.{ZoneDomains}
use Rattle.uma_zone.specs.Domains.{domains_home, domains_clock, domains_smr, domain_count, domain_at, misses_at}
use Rattle.uma_zone.specs.OneDomain.{IsDomainOf}
use Rattle.uma_zone.specs.Ports.{inboxes_of, origins_of, pushed_by}

module _ {T H P : Type 0} {g h : _} where
  -- so many domains there are, 1 to 4
  pub record IsCountOf (them : ZoneDomains T H P g h) (n : ℕ) : Type 0 where
    pub count : n ≡ domain_count them
    pub some : 1 ≤ n
    pub few : n ≤ 4

  -- So many domains of a zone, by the zone's number, over the keg whose item numbers are those of the book. Its readers go by this clock.
  pub record AreMade (by : Clock H P) (numbers : Book) (zone domains : ℕ) (deferred : Bool) (them : ZoneDomains T H P g h) : Type 0 where
    pub home : domains_home them ≡ home_of (book_table numbers) zone domains
    pub clock : domains_clock them ≡ clock_id by
    pub smr : domains_smr them ≡ deferred
    pub count : domain_count them ≡ domains

  -- the domain with this number
  pub record IsDomainAt (them : ZoneDomains T H P g h) (number : ℕ) (domain : Domain T H P g h) : Type 0 where
    pub of_zone : IsDomainOf (domains_clock them) (domains_home them) (domains_smr them) domain
    pub misses : misses_at them number ≡ Some (domain_identity domain).misses
    pub named : domain_at them number ≡ Some domain

  -- there is a domain with this number, and the book is that of the keg's item numbers
  pub record CanSeat (them : ZoneDomains T H P g h) (numbers : Book) (number : ℕ) : Type 0 where
    pub domain : number < domain_count them
    pub book : book_table numbers ≡ (domains_home them).book

  -- a seat that is made for this is one of the zone, and its own domain has this number
  pub record IsSeatingOf (them : ZoneDomains T H P g h) (number : ℕ) (seating : Seating H P) : Type 0 where
    pub home : seating_home seating ≡ domains_home them
    pub clock : seating_clock seating ≡ domains_clock them
    pub smr : seating.smr ≡ domains_smr them
    pub own : seating.domain ≡ number

  -- a share of the book of misses of the domain with this number, which has no cause
  pub record OpensMisses (them : ZoneDomains T H P g h) (number : ℕ) (opened : FailShare) : Type 0 where
    pub share : causes_in opened ≡ []
    pub book : misses_at them number ≡ Some (share_table opened)

  -- a port of each domain's inbox, in order, none of which pushed anything
  pub record OpensPorts (them : ZoneDomains T H P g h) (opened : List (Port (Shelved T H P g h) (InboxKey H P))) : Type 0 where
    pub ports : origins_of opened ≡ inboxes_of them
    pub new : All (λ pushed. pushed ≡ []) (pushed_by opened)

-- the sums of what the domains of a zone hold, by the zone's number
pub record AreHeldBy (zone : ℕ) (sums : Sums) : Type 0 where
  pub few : AreOfAtMost (2 ^ 34) sums
  pub balance : Balance zone sums
