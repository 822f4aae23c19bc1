-- Own: how far a settle of a zone's domains came, or a flush before it, where memory was wanting.
use Rattle.std.specs.Prelude.{◌≡◌, ◌<◌, ◌⊎◌, ℕ, Some, length}
use Rattle.smr_clock.specs.declared.view.View.{View}
use Rattle.uma_domain.specs.declared.domain.Domain.{Domain}
use Rattle.uma_domain.specs.UnderLock.{SettlesPart}
use Rattle.uma_seat.specs.declared.seat.SeatCache.{SeatCache}
use Rattle.uma_seat.specs.Seat.{seat_domain, shelf_of}
use Rattle.uma_zone.specs.declared.domains.ZoneDomains.{ZoneDomains}
use Rattle.uma_zone.specs.Domains.{domain_at, domain_count}
use Rattle.uma_zone.specs.OwnDomain.{SettlesFirst}

module _ {T H P : Type 0} {g h : _} where
  -- Memory was wanting for a settle of the domain of this number: some buckets of its inbox are listed, in their order, and the rest is in the inbox.
  pub record SettlesInPart (them : ZoneDomains T H P g h) (number : ℕ) : Type 0 where
    pub domain : Domain T H P g h
    pub named : domain_at them number ≡ Some domain
    pub part : SettlesPart domain

  -- Memory was wanting for a settle of each domain: the domains before one of them are settled, and that one in part.
  pub record StopsSettling (them : ZoneDomains T H P g h) (copied : P → P) (v v' : View P) : Type 0 where
    pub count : ℕ
    pub few : count < domain_count them
    pub before : SettlesFirst them copied v count v'
    pub here : SettlesInPart them count

  -- Memory was wanting for a flush of the seat, a bucket of whose shelf is there still, or for the settle of its own domain behind that.
  pub record StopsToLook (them : ZoneDomains T H P g h) (old new : SeatCache T H P g h) : Type 0 where
    pub how : (0 < length (shelf_of new)) ⊎ SettlesInPart them (seat_domain old)
