-- Own: what a zone's new seat is, and for what it is made.
use Rattle.std.specs.Prelude.{◌≡◌, ℕ, [], ◌∷◌, Result, IfOk}
use Rattle.std.specs.List.{All}
use Rattle.zone_stats.specs.LedgerSteps.{IsNew}
use Rattle.deed_book.specs.declared.fail_book.FailShare.{FailShare}
use Rattle.deed_book.specs.FailShare.{share_table, causes_in}
use Rattle.uma_seat.specs.declared.seat.SeatCache.{SeatCache}
use Rattle.uma_seat.specs.declared.seating.Seating.{Seating}
use Rattle.uma_seat.specs.Seating.{home_of, clock_of}
use Rattle.uma_seat.specs.Stack.{empty_stack}
use Rattle.uma_zone.specs.declared.zone.Zone.{Zone}
use Rattle.uma_zone.specs.Ports.{sent_of}
use Rattle.uma_zone.specs.Zone.{zone_home, zone_clock, zone_smr, zone_bucket, zone_fails, IsSeatOf}
use Rattle.uma_seat.specs.Seat.{seat_domain, top_of, plain_of, freed_of, usable_of, spares_of, shelf_of, ledger_of, fetches_of, misses_of}

module _ {T H P : Type 0} {g h : _} where
  -- It is of this domain, and counted nothing. Each of its buckets is empty, the allocation bucket and those of the domains, plain and deferred, and has room for so many items; so have the two spares. Its shelf is empty, and no port pushed anything.
  pub record IsFresh (bucket domain : ℕ) (seat : SeatCache T H P g h) : Type 0 where
    pub own : seat_domain seat ≡ domain
    pub top : top_of seat ≡ empty_stack bucket
    pub plain : All (λ stack. stack ≡ empty_stack bucket) (plain_of seat)
    pub freed : All (λ stack. stack ≡ empty_stack bucket) (freed_of seat)
    pub usable : usable_of seat ≡ []
    pub spares : spares_of seat ≡ bucket ∷ bucket ∷ []
    pub shelf : shelf_of seat ≡ []
    pub sent : All (λ pushed. pushed ≡ []) (sent_of seat)
    pub ledger : IsNew (ledger_of seat)
    pub fetches : fetches_of seat ≡ []
    pub misses : causes_in (misses_of seat) ≡ []

module _ {T K H P : Type 0} {g k h : _} where
  -- a seat, if one is made, of this zone and in this domain, which has nothing yet
  pub record MakesSeat {E : Type 0} (zone : Zone T K H P g k h) (domain : ℕ) (end : Result (SeatCache T H P g h) E) : Type 0 where
    pub seat : IfOk end (IsSeatOf zone)
    pub fresh : IfOk end (IsFresh (zone_bucket zone) domain)

  -- This is for what a seat of the zone in this domain is made, and a new share of the zone's fail book.
  pub record IsSeatingOf (zone : Zone T K H P g k h) (domain : ℕ) (seating : Seating H P) (part : FailShare) : Type 0 where
    pub home : home_of seating ≡ zone_home zone
    pub clock : clock_of seating ≡ zone_clock zone
    pub smr : seating.smr ≡ zone_smr zone
    pub own : seating.domain ≡ domain
    pub share : share_table part ≡ zone_fails zone
    pub none : causes_in part ≡ []
