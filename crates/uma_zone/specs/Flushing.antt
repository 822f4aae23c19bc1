-- Own: what a flush of a seat comes to, and each of its steps.
use Rattle.std.specs.Prelude.{◌≡◌, ◌≤◌, ◌<◌, ◌+◌, List, [], ◌∷◌, length, map, Option, None, Some, Result, IfSome, IfNone, IfErr, OnOk, OnErr}
use Rattle.smr_clock.specs.declared.clock.Clock.{Clock}
use Rattle.smr_clock.specs.declared.pass.Pass.{Pass}
use Rattle.smr_clock.specs.Belongs.{view}
use Rattle.uma_bucket.specs.declared.shelved.Shelved.{Shelved}
use Rattle.uma_seat.specs.declared.seat.SeatCache.{SeatCache}
use Rattle.uma_seat.specs.Seat.{seat_home, seat_clock, seat_domain, spares_of, shelf_of, KeepsRack, KeepsPorts}
use Rattle.uma_zone.specs.declared.domains.ZoneDomains.{ZoneDomains}
use Rattle.uma_zone.specs.Domains.{domains_home, domains_clock}
use Rattle.uma_zone.specs.Flushed.{bound_of, HasLastOf, TakesTried, CanBePut, in_order}
use Rattle.uma_zone.specs.Frames.{KeepsPass, KeepsItems}
use Rattle.uma_zone.specs.OwnDomain.{SentEach, PutsFirst, Flushes}
use Rattle.uma_zone.specs.Ports.{HasPorts, sent_of}

module _ {T H P : Type 0} {g h : _} where
  -- ---- whole calls

  -- A flush of a seat, which stays one of its zone. Its shelf is empty after it; where memory was wanting, the last buckets of the shelf stay, one at least. Nothing else of the seat changed but what its ports pushed.
  pub record FlushesSeat {E : Type 0} (IsOfZone : SeatCache T H P g h → Type 0) (them : ZoneDomains T H P g h) (copied : P → P) (by : Clock H P) (p : Pass H P h) (s : SeatCache T H P g h) (result : Result (Unit {0}) E) (p' : Pass H P h) (s' : SeatCache T H P g h) : Type 0 where
    pub pass : KeepsPass by p p'
    pub seat : IsOfZone s'
    pub flushed : OnOk result (shelf_of s' ≡ [])
    pub stay : OnErr result (HasLastOf (shelf_of s) (shelf_of s'))
    pub some_stay : OnErr result (0 < length (shelf_of s'))
    pub spares : spares_of s' ≡ spares_of s
    pub kept : KeepsItems s s'
    pub flushes : Flushes them (seat_domain s) copied (shelf_of s) (shelf_of s') (sent_of s) (sent_of s') (view p) (view p')

  -- The same, and spare buckets were made until there are two. Where memory was wanting, fewer were made or none, and the shelf has the last buckets that it had, or none.
  pub record MakesRoom {E : Type 0} (IsOfZone : SeatCache T H P g h → Type 0) (them : ZoneDomains T H P g h) (copied : P → P) (by : Clock H P) (p : Pass H P h) (s : SeatCache T H P g h) (result : Result (Unit {0}) E) (p' : Pass H P h) (s' : SeatCache T H P g h) : Type 0 where
    pub pass : KeepsPass by p p'
    pub seat : IsOfZone s'
    pub two : OnOk result (length (spares_of s') ≡ 2)
    pub flushed : OnOk result (shelf_of s' ≡ [])
    pub spares : length (spares_of s) ≤ length (spares_of s')
    pub stay : OnErr result (HasLastOf (shelf_of s) (shelf_of s'))
    pub kept : KeepsItems s s'
    pub flushes : Flushes them (seat_domain s) copied (shelf_of s) (shelf_of s') (sent_of s) (sent_of s') (view p) (view p')

  -- ---- from the shelf

  -- The oldest bucket of the shelf, if it has one, is taken, and was tried once to be sealed where it is loose: a zone of this seat may list it. Nothing else of the seat changed.
  pub record TakesOldest (copied : P → P) (by : Clock H P) (p : Pass H P h) (s : SeatCache T H P g h) (result : Option (Shelved T H P g h)) (p' : Pass H P h) (s' : SeatCache T H P g h) : Type 0 where
    pub pass : KeepsPass by p p'
    pub tried : IfSome result (λ one. TakesTried copied (view p) (shelf_of s) one (shelf_of s') (view p'))
    pub bound : IfSome result (λ one. map bound_of (shelf_of s) ≡ bound_of one ∷ map bound_of (shelf_of s'))
    pub can : IfSome result (CanBePut (seat_home s) (seat_clock s))
    pub none : IfNone result (shelf_of s ≡ [])
    pub unchanged : IfNone result (shelf_of s' ≡ [])
    pub unseen : IfNone result (view p' ≡ view p)
    pub spares : spares_of s' ≡ spares_of s
    pub kept : KeepsItems s s'
    pub ports : KeepsPorts s s'

  -- ---- to the domains

  -- The zone of this seat may list the bucket, if there is one.
  pub record CanPutOne (them : ZoneDomains T H P g h) (s : SeatCache T H P g h) (some : Option (Shelved T H P g h)) : Type 0 where
    pub home : seat_home s ≡ domains_home them
    pub ports : HasPorts them s
    pub can : IfSome some (CanBePut (domains_home them) (domains_clock them))

  -- The bucket, if there is one, went to its domain by the seat's port, or it is handed back, and no port pushed anything. Nothing else of the seat changed.
  pub record PutsOne (them : ZoneDomains T H P g h) (s : SeatCache T H P g h) (some : Option (Shelved T H P g h)) (result : Result (Unit {0}) (Shelved T H P g h)) (s' : SeatCache T H P g h) : Type 0 where
    pub back : IfErr result (λ one. some ≡ Some one)
    pub ports : HasPorts them s'
    pub sent : OnOk result (SentEach them (sent_of s) (in_order None some) (sent_of s'))
    pub still : OnErr result (sent_of s' ≡ sent_of s)
    pub kept : KeepsItems s s'
    pub rack : KeepsRack s s'

  -- The zone of this seat may list the buckets that were on its shelf, which is empty, and there is room for them on it still.
  pub record CanPutInOrder (them : ZoneDomains T H P g h) (s : SeatCache T H P g h) (first second : Option (Shelved T H P g h)) : Type 0 where
    pub home : seat_home s ≡ domains_home them
    pub clock : seat_clock s ≡ domains_clock them
    pub ports : HasPorts them s
    pub shelf : shelf_of s ≡ []
    pub places : length (spares_of s) + length (in_order first second) ≤ 2
    pub oldest : IfSome first (CanBePut (domains_home them) (domains_clock them))
    pub newest : IfSome second (CanBePut (domains_home them) (domains_clock them))

  -- These buckets went to their domains, the oldest first; where memory was wanting, one at least is on the shelf. Nothing else of the seat changed.
  pub record PutsInOrder {E : Type 0} (them : ZoneDomains T H P g h) (buckets : List (Shelved T H P g h)) (s : SeatCache T H P g h) (result : Result (Unit {0}) E) (s' : SeatCache T H P g h) : Type 0 where
    pub flushed : OnOk result (shelf_of s' ≡ [])
    pub some_stay : OnErr result (0 < length (shelf_of s'))
    pub ports : HasPorts them s'
    pub spares : spares_of s' ≡ spares_of s
    pub kept : KeepsItems s s'
    pub puts : PutsFirst them buckets (shelf_of s') (sent_of s) (sent_of s')

  -- ---- onto the shelf, and to the spares

  -- the shelf is empty and has room for the bucket, if there is one, which a zone of this seat may list
  pub record CanPutBack (s : SeatCache T H P g h) (some : Option (Shelved T H P g h)) : Type 0 where
    pub places : length (spares_of s) + length (in_order None some) ≤ 2
    pub shelf : shelf_of s ≡ []
    pub can : IfSome some (CanBePut (seat_home s) (seat_clock s))

  -- the shelf has this bucket, if there is one, and nothing else of the seat changed
  pub record PutsBackOn (s : SeatCache T H P g h) (some : Option (Shelved T H P g h)) (s' : SeatCache T H P g h) : Type 0 where
    pub shelf : shelf_of s' ≡ in_order None some
    pub spares : spares_of s' ≡ spares_of s
    pub kept : KeepsItems s s'
    pub ports : KeepsPorts s s'

  -- The seat has two spare buckets; where memory was wanting, no fewer than it had. Its shelf is empty, and nothing else of it changed.
  pub record AddsSpares {E : Type 0} (s : SeatCache T H P g h) (result : Result (Unit {0}) E) (s' : SeatCache T H P g h) : Type 0 where
    pub two : OnOk result (length (spares_of s') ≡ 2)
    pub more : length (spares_of s) ≤ length (spares_of s')
    pub shelf : shelf_of s' ≡ []
    pub kept : KeepsItems s s'
    pub ports : KeepsPorts s s'
