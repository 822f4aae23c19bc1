-- What belongs to which zone and to which clock (own). Zones and clock are values that threads share, so identity is an equation.
use Rattle.std.specs.Prelude.{◌≡◌, ◌<◌, ◌≤◌, ◌^◌, ℕ, List, All, length, None, Some, slice_get}
use Rattle.smr_clock.specs.declared.clock.Clock.{Clock}
use Rattle.smr_clock.specs.declared.host.Host.{Ghosts}
use Rattle.smr_core.specs.declared.holder.Phase.{Phase}
use Rattle.smr_clock.specs.Belongs.{IsPassOf, clock_id, holder}
use Rattle.uma_bucket.specs.Home.{IsHome}
use Rattle.uma_life.specs.Live.{live_ticket}
use Rattle.uma_seat.specs.Seat.{ledger_of}
use Rattle.uma_zone.specs.Zone.{zone_home, zone_clock, IsSeatOf}
use Rattle.zone_stats.specs.LedgerSteps.{HasRoom}
use Rattle.replay_worker.specs.declared.worker.Held.{Held}
use Rattle.replay_worker.specs.declared.worker.Worker.{Worker}
use Rattle.replay_worker.specs.Items.{CountedSeat, CountedZone}
use Rattle.replay_worker.specs.Slots.{slot_at}

module _ {H P : Type 0} {h : Ghosts H P} where
  -- each zone's readers go by this clock
  abbrev pub AreOfClock : Clock H P → List (CountedZone H P h) → Type 0
  AreOfClock clock zones = All (λ zone. clock_id clock ≡ zone_clock zone) zones

  -- the item is at home in the zone that its slot names
  pub record IsHeld (zones : List (CountedZone H P h)) (it : Held) : Type 0 where
    pub zone : CountedZone H P h
    pub at : slice_get zones it.zone ≡ Some zone
    pub home : IsHome (zone_home zone) (live_ticket it.item)

  -- a seat of each zone, in order
  pub record HasSeats (zones : List (CountedZone H P h)) (seats : List (CountedSeat H P h)) : Type 0 where
    pub count : length seats ≡ length zones
    pub each : (z : ℕ) (zone : CountedZone H P h) (seat : CountedSeat H P h) → slice_get zones z ≡ Some zone → slice_get seats z ≡ Some seat → IsSeatOf zone seat

  -- The worker has a seat of each zone, in order, and a pass of the clock, and each item in its slots is at home in its zone.
  pub record FitsZones (zones : List (CountedZone H P h)) (clock : Clock H P) (w : Worker H P h) : Type 0 where
    pub seats : HasSeats zones w.seats.items
    pub pass : IsPassOf clock w.pass
    pub slots : (slot : ℕ) (it : Held) → slot_at w.slots slot ≡ Some it → IsHeld zones it

  -- where its pass stands with its section
  abbrev pub phase_of : Worker H P h → Phase
  phase_of w = (holder w.pass).phase

  -- the greatest write sequence that its pass knows of
  abbrev pub seen_of : Worker H P h → ℕ
  seen_of w = (holder w.pass).seen

  -- each of its ledgers can count one more, and so can its counts of sections
  pub record HasRooms (w : Worker H P h) : Type 0 where
    pub ledgers : All (λ (seat : CountedSeat H P h). HasRoom (ledger_of seat)) w.seats.items
    pub entered : w.entered < 2 ^ 62
    pub late : w.late < 2 ^ 62

  -- The zones go by this clock, the worker fits them, and each of its counts can be one more.
  pub record CanWork (zones : List (CountedZone H P h)) (by : Clock H P) (w : Worker H P h) : Type 0 where
    pub clock : AreOfClock by zones
    pub fits : FitsZones zones by w
    pub rooms : HasRooms w

  -- The same, with a zone at this place, and an empty slot.
  pub record CanAlloc (zones : List (CountedZone H P h)) (by : Clock H P) (w : Worker H P h) (place free : ℕ) : Type 0 where
    pub zone : place < length zones
    pub empty : slot_at w.slots free ≡ None
    pub can : CanWork zones by w

  -- a seat of each zone, one of them at this place, and no more items than a line may bring in
  pub record CanPrealloc (zones : List (CountedZone H P h)) (w : Worker H P h) (place count : ℕ) : Type 0 where
    pub zone : place < length zones
    pub items : count ≤ 262144
    pub seats : HasSeats zones w.seats.items

  -- The zones go by this clock, the worker fits them, and one of them stands at this place.
  pub record CanReclaim (zones : List (CountedZone H P h)) (by : Clock H P) (w : Worker H P h) (place : ℕ) : Type 0 where
    pub zone : place < length zones
    pub clock : AreOfClock by zones
    pub fits : FitsZones zones by w
