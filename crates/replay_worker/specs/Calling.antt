-- What a call by a worker's pass and one of its seats needs, and what it leaves of both as it was (own).
use Rattle.std.specs.Prelude.{◌<◌, length}
use Rattle.smr_clock.specs.declared.clock.Clock.{Clock}
use Rattle.smr_clock.specs.declared.host.Host.{Ghosts}
use Rattle.smr_clock.specs.declared.pass.Pass.{Pass}
use Rattle.smr_clock.specs.declared.view.View.{View}
use Rattle.smr_clock.specs.Belongs.{view}
use Rattle.uma_bucket.specs.Home.{IsHome}
use Rattle.uma_life.specs.Live.{live_ticket}
use Rattle.uma_seat.specs.Seat.{ledger_of, spares_of}
use Rattle.uma_zone.specs.Calling.{CanCall}
use Rattle.uma_zone.specs.Frames.{GoesOn}
use Rattle.uma_zone.specs.Zone.{zone_home, IsSeatOf}
use Rattle.zone_stats.specs.LedgerSteps.{HasRoom}
use Rattle.replay_worker.specs.Items.{CountedSeat, CountedZone, LiveItem}
use Rattle.replay_worker.specs.Knowing.{Knowledge, StillKnows}

module _ {H P : Type 0} {h : Ghosts H P} where
  -- a call of this zone by the pass and the seat, with an item of the zone that is to be freed, and room to count that
  pub record CanGiveBack (of : CountedZone H P h) (by : Clock H P) (p : Pass H P h) (s : CountedSeat H P h) (item : LiveItem) : Type 0 where
    pub can : CanCall of by p s
    pub room : HasRoom (ledger_of s)
    pub home : IsHome (zone_home of) (live_ticket item)

  -- the same, and a bucket for the item
  pub record CanRelease (of : CountedZone H P h) (by : Clock H P) (p : Pass H P h) (s : CountedSeat H P h) (item : LiveItem) : Type 0 where
    pub can : CanCall of by p s
    pub spare : 0 < length (spares_of s)
    pub room : HasRoom (ledger_of s)
    pub home : IsHome (zone_home of) (live_ticket item)

  -- the seat is of this zone still, and the pass went on
  pub record StaysOf (of : CountedZone H P h) (by : Clock H P) (old new : Pass H P h) (s : CountedSeat H P h) : Type 0 where
    pub seat : IsSeatOf of s
    pub pass : GoesOn by old new

  -- the pass went on, and knows of the names what it knew
  pub record KnowsOn (Knows : Knowledge (View P)) (by : Clock H P) (old new : Pass H P h) : Type 0 where
    pub pass : GoesOn by old new
    pub still : StillKnows Knows (view old) (view new)
