-- What the workers' seats of a zone and its memory domains list, summed up (own).
use Rattle.std.specs.Prelude.{◌≡◌, ◌≤◌, ◌+◌, ◌*◌, ◌^◌, ℕ, List, Some, slice_get, take}
use Rattle.std.specs.List.{sum_by}
use Rattle.smr_clock.specs.declared.host.Host.{Ghosts}
use Rattle.uma_life.specs.Hook.{Hook}
use Rattle.uma_life.specs.Sum.{sum_of}
use Rattle.uma_bucket.specs.declared.shelved.Sums.{Sums}
use Rattle.uma_bucket.specs.Sums.{AreOfAtMost, Balance}
use Rattle.uma_zone.specs.Zone.{zone_index, IsSeatOf}
use Rattle.replay_worker.specs.declared.worker.Worker.{Worker}
use Rattle.replay_worker.specs.Items.{CountedSeat, CountedZone}
use Rattle.replay_rounds.specs.Closes.{seat_times, seat_deferred, seats_deferred}

module _ {H P : Type 0} {h : Ghosts H P} where
  -- the worker has a seat of the zone, which stands at place `z`
  pub record HasSeat (zone : CountedZone H P h) (z : ℕ) (w : Worker H P h) : Type 0 where
    pub seat : CountedSeat H P h
    pub at : slice_get w.seats.items z ≡ Some seat
    pub of_zone : IsSeatOf zone seat

  -- The sums of the worker's seat of the zone at place `z`: its ctors exceed its dtors by the deferred items.
  pub record AreOfSeat (z : ℕ) (w : Worker H P h) (sums : Sums) : Type 0 where
    pub few : AreOfAtMost 704 sums
    pub tally : (hook : Hook) → sum_of sums.tally hook ≡ seat_times hook z w
    pub deferred : sums.deferred ≡ seat_deferred z w
    pub balance : (zone : CountedZone H P h) → HasSeat zone z w → Balance (zone_index zone) sums

  -- The sums of the zone's domains and of the seats of the first so many workers. What the domains list isn't named.
  pub record SumsOfFirst (count : ℕ) (zone : CountedZone H P h) (z : ℕ) (workers : List (Worker H P h)) (sums : Sums) : Type 0 where
    pub few : AreOfAtMost (2 ^ 34 + 704 * count) sums
    pub balance : Balance (zone_index zone) sums
    pub tally : (hook : Hook) → sum_by (seat_times hook z) (take count workers) ≤ sum_of sums.tally hook
    pub deferred : sum_by (seat_deferred z) (take count workers) ≤ sums.deferred

  -- The sums of the zone at place `z`: of its domains and of all workers' seats of it.
  pub record SumsUp (zone : CountedZone H P h) (z : ℕ) (workers : List (Worker H P h)) (sums : Sums) : Type 0 where
    pub few : AreOfAtMost (2 ^ 35) sums
    pub balance : Balance (zone_index zone) sums
    pub tally : (hook : Hook) → sum_by (seat_times hook z) workers ≤ sum_of sums.tally hook
    pub deferred : seats_deferred z workers ≤ sums.deferred
