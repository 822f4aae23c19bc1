-- Workers before the first line (own).
use Rattle.std.specs.Prelude.{◌≡◌, ◌≤◌, ◌%◌, ℕ, All, List, [], length, Some, slice_get}
use Rattle.smr_clock.specs.declared.clock.Clock.{Clock}
use Rattle.smr_clock.specs.declared.host.Host.{Ghosts}
use Rattle.smr_clock.specs.declared.pass.Pass.{Pass}
use Rattle.trace_text.specs.Limits.{IsWithin}
use Rattle.uma_seat.specs.Seat.{seat_domain, usable_of, ledger_of}
use Rattle.zone_stats.specs.LedgerSteps.{IsNew}
use Rattle.uma_zone.specs.Zone.{zone_domains}
use Rattle.replay_worker.specs.declared.worker.Worker.{Worker}
use Rattle.replay_worker.specs.Clocks.{ArePasses}
use Rattle.replay_worker.specs.Items.{CountedSeat, CountedZone}
use Rattle.replay_worker.specs.Stands.{Stands}
use Rattle.replay_worker.specs.Worker.{FitsZones}

module _ {H P : Type 0} {h : Ghosts H P} where
  -- so few passes of this clock, and zones with so many domains
  pub record CanMakeWorkers (count : ℕ) (all : List (CountedZone H P h)) (by : Clock H P) (each : List (Pass H P h)) : Type 0 where
    pub domains : IsWithin 1 4 count
    pub few : length each ≤ 16
    pub zones : All (λ zone. zone_domains zone ≡ count) all
    pub passes : ArePasses (length each) by each

  -- a seat in this memory domain of which no item is usable, and that counted nothing
  pub record IsUnused (domain : ℕ) (seat : CountedSeat H P h) : Type 0 where
    pub own : seat_domain seat ≡ domain
    pub usable : usable_of seat ≡ []
    pub ledger : IsNew (ledger_of seat)

  -- A worker of the zones and the clock with its seats in this domain. It stands for no line.
  pub record IsBeginner (zones : List (CountedZone H P h)) (clock : Clock H P) (domain : ℕ) (w : Worker H P h) : Type 0 where
    pub fits : FitsZones zones clock w
    pub stands : (n : ℕ) → Stands zones clock n [] w
    pub empty : w.slots ≡ []
    pub seats : (z : ℕ) (seat : CountedSeat H P h) → slice_get w.seats.items z ≡ Some seat → IsUnused domain seat

  -- So many of them. Worker w is in domain w mod `domains`.
  pub record AreBeginners (zones : List (CountedZone H P h)) (clock : Clock H P) (domains count : ℕ) (workers : List (Worker H P h)) : Type 0 where
    pub one_each : length workers ≡ count
    pub each : (n : ℕ) (w : Worker H P h) → slice_get workers n ≡ Some w → IsBeginner zones clock (n % domains) w
