-- All workers before the first line.
use Rattle.std.proofs.Common.{◌≡◌, ℕ, List, [], Option, None, Some, refl, sym, ap, ◌∙◌, length}
use Rattle.std.specs.Prelude.{All, slice_get, option_map}
use Rattle.std.specs.List.{sum_by}
use Rattle.std.specs.Option.{option_map_or}
use Rattle.smr_clock.specs.declared.clock.Clock.{Clock}
use Rattle.smr_clock.specs.declared.pass.Pass.{Pass}
use Rattle.smr_clock.specs.declared.host.Host.{Ghosts}
use Rattle.smr_clock.specs.declared.clock.Setup.{Setup}
use Rattle.smr_clock.specs.Belongs.{setup_of}
use Rattle.trace_text.specs.declared.trace.Head.{Head}
use Rattle.trace_text.specs.declared.trace.Trace.{Trace}
use Rattle.uma_seat.specs.Seat.{ledger_of}
use Rattle.uma_zone.specs.Zone.{zone_domains}
use Rattle.zone_stats.specs.declared.ledger.SeatLedger.{SeatLedger}
use Rattle.replay_worker.specs.declared.worker.Worker.{Worker}
use Rattle.replay_worker.specs.Items.{CountedSeat, CountedZone}
use Rattle.replay_worker.specs.Live.{live_count}
use Rattle.replay_worker.specs.Together.{AllStand, AddsUp, ledger_at}
use Rattle.replay_rounds.specs.declared.setting.Setting.{Setting}
use Rattle.replay_rounds.specs.Beginners.{AreBeginners}
use Rattle.replay_worker.specs.Clocks.{ArePasses, IsClockOf, KnowsBeginning, setup_for}
use Rattle.replay_rounds.specs.Setting.{IsSetUp}
use Rattle.replay_rounds.specs.Zones.{AreZones}
use Rattle.replay_rounds.proofs.Lists.{All_there, both_none, has_too, sum_none}

-- ---- a clock with the numbers of a head

pub clock_of : {H Part : Type 0} (plan : ℕ × ℕ) (head : Head) (clock : Clock H Part) → setup_of clock ≡ setup_for plan head → IsClockOf head clock
clock_of plan head clock is = is ∙ ap (λ (p : ℕ × ℕ). setup_for p head) (sym (ap (λ (s : Setup). s.plan) is))

pub plan_of : {H Part : Type 0} (plan : ℕ × ℕ) (head : Head) (made clock : Clock H Part) → clock ≡ made → setup_of made ≡ setup_for plan head → (setup_of clock).plan ≡ plan
plan_of {H} {Part} plan head made clock same is = ap (λ (c : Clock H Part). (setup_of c).plan) same ∙ ap (λ (s : Setup). s.plan) is

-- ---- the workers

module _ {H Part : Type 0} {h : Ghosts H Part} where
  pub zones_in : (head : Head) (clock : Clock H Part) (zones : List (CountedZone H Part h)) → AreZones head clock zones → All (λ (zone : CountedZone H Part h). zone_domains zone ≡ head.domains) zones
  zones_in head clock zones are =
      All_there (λ (zone : CountedZone H Part h). zone_domains zone ≡ head.domains) zones
      (λ z zone at. let line = has_too head.zones zones z zone are.count at in (are.each z line.0 zone line.1 at).numbers.domain_count)

  pub as_many : (count : ℕ) (clock : Clock H Part) (passes : List (Pass H Part h)) → ArePasses count clock passes → ArePasses (length passes) clock passes
  as_many count clock passes are = record { one_each = refl; each = are.each }

  all_stand : (zones : List (CountedZone H Part h)) (clock : Clock H Part) (domains count : ℕ) (workers : List (Worker H Part h)) → AreBeginners zones clock domains count workers → AllStand zones clock [] workers
  all_stand zones clock domains count workers are = record { fits = λ n w at. (are.each n w at).fits; stands = λ n w at. (are.each n w at).stands n }

  none_counted : (count : SeatLedger → ℕ) (o : Option (CountedSeat H Part h)) → ((seat : CountedSeat H Part h) → o ≡ Some seat → count (ledger_of seat) ≡ 0) → option_map_or count (option_map ledger_of o) 0 ≡ 0
  none_counted count None each = refl
  none_counted count (Some seat) each = each seat refl

  -- a count of a ledger that is 0 in a new one, over all workers
  ledgers_none : (zones : List (CountedZone H Part h)) (clock : Clock H Part) (domains many z : ℕ) (workers : List (Worker H Part h)) (count : SeatLedger → ℕ) → AreBeginners zones clock domains many workers
      → ((n : ℕ) (w : Worker H Part h) (seat : CountedSeat H Part h) → slice_get workers n ≡ Some w → slice_get w.seats.items z ≡ Some seat → count (ledger_of seat) ≡ 0)
      → sum_by (λ w. option_map_or count (ledger_at z w) 0) workers ≡ 0
  ledgers_none zones clock domains many z workers count are none =
      sum_none (λ w. option_map_or count (ledger_at z w) 0) workers (λ n w at. none_counted count (slice_get w.seats.items z) (λ seat at_seat. none n w seat at at_seat))

  adds_up : (zones : List (CountedZone H Part h)) (clock : Clock H Part) (domains count z : ℕ) (workers : List (Worker H Part h)) → AreBeginners zones clock domains count workers → AddsUp z workers
  adds_up zones clock domains count z workers are =
      both_none
      (sum_none (λ w. live_count z w.slots) workers (λ n w at. ap (live_count z) (are.each n w at).empty))
      (ledgers_none zones clock domains count z workers (λ ledger. ledger.frees) are (λ n w seat at at_seat. ((are.each n w at).seats z seat at_seat).ledger.frees))
      (ledgers_none zones clock domains count z workers (λ ledger. ledger.allocs) are (λ n w seat at at_seat. ((are.each n w at).seats z seat at_seat).ledger.allocs))

  pub set_up_of : (t : Trace) (s : Setting H Part h) (count : ℕ) → IsClockOf t.head s.clock → KnowsBeginning s.clock s.begun → AreZones t.head s.clock s.zones.items → count ≡ t.head.workers
      → AreBeginners s.zones.items s.clock t.head.domains count s.workers.items → IsSetUp t s
  set_up_of t s count clock begun zones many begin = record {
    clock = clock;
    begun = begun;
    zones = zones;
    begin = record { one_each = begin.one_each ∙ many; each = begin.each };
    stand = all_stand s.zones.items s.clock t.head.domains count s.workers.items begin;
    adds_up = λ z. adds_up s.zones.items s.clock t.head.domains count z s.workers.items begin;
  }
