-- How all workers' slots lend the live items of a keg's zones to its census, and get them back (own).
use Rattle.std.specs.Prelude.{◌≡◌, ◌≤◌, ◌+◌, ◌/◌, ◌==◌, ℕ, List, [], ◌∷◌, All, length, map, min, Option, Some, cond, option_map, slice_get}
use Rattle.std.specs.List.{sum_by}
use Rattle.smr_clock.specs.declared.clock.Clock.{Clock}
use Rattle.smr_clock.specs.declared.host.Host.{Ghosts}
use Rattle.trace_text.specs.declared.trace.Head.{Head}
use Rattle.trace_text.specs.declared.trace.ZoneHead.{ZoneHead}
use Rattle.uma_keg.specs.declared.census.Census.{Census}
use Rattle.uma_keg.specs.Census.{census_counts, census_out, census_tally, census_table}
use Rattle.uma_keg.specs.Lent.{Seen, seen_of as seen_item}
use Rattle.uma_life.specs.declared.tally.TallySum.{TallySum}
use Rattle.uma_life.specs.Hook.{Hook, Ctor, Dtor}
use Rattle.uma_life.specs.Live.{live_body}
use Rattle.uma_life.specs.Sum.{sum_of, times_of}
use Rattle.uma_life.specs.Trail.{ShowsSame}
use Rattle.uma_zone.specs.Zone.{zone_home, zone_index, zone_size, zone_cap, zone_reserve, zone_rights}
use Rattle.replay_worker.specs.declared.worker.Held.{Held}
use Rattle.replay_worker.specs.declared.worker.Worker.{Worker}
use Rattle.replay_worker.specs.declared.count_hooks.Counted.{Counted}
use Rattle.replay_worker.specs.Items.{counted_life, CountedZone, LiveItem}
use Rattle.replay_worker.specs.Live.{lives_of}
use Rattle.replay_worker.specs.Together.{all_live}
use Rattle.replay_worker.specs.Worker.{FitsZones}
use Rattle.replay_rounds.specs.Kegs.{keg_place}

-- how often a live item passed a hook
abbrev pub live_times : Hook → LiveItem → ℕ
live_times hook item = times_of (counted_life (live_body item)).tally hook

module _ {H P : Type 0} {h : Ghosts H P} where
  -- how often the items of the zone at place `z` that the worker's slots hold passed a hook
  abbrev pub slot_times : Hook → ℕ → Worker H P h → ℕ
  slot_times hook z w = sum_by (live_times hook) (lives_of z w.slots)

  -- the same of all workers, and of all zones of the keg whose primary zone stands at place `p`; `z` is the place of the first of these lines
  abbrev pub lent_times : Hook → ℕ → ℕ → List ZoneHead → List (Worker H P h) → ℕ
  lent_times hook p z [] workers = 0
  lent_times hook p z (line ∷ lines) workers = cond (keg_place z line == p) (sum_by (slot_times hook z) workers) 0 + lent_times hook p (z + 1) lines workers

  -- the census is of the keg of this primary zone: it has the keg's numbers, and no items of zones that the keg hasn't
  pub record IsCensusOf (primary : CountedZone H P h) (census : Census) : Type 0 where
    pub table : census_table census ≡ (zone_home primary).book
    pub cap : (census_counts census).cap ≡ zone_cap primary
    pub reserve : (census_counts census).reserve ≡ zone_reserve primary
    pub per_slab : (census_counts census).per_slab ≡ min 256 (4096 / zone_size primary)
    pub absent : All (λ zone. census_out census zone ≡ 0) (zone_rights primary)

  -- The census of the keg whose primary zone stands at place `p`, and how often each hook was passed by its items and those in the slots.
  pub record TakesCensus (head : Head) (zones : List (CountedZone H P h)) (workers : List (Worker H P h)) (p : ℕ) (primary : CountedZone H P h) (census : Census) (tally : TallySum) : Type 0 where
    pub counts : IsCensusOf primary census
    pub lent : (z : ℕ) (line : ZoneHead) (zone : CountedZone H P h) → slice_get head.zones z ≡ Some line → keg_place z line ≡ p → slice_get zones z ≡ Some zone → all_live z workers ≤ census_out census (zone_index zone)
    pub hooks : (hook : Hook) → sum_of tally hook ≡ sum_of (census_tally census) hook + lent_times hook p 0 head.zones workers
    -- ctors and dtors come in pairs, but for the live items
    pub pairs : (z : ℕ) (line : ZoneHead) (zone : CountedZone H P h) → slice_get head.zones z ≡ Some line → keg_place z line ≡ p → slice_get zones z ≡ Some zone → ShowsSame (sum_of tally (Ctor (zone_index zone))) (sum_of tally (Dtor (zone_index zone)) + all_live z workers)

  -- the same, of the zone that stands at place `p`
  abbrev pub TakesCensusAt : Head → List (CountedZone H P h) → List (Worker H P h) → ℕ → Census → TallySum → Type 0
  TakesCensusAt head zones workers p census tally = (primary : CountedZone H P h) → slice_get zones p ≡ Some primary → TakesCensus head zones workers p primary census tally

-- what is seen of a slot: its zone, and its item but for which token its deed is
abbrev pub seen_slot : Option Held → Option (ℕ × Seen Counted)
seen_slot held = option_map (λ h. (h.zone, seen_item h.item)) held

module _ {H P : Type 0} {h : Ghosts H P} where
  -- The worker's items stand in its slots as before, and all else of it stays. A census that is lent an item gives back another token of it.
  pub record KeepsWorker (old new : Worker H P h) : Type 0 where
    pub pass : new.pass ≡ old.pass
    pub seats : new.seats ≡ old.seats
    pub slots : map seen_slot new.slots ≡ map seen_slot old.slots
    pub entered : new.entered ≡ old.entered
    pub late : new.late ≡ old.late

  -- each of the workers
  pub record KeepsWorkers (old new : List (Worker H P h)) : Type 0 where
    pub count : length new ≡ length old
    pub each : (n : ℕ) (before after : Worker H P h) → slice_get old n ≡ Some before → slice_get new n ≡ Some after → KeepsWorker before after

  -- the workers' seats, passes and items belong to these zones and this clock
  abbrev pub AllFit : List (CountedZone H P h) → Clock H P → List (Worker H P h) → Type 0
  AllFit zones clock workers = (n : ℕ) (w : Worker H P h) → slice_get workers n ≡ Some w → FitsZones zones clock w

  -- there are at most 16 workers, and each has at most 65,536 slots
  pub record AreFew (workers : List (Worker H P h)) : Type 0 where
    pub few : length workers ≤ 16
    pub slots : (n : ℕ) (w : Worker H P h) → slice_get workers n ≡ Some w → length w.slots ≤ 65536
