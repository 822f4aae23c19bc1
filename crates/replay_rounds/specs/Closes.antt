-- What all workers, zones and the clock come to when all lines are done (own).
use Rattle.std.specs.Prelude.{◌≡◌, ◌≤◌, ◌+◌, ◌==◌, ℕ, List, [], ◌∷◌, length, Some, cond, slice_get, slice_index_or}
use Rattle.std.specs.List.{sum_by}
use Rattle.std.specs.Option.{option_map_or}
use Rattle.smr_clock.specs.declared.host.Host.{Ghosts}
use Rattle.trace_text.specs.declared.trace.Head.{Head}
use Rattle.trace_text.specs.declared.trace.ZoneHead.{ZoneHead}
use Rattle.uma_keg.specs.declared.census.Census.{Census}
use Rattle.uma_keg.specs.Census.{census_out, census_tally}
use Rattle.uma_life.specs.declared.tally.TallySum.{TallySum}
use Rattle.uma_life.specs.Hook.{Hook, Ctor, Dtor}
use Rattle.uma_life.specs.Sum.{sum_of}
use Rattle.uma_life.specs.Trail.{ShowsSame}
use Rattle.uma_seat.specs.Sums.{times_in_seat, deferred_in_seat}
use Rattle.uma_zone.specs.Zone.{zone_index}
use Rattle.replay_worker.specs.declared.worker.Worker.{Worker}
use Rattle.replay_worker.specs.Items.{CountedZone}
use Rattle.replay_worker.specs.Together.{all_live}
use Rattle.replay_rounds.specs.Lending.{IsCensusOf, slot_times}
use Rattle.replay_rounds.specs.Kegs.{keg_place, primaries}

module _ {H P : Type 0} {h : Ghosts H P} where
  -- how often the items that the worker's seat of the zone at place `z` caches or defers passed a hook
  abbrev pub seat_times : Hook → ℕ → Worker H P h → ℕ
  seat_times hook z w = option_map_or (times_in_seat hook) (slice_get w.seats.items z) 0

  -- the same, of these and of the zone's items that the worker's slots hold
  abbrev pub worker_times : Hook → ℕ → Worker H P h → ℕ
  worker_times hook z w = slot_times hook z w + seat_times hook z w

  -- the same, of all workers
  abbrev pub zone_times : Hook → ℕ → List (Worker H P h) → ℕ
  zone_times hook z workers = sum_by (worker_times hook z) workers

  -- the same, of all zones of the keg whose primary zone stands at place `p`; `z` is the place of the first of these lines
  abbrev pub keg_times : Hook → ℕ → ℕ → List ZoneHead → List (Worker H P h) → ℕ
  keg_times hook p z [] workers = 0
  keg_times hook p z (line ∷ lines) workers = cond (keg_place z line == p) (zone_times hook z workers) 0 + keg_times hook p (z + 1) lines workers

  -- the deferred items in the worker's seat of the zone at place `z`
  abbrev pub seat_deferred : ℕ → Worker H P h → ℕ
  seat_deferred z w = option_map_or deferred_in_seat (slice_get w.seats.items z) 0

  -- the same, of all workers
  abbrev pub seats_deferred : ℕ → List (Worker H P h) → ℕ
  seats_deferred z workers = sum_by (seat_deferred z) workers

  -- A keg when all lines are done: its census, and how often the items of its zones passed each hook. Its primary zone stands at place `p`; `deferred` has for each zone how many of its items are.
  pub record KegCloses (head : Head) (zones : List (CountedZone H P h)) (workers : List (Worker H P h)) (deferred : List ℕ) (p : ℕ) (primary : CountedZone H P h) (census : Census) (tally : TallySum) : Type 0 where
    pub counts : IsCensusOf primary census
    -- all slots lent their live items to the census
    pub lent : (z : ℕ) (line : ZoneHead) (zone : CountedZone H P h) → slice_get head.zones z ≡ Some line → keg_place z line ≡ p → slice_get zones z ≡ Some zone → all_live z workers ≤ census_out census (zone_index zone)
    -- counted are the hooks that the census's items passed, and those in slots and seats, and more, since the domains list items too
    pub hooks : (hook : Hook) → sum_of (census_tally census) hook + keg_times hook p 0 head.zones workers ≤ sum_of tally hook
    -- ctors and dtors come in pairs, but for live items and deferred ones
    pub pairs : (z : ℕ) (line : ZoneHead) (zone : CountedZone H P h) → slice_get head.zones z ≡ Some line → keg_place z line ≡ p → slice_get zones z ≡ Some zone → ShowsSame (sum_of tally (Ctor (zone_index zone))) (sum_of tally (Dtor (zone_index zone)) + all_live z workers + slice_index_or deferred z 0)

  -- Each keg, in the order of the primary zones' lines, has a census and its hooks' sums, and each zone its count of deferred items.
  pub record AllClose (head : Head) (zones : List (CountedZone H P h)) (workers : List (Worker H P h)) (censuses : List Census) (tallies : List TallySum) (deferred : List ℕ) : Type 0 where
    pub censuses_count : length censuses ≡ length (primaries head.zones 0)
    pub tallies_count : length tallies ≡ length (primaries head.zones 0)
    pub deferred_count : length deferred ≡ length head.zones
    pub kegs : (k p : ℕ) (line : ZoneHead) (primary : CountedZone H P h) (census : Census) (tally : TallySum) → slice_get (primaries head.zones 0) k ≡ Some (p, line) → slice_get zones p ≡ Some primary → slice_get censuses k ≡ Some census → slice_get tallies k ≡ Some tally → KegCloses head zones workers deferred p primary census tally
    pub defers : (z : ℕ) (count : ℕ) → slice_get deferred z ≡ Some count → seats_deferred z workers ≤ count
