-- The kegs that were taken so far: their censuses, and their hooks' sums (own).
use Rattle.std.specs.Prelude.{◌≡◌, ◌≤◌, ◌+◌, ◌^◌, ◌==◌, ℕ, Bool, List, length, Some, slice_get}
use Rattle.smr_clock.specs.declared.clock.Clock.{Clock}
use Rattle.smr_clock.specs.declared.host.Host.{Ghosts}
use Rattle.trace_text.specs.declared.trace.Head.{Head}
use Rattle.trace_text.specs.declared.trace.ZoneHead.{ZoneHead}
use Rattle.trace_text.specs.Valid.{HeadFits}
use Rattle.uma_keg.specs.declared.census.Census.{Census}
use Rattle.uma_life.specs.declared.tally.TallySum.{TallySum}
use Rattle.uma_life.specs.Hook.{Hook}
use Rattle.uma_life.specs.Sum.{AreBelow, sum_of}
use Rattle.uma_bucket.specs.declared.shelved.Sums.{Sums}
use Rattle.uma_bucket.specs.Sums.{AreOfAtMost}
use Rattle.replay_worker.specs.declared.worker.Worker.{Worker}
use Rattle.replay_worker.specs.Items.{CountedZone}
use Rattle.replay_rounds.specs.Kegs.{keg_place, primaries}
use Rattle.replay_rounds.specs.Lending.{AllFit, AreFew, TakesCensusAt}
use Rattle.replay_rounds.specs.Picking.{picked}
use Rattle.replay_rounds.specs.Summing.{SumsUp}
use Rattle.replay_rounds.specs.Zones.{AreZones}

-- the line at place `z` is of the keg whose primary zone stands at place `p`
abbrev pub is_of_keg : ℕ → ℕ → ZoneHead → Bool
is_of_keg p z line = keg_place z line == p

-- how often a hook was passed by what is summed up of the keg's zones
abbrev pub keg_sums : Hook → ℕ → List ZoneHead → List Sums → ℕ
keg_sums hook p lines sums = picked (is_of_keg p) (λ s. sum_of s.tally hook) 0 lines sums

-- the sums of each zone of at most 16 lines, none of which counts too much, and a tally that has room for them
pub record CanAddZones (lines : List ZoneHead) (all : List Sums) (begun : TallySum) : Type 0 where
  pub count : length all ≡ length lines
  pub most : length lines ≤ 16
  pub small : (n : ℕ) (s : Sums) → slice_get all n ≡ Some s → AreOfAtMost (2 ^ 35) s
  pub room : AreBelow (2 ^ 126) begun

-- the sums of so many zones, none of which counts too much
pub record AreZoneSums (zone_count : ℕ) (sums : List Sums) : Type 0 where
  pub count : length sums ≡ zone_count
  pub small : (n : ℕ) (s : Sums) → slice_get sums n ≡ Some s → AreOfAtMost (2 ^ 35) s

module _ {H P : Type 0} {h : Ghosts H P} where
  -- The zones are those of the lines of this head, which fits, over this clock; the workers fit them, and are few.
  pub record CanTake (of : Head) (by : Clock H P) (all : List (CountedZone H P h)) (workers : List (Worker H P h)) : Type 0 where
    pub head : HeadFits of
    pub zones : AreZones of by all
    pub fits : AllFit all by workers
    pub few : AreFew workers

  -- the sums of each zone, in order
  pub record AllSumUp (zones : List (CountedZone H P h)) (workers : List (Worker H P h)) (sums : List Sums) : Type 0 where
    pub count : length sums ≡ length zones
    pub each : (z : ℕ) (zone : CountedZone H P h) (s : Sums) → slice_get zones z ≡ Some zone → slice_get sums z ≡ Some s → SumsUp zone z workers s

  -- The census of the keg whose primary zone stands at place `p`, and its hooks' sums: those of the census, of what the slots lent it, and of its zones.
  pub record TakesKeg (head : Head) (zones : List (CountedZone H P h)) (workers : List (Worker H P h)) (sums : List Sums) (p : ℕ) (census : Census) (tally : TallySum) : Type 0 where
    pub lent : TallySum
    pub counts : TakesCensusAt head zones workers p census lent
    pub adds : (hook : Hook) → sum_of tally hook ≡ sum_of lent hook + keg_sums hook p head.zones sums

  -- so each keg whose primary zone stands in these lines
  pub record TakesKegs (head : Head) (zones : List (CountedZone H P h)) (workers : List (Worker H P h)) (sums : List Sums) (lines : List ZoneHead) (censuses : List Census) (tallies : List TallySum) : Type 0 where
    pub censuses_count : length censuses ≡ length (primaries lines 0)
    pub tallies_count : length tallies ≡ length (primaries lines 0)
    pub each : (k p : ℕ) (line : ZoneHead) (census : Census) (tally : TallySum) → slice_get (primaries lines 0) k ≡ Some (p, line) → slice_get censuses k ≡ Some census → slice_get tallies k ≡ Some tally
        → TakesKeg head zones workers sums p census tally
