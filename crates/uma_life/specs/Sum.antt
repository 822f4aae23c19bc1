-- Own: the sums of tallies, which don't wrap.
use Rattle.std.specs.Prelude.{◌≡◌, ◌<◌, ◌+◌, ◌-◌, ◌^◌, ℕ, List, length, min, replicate, slice_index_or}
use Rattle.uma_life.specs.declared.tally.ZoneTally.{ZoneTally}
use Rattle.uma_life.specs.declared.tally.Tally.{Tally}
use Rattle.uma_life.specs.declared.tally.ZoneTallySum.{ZoneTallySum}
use Rattle.uma_life.specs.declared.tally.TallySum.{TallySum}
use Rattle.uma_life.specs.Life.{no_counts}
use Rattle.uma_life.specs.Hook.{Hook, KegInit, ZoneInit, Ctor, Dtor, ZoneFini, KegFini, counts_of}

abbrev pub no_zone_sums : ZoneTallySum
no_zone_sums = record { inits = 0; ctors = 0; dtors = 0; finis = 0 }

-- the sums of no tally
abbrev pub no_sums : TallySum
no_sums = record { keg_inits = 0; keg_finis = 0; zones = replicate 8 no_zone_sums }

-- how often an item passed a hook, by its tally
abbrev pub times_of : Tally → Hook → ℕ
times_of tally KegInit = tally.keg_inits
times_of tally (ZoneInit zone) = (counts_of tally zone).inits
times_of tally (Ctor zone) = (counts_of tally zone).ctors
times_of tally (Dtor zone) = (counts_of tally zone).dtors
times_of tally (ZoneFini zone) = (counts_of tally zone).finis
times_of tally KegFini = tally.keg_finis

abbrev pub zone_sums : List ZoneTallySum → ℕ → ZoneTallySum
zone_sums zones zone = slice_index_or zones zone no_zone_sums

-- how often items passed a hook, by their sums
abbrev pub sum_of : TallySum → Hook → ℕ
sum_of sums KegInit = sums.keg_inits
sum_of sums (ZoneInit zone) = (zone_sums sums.zones zone).inits
sum_of sums (Ctor zone) = (zone_sums sums.zones zone).ctors
sum_of sums (Dtor zone) = (zone_sums sums.zones zone).dtors
sum_of sums (ZoneFini zone) = (zone_sums sums.zones zone).finis
sum_of sums KegFini = sums.keg_finis

-- each sum is below a bound
abbrev pub AreBelow : ℕ → TallySum → Type 0
AreBelow bound sums = (hook : Hook) → sum_of sums hook < bound

-- the sums of a zone with the counts of one more item
abbrev pub zone_sums_with : ZoneTallySum → ZoneTally → ZoneTallySum
zone_sums_with sums counts = record {
  inits = sums.inits + counts.inits;
  ctors = sums.ctors + counts.ctors;
  dtors = sums.dtors + counts.dtors;
  finis = sums.finis + counts.finis;
}

-- the sums of a zone with those of more items
abbrev pub zone_sums_and : ZoneTallySum → ZoneTallySum → ZoneTallySum
zone_sums_and sums others = record {
  inits = sums.inits + others.inits;
  ctors = sums.ctors + others.ctors;
  dtors = sums.dtors + others.dtors;
  finis = sums.finis + others.finis;
}

-- each sum of a zone is below a bound
pub record IsBelow (bound : ℕ) (sums : ZoneTallySum) : Type 0 where
  pub inits : sums.inits < bound
  pub ctors : sums.ctors < bound
  pub dtors : sums.dtors < bound
  pub finis : sums.finis < bound

-- counters of 64 bits
pub record AreCounts (counts : ZoneTally) : Type 0 where
  pub inits : counts.inits < 2 ^ 64
  pub ctors : counts.ctors < 2 ^ 64
  pub dtors : counts.dtors < 2 ^ 64
  pub finis : counts.finis < 2 ^ 64

-- each sum of each of eight zones is
abbrev pub AreBelowEach : ℕ → List ZoneTallySum → Type 0
AreBelowEach bound zones = (zone : ℕ) → zone < 8 → IsBelow bound (zone_sums zones zone)

-- the sums of eight zones with the counts of one more item
pub record AddsCounts (old : List ZoneTallySum) (more : List ZoneTally) (new : List ZoneTallySum) : Type 0 where
  pub eight : (length old ≡ 8) × (length more ≡ 8) × (length new ≡ 8)
  pub sums : (zone : ℕ) → zone < 8 → zone_sums new zone ≡ zone_sums_with (zone_sums old zone) (slice_index_or more zone no_counts)
  pub counts : (zone : ℕ) → zone < 8 → AreCounts (slice_index_or more zone no_counts)

-- the sums of eight zones with those of more items
pub record AddsSums (old others new : List ZoneTallySum) : Type 0 where
  pub eight : (length old ≡ 8) × (length others ≡ 8) × (length new ≡ 8)
  pub sums : (zone : ℕ) → zone < 8 → zone_sums new zone ≡ zone_sums_and (zone_sums old zone) (zone_sums others zone)

-- a sum as a counter of 64 bits that stops at its end
abbrev pub capped : ℕ → ℕ
capped sum = min sum (2 ^ 64 - 1)

abbrev pub capped_zone : ZoneTallySum → ZoneTally
capped_zone sums = record { inits = capped sums.inits; ctors = capped sums.ctors; dtors = capped sums.dtors; finis = capped sums.finis }
