-- The sums of tallies by hooks, from the sums of each zone.
use Rattle.std.proofs.Common.{◌≡◌, ◌<◌, ◌+◌, ◌^◌, ℕ, List, length, get_or, inl, inr, refl, arith, ap}
use Rattle.std.proofs.lemmas.Bool.{cases_lt}
use Rattle.std.proofs.lemmas.List.{get_or_past}
use Rattle.uma_life.specs.declared.tally.ZoneTally.{ZoneTally}
use Rattle.uma_life.specs.declared.tally.Tally.{Tally}
use Rattle.uma_life.specs.declared.tally.ZoneTallySum.{ZoneTallySum}
use Rattle.uma_life.specs.declared.tally.TallySum.{TallySum}
use Rattle.uma_life.specs.Life.{no_counts}
use Rattle.uma_life.specs.Hook.{Hook, KegInit, ZoneInit, Ctor, Dtor, ZoneFini, KegFini}
use Rattle.uma_life.specs.Sum.{no_zone_sums, times_of, sum_of, zone_sums, AreBelow, IsBelow, AreCounts, zone_sums_with, zone_sums_and, capped, capped_zone}

-- past the eight zones nothing is counted
all_zones_with : (sums more : List ZoneTallySum) (counts : List ZoneTally) → length sums ≡ 8 → length counts ≡ 8 → length more ≡ 8
    → ((zone : ℕ) → zone < 8 → zone_sums more zone ≡ zone_sums_with (zone_sums sums zone) (get_or counts zone no_counts))
    → (zone : ℕ) → zone_sums more zone ≡ zone_sums_with (zone_sums sums zone) (get_or counts zone no_counts)
all_zones_with sums more counts eight as_many so_many each zone = elim (cases_lt zone 8) [
  | inl within ↦ each zone within
  | inr past ↦ rw (get_or_past more zone no_zone_sums (rw so_many past), get_or_past sums zone no_zone_sums (rw eight past), get_or_past counts zone no_counts (rw as_many past)) refl
]

pub sums_added : (old new : TallySum) (tally : Tally) → new.keg_inits ≡ old.keg_inits + tally.keg_inits → new.keg_finis ≡ old.keg_finis + tally.keg_finis
    → length old.zones ≡ 8 → length tally.zones ≡ 8 → length new.zones ≡ 8
    → ((zone : ℕ) → zone < 8 → zone_sums new.zones zone ≡ zone_sums_with (zone_sums old.zones zone) (get_or tally.zones zone no_counts))
    → (hook : Hook) → sum_of new hook ≡ sum_of old hook + times_of tally hook
sums_added old new tally inits finis eight as_many so_many each KegInit = inits
sums_added old new tally inits finis eight as_many so_many each (ZoneInit zone) = ap (λ (s : ZoneTallySum). s.inits) (all_zones_with old.zones new.zones tally.zones eight as_many so_many each zone)
sums_added old new tally inits finis eight as_many so_many each (Ctor zone) = ap (λ (s : ZoneTallySum). s.ctors) (all_zones_with old.zones new.zones tally.zones eight as_many so_many each zone)
sums_added old new tally inits finis eight as_many so_many each (Dtor zone) = ap (λ (s : ZoneTallySum). s.dtors) (all_zones_with old.zones new.zones tally.zones eight as_many so_many each zone)
sums_added old new tally inits finis eight as_many so_many each (ZoneFini zone) = ap (λ (s : ZoneTallySum). s.finis) (all_zones_with old.zones new.zones tally.zones eight as_many so_many each zone)
sums_added old new tally inits finis eight as_many so_many each KegFini = finis

all_zones_and : (sums others more : List ZoneTallySum) → length sums ≡ 8 → length others ≡ 8 → length more ≡ 8 → ((zone : ℕ) → zone < 8 → zone_sums more zone ≡ zone_sums_and (zone_sums sums zone) (zone_sums others zone))
    → (zone : ℕ) → zone_sums more zone ≡ zone_sums_and (zone_sums sums zone) (zone_sums others zone)
all_zones_and sums others more eight as_many so_many each zone = elim (cases_lt zone 8) [
  | inl within ↦ each zone within
  | inr past ↦ rw (get_or_past more zone no_zone_sums (rw so_many past), get_or_past sums zone no_zone_sums (rw eight past), get_or_past others zone no_zone_sums (rw as_many past)) refl
]

pub sums_joined : (old others new : TallySum) → new.keg_inits ≡ old.keg_inits + others.keg_inits → new.keg_finis ≡ old.keg_finis + others.keg_finis → length old.zones ≡ 8 → length others.zones ≡ 8 → length new.zones ≡ 8
    → ((zone : ℕ) → zone < 8 → zone_sums new.zones zone ≡ zone_sums_and (zone_sums old.zones zone) (zone_sums others.zones zone)) → (hook : Hook) → sum_of new hook ≡ sum_of old hook + sum_of others hook
sums_joined old others new inits finis eight as_many so_many each KegInit = inits
sums_joined old others new inits finis eight as_many so_many each (ZoneInit zone) = ap (λ (s : ZoneTallySum). s.inits) (all_zones_and old.zones others.zones new.zones eight as_many so_many each zone)
sums_joined old others new inits finis eight as_many so_many each (Ctor zone) = ap (λ (s : ZoneTallySum). s.ctors) (all_zones_and old.zones others.zones new.zones eight as_many so_many each zone)
sums_joined old others new inits finis eight as_many so_many each (Dtor zone) = ap (λ (s : ZoneTallySum). s.dtors) (all_zones_and old.zones others.zones new.zones eight as_many so_many each zone)
sums_joined old others new inits finis eight as_many so_many each (ZoneFini zone) = ap (λ (s : ZoneTallySum). s.finis) (all_zones_and old.zones others.zones new.zones eight as_many so_many each zone)
sums_joined old others new inits finis eight as_many so_many each KegFini = finis

all_counts : (counts : List ZoneTally) → length counts ≡ 8 → ((zone : ℕ) → zone < 8 → AreCounts (get_or counts zone no_counts)) → (zone : ℕ) → AreCounts (get_or counts zone no_counts)
all_counts counts eight each zone = elim (cases_lt zone 8) [
  | inl within ↦ each zone within
  | inr past ↦ rw (get_or_past counts zone no_counts (rw eight past)) (record { inits = omega arith; ctors = omega arith; dtors = omega arith; finis = omega arith })
]

pub counts_small : (tally : Tally) → tally.keg_inits < 2 ^ 64 → tally.keg_finis < 2 ^ 64 → length tally.zones ≡ 8 → ((zone : ℕ) → zone < 8 → AreCounts (get_or tally.zones zone no_counts)) → (hook : Hook) → times_of tally hook < 2 ^ 64
counts_small tally inits finis eight each KegInit = inits
counts_small tally inits finis eight each (ZoneInit zone) = (all_counts tally.zones eight each zone).inits
counts_small tally inits finis eight each (Ctor zone) = (all_counts tally.zones eight each zone).ctors
counts_small tally inits finis eight each (Dtor zone) = (all_counts tally.zones eight each zone).dtors
counts_small tally inits finis eight each (ZoneFini zone) = (all_counts tally.zones eight each zone).finis
counts_small tally inits finis eight each KegFini = finis

all_capped : (sums : List ZoneTallySum) (counts : List ZoneTally) → length sums ≡ 8 → length counts ≡ 8 → ((zone : ℕ) → zone < 8 → get_or counts zone no_counts ≡ capped_zone (zone_sums sums zone)) → (zone : ℕ) → get_or counts zone no_counts ≡ capped_zone (zone_sums sums zone)
all_capped sums counts eight as_many each zone = elim (cases_lt zone 8) [
  | inl within ↦ each zone within
  | inr past ↦ rw (get_or_past sums zone no_zone_sums (rw eight past), get_or_past counts zone no_counts (rw as_many past)) refl
]

pub sums_capped : (sums : TallySum) (tally : Tally) → tally.keg_inits ≡ capped sums.keg_inits → tally.keg_finis ≡ capped sums.keg_finis → length sums.zones ≡ 8 → length tally.zones ≡ 8
    → ((zone : ℕ) → zone < 8 → get_or tally.zones zone no_counts ≡ capped_zone (zone_sums sums.zones zone)) → (hook : Hook) → times_of tally hook ≡ capped (sum_of sums hook)
sums_capped sums tally inits finis eight as_many each KegInit = inits
sums_capped sums tally inits finis eight as_many each (ZoneInit zone) = ap (λ (c : ZoneTally). c.inits) (all_capped sums.zones tally.zones eight as_many each zone)
sums_capped sums tally inits finis eight as_many each (Ctor zone) = ap (λ (c : ZoneTally). c.ctors) (all_capped sums.zones tally.zones eight as_many each zone)
sums_capped sums tally inits finis eight as_many each (Dtor zone) = ap (λ (c : ZoneTally). c.dtors) (all_capped sums.zones tally.zones eight as_many each zone)
sums_capped sums tally inits finis eight as_many each (ZoneFini zone) = ap (λ (c : ZoneTally). c.finis) (all_capped sums.zones tally.zones eight as_many each zone)
sums_capped sums tally inits finis eight as_many each KegFini = finis

-- sums are below a bound by each hook where they are by each zone
pub zones_below : (bound : ℕ) (sums : TallySum) → AreBelow bound sums → (zone : ℕ) → zone < 8 → IsBelow bound (zone_sums sums.zones zone)
zones_below bound sums below zone within = record { inits = below (ZoneInit zone); ctors = below (Ctor zone); dtors = below (Dtor zone); finis = below (ZoneFini zone) }

all_below : (bound : ℕ) (zones : List ZoneTallySum) → 0 < bound → length zones ≡ 8 → ((zone : ℕ) → zone < 8 → IsBelow bound (zone_sums zones zone)) → (zone : ℕ) → IsBelow bound (zone_sums zones zone)
all_below bound zones some eight each zone = elim (cases_lt zone 8) [
  | inl within ↦ each zone within
  | inr past ↦ rw (get_or_past zones zone no_zone_sums (rw eight past)) (record { inits = some; ctors = some; dtors = some; finis = some })
]

pub sums_below : (bound : ℕ) (sums : TallySum) → sums.keg_inits < bound → sums.keg_finis < bound → length sums.zones ≡ 8 → ((zone : ℕ) → zone < 8 → IsBelow bound (zone_sums sums.zones zone)) → AreBelow bound sums
sums_below bound sums inits finis eight each KegInit = inits
sums_below bound sums inits finis eight each (ZoneInit zone) = (all_below bound sums.zones (omega arith) eight each zone).inits
sums_below bound sums inits finis eight each (Ctor zone) = (all_below bound sums.zones (omega arith) eight each zone).ctors
sums_below bound sums inits finis eight each (Dtor zone) = (all_below bound sums.zones (omega arith) eight each zone).dtors
sums_below bound sums inits finis eight each (ZoneFini zone) = (all_below bound sums.zones (omega arith) eight each zone).finis
sums_below bound sums inits finis eight each KegFini = finis
