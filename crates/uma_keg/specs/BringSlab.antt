-- How a keg brings a slab in, or is refused. That keg_init runs on each item of a new slab, and that a refusal ends those made before it, is the rule of FreeBSD's uma(9); the least index is own.
use Rattle.std.specs.Prelude.{◌≡◌, ◌≢◌, ◌<◌, ◌+◌, ◌*◌, ◌/◌, ◌^◌, ℕ, Some, None, Result, Err, IfErr, OnOk, OnErr}
use Rattle.std.specs.Option.{IsSomeAnd}
use Rattle.uma_life.specs.declared.hooks.BringRefused.{BringRefused}
use Rattle.uma_life.specs.declared.hooks.BringRefused.TheVariants.{Init as InitItem, Memory as MemoryItem}
use Rattle.uma_life.specs.declared.tally.TallySum.{TallySum}
use Rattle.uma_life.specs.Life.{raw_life}
use Rattle.uma_life.specs.Hook.{Hook, IsCode}
use Rattle.zone_stats.specs.declared.refusal.Refusal.TheVariants.{Full, Init}
use Rattle.uma_keg.specs.declared.fetch.FetchRefused.{FetchRefused}
use Rattle.uma_keg.specs.declared.fetch.FetchRefused.TheVariants.{Refused, Memory}
use Rattle.uma_keg.specs.declared.keg.Keg.{Keg}
use Rattle.uma_slabs.specs.Places.{KegPlaces, IsIn, domain_at, slab_count, Brings, CountsOneSlab}
use Rattle.uma_keg.specs.NewItems.{IsNewItem, StopsAt}
use Rattle.uma_keg.specs.Tallies.{AddsVain}
use Rattle.uma_keg.specs.Keg.{places_in, zones_in, rights_in, stored_in, limit_in, fetches_in, hooks_in, buried_in, total_in, IsSameKeg}

-- why no slab is brought in where its items weren't made
abbrev pub as_fetch : BringRefused → FetchRefused
as_fetch (InitItem code) = Refused (Init code)
as_fetch MemoryItem = Memory

-- keg_init takes a raw body of this number, by the keg's own hooks
abbrev pub AcceptsNumber : {T K : Type 0} {g : _} {h : _} → Keg T K g h → ℕ → Type 0
AcceptsNumber {T} {K} {g} {h} keg n = (raw : T) × (g.life raw ≡ raw_life n) × (h.refuses_init (hooks_in keg) raw 0 ≡ None)

-- keg_init refuses a raw body of this number with a code, by the keg's own hooks
abbrev pub RefusesNumber : {T K : Type 0} {g : _} {h : _} → Keg T K g h → ℕ → ℕ → Type 0
RefusesNumber {T} {K} {g} {h} keg n code = (raw : T) × (g.life raw ≡ raw_life n) × (h.refuses_init (hooks_in keg) raw 0 ≡ Some code)

-- A slab of this domain is in at the least index that wasn't, and its new items are at home, which keg_init took. All else stays.
pub record BringsSlab {T K : Type 0} {g : _} {h : _} (old : Keg T K g h) (domain : ℕ) (new : Keg T K g h) : Type 0 where
  pub room : slab_count (places_in old) < (places_in old).cap
  pub index : ℕ
  pub places : Brings (places_in old) domain index (places_in new)
  pub counts : CountsOneSlab (places_in old) (places_in new)
  pub items : (n : ℕ) → n / (places_in old).per_slab ≡ index → IsSomeAnd (stored_in new n) (IsNewItem n)
  pub accepted : (n : ℕ) → n / (places_in old).per_slab ≡ index → AcceptsNumber old n
  pub others : (n : ℕ) → n / (places_in old).per_slab ≢ index → stored_in new n ≡ stored_in old n
  pub buried : buried_in new ≡ buried_in old

-- the least index that isn't in
pub record IsNextIndex (places : KegPlaces) (index : ℕ) : Type 0 where
  pub within : index < places.cap
  pub absent : domain_at places index ≡ None
  pub least : (lower : ℕ) → lower < index → IsIn places lower

-- 1. As many slabs are in as may be; that many are named, and those ever brought in.
-- 2. At some place of the next slab keg_init refused the body with a code. The items of the places before it, which it took, were ended.
-- 3. Memory was wanting. Some items may have been made and ended.
-- Of these the sums of the buried tell.
abbrev pub RefusesSlab : {T K : Type 0} {g : _} {h : _} → Keg T K g h → TallySum → FetchRefused → Type 0
RefusesSlab old buried (Refused (Full slabs made)) =
    (slabs ≡ (places_in old).cap) × (made ≡ (places_in old).made) × (slab_count (places_in old) ≡ (places_in old).cap) × (buried ≡ buried_in old)
RefusesSlab old buried (Refused (Init code)) =
    let per_slab = (places_in old).per_slab in
    (slab_count (places_in old) < (places_in old).cap) × (index : ℕ) × IsNextIndex (places_in old) index
    × (place : ℕ) × StopsAt per_slab place (λ lower. AcceptsNumber old (index * per_slab + lower)) (buried_in old) buried × RefusesNumber old (index * per_slab + place) code × IsCode code
RefusesSlab old buried (Refused _) = ⊥
RefusesSlab old buried Memory = (ended : ℕ) × (ended < (places_in old).per_slab) × AddsVain (buried_in old) ended buried

-- A slab is refused for this cause, and of the keg nothing but the buried may change.
pub record StaysWithout {T K : Type 0} {g : _} {h : _} (old : Keg T K g h) (why : FetchRefused) (new : Keg T K g h) : Type 0 where
  pub refused : RefusesSlab old (buried_in new) why
  pub places : places_in new ≡ places_in old
  pub stored : (n : ℕ) → stored_in new n ≡ stored_in old n

-- A slab is brought in, or refused for a cause, and always where a sum of hooks is full. Which numbers are outside, the zones and the lists of fetches stay.
pub record BringsOrRefuses {T K : Type 0} {g : _} {h : _} (old : Keg T K g h) (domain : ℕ) (end : Result (Unit {0}) FetchRefused) (new : Keg T K g h) : Type 0 where
  pub brings : OnOk end (BringsSlab old domain new)
  pub refused : IfErr end (RefusesSlab old (buried_in new))
  pub places : OnErr end (places_in new ≡ places_in old)
  pub stored : OnErr end ((n : ℕ) → stored_in new n ≡ stored_in old n)
  pub sums_full : (((hook : Hook) → total_in old hook < 2 ^ 120) → ⊥) → end ≡ Err Memory
  pub zones : zones_in new ≡ zones_in old
  pub rights : rights_in new ≡ rights_in old
  pub limits : (zone : ℕ) → limit_in new zone ≡ limit_in old zone
  pub fetches : (zone : ℕ) → fetches_in new zone ≡ fetches_in old zone
  pub same : IsSameKeg old new
