-- What becomes of a keg by a fetch: how it ends, by what it found, what it asked for and what the hooks refused, and what it changed. The order of its tests is own, as is that items taken before a refusal are given; that a refusal by a hook ends it, and the item stays in the keg, is FreeBSD's uma(9).
use Rattle.std.specs.Prelude.{◌≡◌, ◌≢◌, ◌≤◌, ◌<◌, ◌+◌, ◌^◌, ◌⊎◌, ℕ, true, false, Some, List, [], ◌∷◌, ◌++◌, Result, Err, All, length}
use Rattle.uma_life.specs.declared.states.Cached.{Cached}
use Rattle.uma_life.specs.Cached.{cached_zone, cached_table}
use Rattle.uma_life.specs.Hook.{Hook}
use Rattle.zone_stats.specs.declared.refusal.Refusal.{Refusal}
use Rattle.zone_stats.specs.declared.refusal.Refusal.TheVariants.{AtLimit, Reserved, Full, Init, Ctor}
use Rattle.uma_keg.specs.declared.fetch.FetchAsk.{FetchAsk}
use Rattle.uma_keg.specs.declared.fetch.FetchRefused.{FetchRefused}
use Rattle.uma_keg.specs.declared.fetch.FetchRefused.TheVariants.{Refused, Memory}
use Rattle.uma_keg.specs.declared.keg.Keg.{Keg}
use Rattle.uma_keg.specs.Fetch.{Wish, is_at_limit, IsNewSlabs, outcome_with, Outcome, Refuses, Gives, EndsAs}
use Rattle.uma_slabs.specs.Places.{slab_count}
use Rattle.uma_keg.specs.Keg.{places_in, zones_in, out_in, table_in, limit_in, reserve_in, buried_in, total_in, IsSameKeg}
pub use Rattle.uma_keg.specs.Frames.{IsUnmoved}
use Rattle.uma_keg.specs.BringSlab.{RefusesNumber}
use Rattle.uma_keg.specs.BringSlabs.{found_in, BringsSlabs, StopsAtSlab}
use Rattle.uma_keg.specs.TakeItem.{RefusesItem, KeepsItems}
use Rattle.uma_keg.specs.TakeItems.{TakesItems}

-- what a fetch asks for
abbrev pub wish_of : FetchAsk → Wish
wish_of ask = record { most = ask.most; reserve = ask.reserve }

-- A fetch that isn't at the limit. The slabs that are enough are in, of the asker's domain, and no further one; its numbers then tell how it ends, where zone_init refuses no item.
pub record Proceeds {T K : Type 0} {g : _} {h : _} (old : Keg T K g h) (ask : FetchAsk) (outcome : Outcome) (left : Keg T K g h) : Type 0 where
  pub below_limit : is_at_limit (found_in old ask.zone) ≡ false
  pub slabs : ℕ
  pub enough : IsNewSlabs (found_in old ask.zone) slabs
  pub brings : BringsSlabs old ask.domain slabs left
  pub ends : outcome_with (found_in old ask.zone) (wish_of ask) slabs ≡ outcome
  pub zones : zones_in left ≡ zones_in old
  pub same : IsSameKeg old left

-- So many items are given. All of the count that the numbers tell, or those before the one that zone_init refuses.
pub record Fetches {T K : Type 0} {g : _} {h : _} (old : Keg T K g h) (hooks : K) (ask : FetchAsk) (items : List (Cached T g)) (new : Keg T K g h) : Type 0 where
  pub whole : ℕ
  pub left : Keg T K g h
  pub proceeds : Proceeds old ask (Gives whole) left
  pub taken : Keg T K g h
  pub takes : TakesItems left hooks ask.zone items taken
  pub some : 1 ≤ length items
  pub ends : (length items ≡ whole) ⊎ ((length items < whole) × (code : ℕ) × RefusesItem taken hooks ask.zone code)
  pub keeps : KeepsItems taken new

-- zone_init refuses the first item, which stays in the keg
pub record RefusesFirst {T K : Type 0} {g : _} {h : _} (old : Keg T K g h) (hooks : K) (ask : FetchAsk) (code : ℕ) (new : Keg T K g h) : Type 0 where
  pub whole : ℕ
  pub left : Keg T K g h
  pub proceeds : Proceeds old ask (Gives whole) left
  pub refused : RefusesItem left hooks ask.zone code
  pub keeps : KeepsItems left new
  pub buried : buried_in new ≡ buried_in old

-- its numbers refuse it, once the slabs are in
pub record RefusesByNumbers {T K : Type 0} {g : _} {h : _} (old : Keg T K g h) (ask : FetchAsk) (refusal : Refusal) (new : Keg T K g h) : Type 0 where
  pub left : Keg T K g h
  pub proceeds : Proceeds old ask (Refuses refusal) left
  pub unmoved : IsUnmoved left new

-- 1. The zone is at its limit; nothing changes.
-- 2. No item is free, or none beyond the reserve, once no further slab may be in.
-- 3. keg_init refused an item of a slab that was wanted, or zone_init the first item.
-- 4. Memory was wanting for a slab, or a sum of hooks is at 2^120, where nothing changes.
abbrev pub RefusesFetch : {T K : Type 0} {g : _} {h : _} → Keg T K g h → K → FetchAsk → Keg T K g h → FetchRefused → Type 0
RefusesFetch old hooks ask new (Refused (AtLimit out limit)) = EndsAs (found_in old ask.zone) (wish_of ask) (Refuses (AtLimit out limit)) × (is_at_limit (found_in old ask.zone) ≡ true) × IsUnmoved old new
RefusesFetch old hooks ask new (Refused (Full slabs made)) = RefusesByNumbers old ask (Full slabs made) new
RefusesFetch old hooks ask new (Refused (Reserved free reserve)) = RefusesByNumbers old ask (Reserved free reserve) new
RefusesFetch old hooks ask new (Refused (Init code)) = ((is_at_limit (found_in old ask.zone) ≡ false) × StopsAtSlab old ask.domain (Refused (Init code)) new) ⊎ RefusesFirst old hooks ask code new
RefusesFetch old hooks ask new (Refused (Ctor code)) = ⊥
RefusesFetch old hooks ask new Memory = ((((hook : Hook) → total_in old hook < 2 ^ 120) → ⊥) × IsUnmoved old new) ⊎ ((is_at_limit (found_in old ask.zone) ≡ false) × StopsAtSlab old ask.domain Memory new)

-- so many items were given, and are on top of what was in the bucket
pub record FetchesInto {T K : Type 0} {g : _} {h : _} (old : Keg T K g h) (hooks : K) (ask : FetchAsk) (count : ℕ) (before after : List (Cached T g)) (new : Keg T K g h) : Type 0 where
  pub items : List (Cached T g)
  pub fetches : Fetches old hooks ask items new
  pub counted : length items ≡ count
  pub pushed : after ≡ before ++ items

-- the refusals of a zone, once a fetch of it ended so: a refusal for another cause than memory is at the end
abbrev pub refusals_after : List Refusal → Result ℕ FetchRefused → List Refusal
refusals_after before (Err (Refused refusal)) = before ++ refusal ∷ []
refusals_after before _ = before

-- the refusal is one of a keg whose free items don't do
abbrev pub IsOfKeg : Refusal → Type 0
IsOfKeg (Full slabs made) = Unit {0}
IsOfKeg (Reserved free reserve) = Unit {0}
IsOfKeg _ = ⊥

-- What a refusal tells the caller of the keg before the fetch and of the hooks, whatever its steps were:
-- 1. The zone has a limit, and as many items outside or more.
-- 2. Some items are free, none beyond the reserve, and the fetch has no right to it.
-- 3. As many slabs are in as may be; those made are the earlier ones and those that are new.
-- 4. The keg's own hooks refuse some raw body, or the fetch's hooks refuse some body in its zone, which isn't 0. So with hooks that refuse none it doesn't come.
-- 5. No fetch runs ctor.
abbrev pub NamesWhatItFound : {T K : Type 0} {g : _} {h : _} → Keg T K g h → K → FetchAsk → FetchRefused → Type 0
NamesWhatItFound old hooks ask (Refused (AtLimit out limit)) = (out ≡ out_in old ask.zone) × (limit ≡ limit_in old ask.zone) × (limit ≤ out) × (0 < limit)
NamesWhatItFound old hooks ask (Refused (Reserved free reserve)) = (reserve ≡ reserve_in old) × (0 < free) × (free ≤ reserve) × (ask.reserve ≡ false)
NamesWhatItFound old hooks ask (Refused (Full slabs made)) = (slabs ≡ (places_in old).cap) × (made + slab_count (places_in old) ≡ (places_in old).made + slabs)
NamesWhatItFound {T} {K} {g} {h} old hooks ask (Refused (Init code)) = ((n : ℕ) × RefusesNumber old n code) ⊎ ((ask.zone ≢ 0) × (body : T) × (h.refuses_init hooks body ask.zone ≡ Some code))
NamesWhatItFound old hooks ask (Refused (Ctor code)) = ⊥
NamesWhatItFound old hooks ask Memory = Unit {0}

-- an item that is out in a zone of a keg
pub record IsOutIn {T K : Type 0} {g : _} {h : _} (keg : Keg T K g h) (zone : ℕ) (item : Cached T g) : Type 0 where
  pub of_zone : cached_zone item ≡ zone
  pub of_book : cached_table item ≡ table_in keg

-- What a caller is told of the items that a fetch put into the bucket, whatever its steps were: how many there are, at least one and no more than it asked for, and whose they are.
pub record GivesItems {T K : Type 0} {g : _} {h : _} (old : Keg T K g h) (ask : FetchAsk) (count : ℕ) (items : List (Cached T g)) : Type 0 where
  pub some : 1 ≤ count
  pub few : count ≤ ask.most
  pub counted : length items ≡ count
  pub out : All (IsOutIn old ask.zone) items
