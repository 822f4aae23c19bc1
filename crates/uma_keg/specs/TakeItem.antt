-- What becomes of a keg where one item is taken from it for a zone. That zone_init runs on an item that enters a secondary zone, and that an item which it refuses stays in the keg, is the rule of FreeBSD's uma(9).
use Rattle.std.specs.Prelude.{◌≡◌, ◌≢◌, ◌<◌, ◌+◌, ◌/◌, ◌⊎◌, ℕ, Some, None, slice_set}
use Rattle.uma_life.specs.declared.states.Stored.{Stored}
use Rattle.uma_life.specs.declared.states.Cached.{Cached}
use Rattle.uma_life.specs.Stored.{stored_body}
use Rattle.uma_life.specs.Cached.{cached_body, cached_no, cached_zone, cached_domain, cached_table}
use Rattle.uma_life.specs.Hook.{ZoneInit, after, IsCode}
use Rattle.uma_keg.specs.declared.keg.Keg.{Keg}
use Rattle.uma_slabs.specs.Places.{KegPlaces, place_at, domain_at, slab_count, free_count, out_count, IsFree, KeepsSlabs, CountsOneOut}
use Rattle.uma_slabs.specs.Taking.{TakesPlaces, IsPartlyUsed}
use Rattle.uma_keg.specs.Keg.{places_in, zones_in, out_in, table_in, stored_in, HasZone}

-- An item is out in a zone: its deed is of the keg's book, its domain is its slab's, and it is the one that was at home. Its body, if the zone isn't 0, passed zone_init, and is as these hooks left it.
pub record IsTaken {T K : Type 0} {g : _} {h : _} (old : Keg T K g h) (hooks : K) (zone : ℕ) (item : Cached T g) : Type 0 where
  pub of_zone : cached_zone item ≡ zone
  pub of_book : cached_table item ≡ table_in old
  pub in_domain : domain_at (places_in old) (cached_no item / (places_in old).per_slab) ≡ Some (cached_domain item)
  pub stored : Stored T g
  pub was_home : stored_in old (cached_no item) ≡ Some stored
  pub primary : zone ≡ 0 → cached_body item ≡ stored_body stored
  pub entered : zone ≢ 0 → g.life (cached_body item) ≡ after (ZoneInit zone) (g.life (stored_body stored))
  pub left : zone ≢ 0 → h.leaves_init hooks (stored_body stored) zone (cached_body item)
  pub accepted : zone ≢ 0 → h.refuses_init hooks (stored_body stored) zone ≡ None

-- One item is out. Its number is the one of the taking rule, and all else stays.
pub record TakesItem {T K : Type 0} {g : _} {h : _} (old : Keg T K g h) (hooks : K) (zone : ℕ) (item : Cached T g) (new : Keg T K g h) : Type 0 where
  pub places : TakesPlaces (places_in old) (cached_no item) (places_in new)
  pub counts : CountsOneOut (places_in old) (places_in new)
  pub taken : IsTaken old hooks zone item
  pub zones : zones_in new ≡ slice_set (zones_in old) (cached_no item) (Some zone)
  pub out : out_in new zone ≡ out_in old zone + 1
  pub outs : (other : ℕ) → other ≢ zone → out_in new other ≡ out_in old other
  pub gone : stored_in new (cached_no item) ≡ None
  pub others : (n : ℕ) → n ≢ cached_no item → stored_in new n ≡ stored_in old n

-- the taking rule allows this number
pub record MayTake (k : KegPlaces) (n : ℕ) : Type 0 where
  pub free : IsFree k n
  pub least : (lower : ℕ) → lower < n → lower / k.per_slab ≡ n / k.per_slab → IsFree k lower → ⊥
  pub preferred : IsPartlyUsed k (n / k.per_slab) ⊎ ((index : ℕ) → IsPartlyUsed k index → ⊥)

-- zone_init refuses the item of a number that the taking rule allows, with a code
pub record RefusesItem {T K : Type 0} {g : _} {h : _} (keg : Keg T K g h) (hooks : K) (zone code : ℕ) : Type 0 where
  pub no : ℕ
  pub may : MayTake (places_in keg) no
  pub stored : Stored T g
  pub is_home : stored_in keg no ≡ Some stored
  pub secondary : zone ≢ 0
  pub refused : h.refuses_init hooks (stored_body stored) zone ≡ Some code
  pub is_code : IsCode code

-- each place is as before, and so are the counts
pub record SamePlaces (old new : KegPlaces) : Type 0 where
  pub slabs : KeepsSlabs old new
  pub places : (n : ℕ) → place_at new n ≡ place_at old n
  pub slabs_in : slab_count new ≡ slab_count old
  pub free : free_count new ≡ free_count old
  pub out : out_count new ≡ out_count old

-- No item moves, and all stays as it was.
pub record KeepsItems {T K : Type 0} {g : _} {h : _} (old new : Keg T K g h) : Type 0 where
  pub places : SamePlaces (places_in old) (places_in new)
  pub zones : zones_in new ≡ zones_in old
  pub stored : (n : ℕ) → stored_in new n ≡ stored_in old n

-- some item is free, and the zone is one of the eight and exists
pub record MayTakeItem {T K : Type 0} {g : _} {h : _} (keg : Keg T K g h) (zone : ℕ) : Type 0 where
  pub some : 0 < free_count (places_in keg)
  pub exists : HasZone keg zone
  pub in_range : zone < 8

-- The item that the taking rule allows is refused by zone_init, and stays.
pub record KeepsRefused {T K : Type 0} {g : _} {h : _} (old : Keg T K g h) (hooks : K) (zone code : ℕ) (new : Keg T K g h) : Type 0 where
  pub refused : RefusesItem old hooks zone code
  pub keeps : KeepsItems old new
