-- What becomes of a keg where several items are taken from it for a zone, one after the other.
use Rattle.std.specs.Prelude.{◌≡◌, ◌≢◌, ◌≤◌, ◌<◌, ◌+◌, ◌⊎◌, ℕ, List, [], ◌∷◌, ◌++◌, Option, Some, None, All, length, map, slice_set}
use Rattle.uma_life.specs.declared.states.Cached.{Cached}
use Rattle.uma_life.specs.Cached.{cached_no}
use Rattle.uma_bucket.specs.declared.bucket.Bucket.{Bucket}
use Rattle.uma_bucket.specs.Bucket.{items_of, size_of}
use Rattle.uma_keg.specs.declared.keg.Keg.{Keg}
use Rattle.uma_slabs.specs.Places.{KegPlaces, slab_count, free_count, out_count, KeepsSlabs}
use Rattle.uma_slabs.specs.Taking.{TakesPlaces}
use Rattle.uma_keg.specs.Keg.{places_in, zones_in, out_in, stored_in, HasZone}
use Rattle.uma_keg.specs.TakeItem.{IsTaken, RefusesItem, KeepsItems}

-- each of these numbers is the one of the taking rule, from what those before it left
abbrev pub TakesAll : KegPlaces → List ℕ → KegPlaces → Type 0
TakesAll old [] new = new ≡ old
TakesAll old (n ∷ rest) new = (left : KegPlaces) × TakesPlaces old n left × TakesAll left rest new

-- the zones of the numbers outside, once these are outside in a zone too
abbrev pub zones_with : List (Option ℕ) → ℕ → List ℕ → List (Option ℕ)
zones_with zones zone [] = zones
zones_with zones zone (n ∷ rest) = zones_with (slice_set zones n (Some zone)) zone rest

-- the number is one of these
abbrev pub IsAmong : ℕ → List ℕ → Type 0
IsAmong n [] = ⊥
IsAmong n (m ∷ rest) = (n ≡ m) ⊎ IsAmong n rest

-- the numbers of items
abbrev pub numbers_of : {T : Type 0} {g : _} → List (Cached T g) → List ℕ
numbers_of items = map cached_no items

-- so many numbers more are out, and as many places fewer are free
pub record CountsOut (old : KegPlaces) (count : ℕ) (new : KegPlaces) : Type 0 where
  pub slabs : slab_count new ≡ slab_count old
  pub free : free_count new + count ≡ free_count old
  pub out : out_count new ≡ out_count old + count

-- These items are out, by the taking rule one after the other, and all else stays.
pub record TakesItems {T K : Type 0} {g : _} {h : _} (old : Keg T K g h) (hooks : K) (zone : ℕ) (items : List (Cached T g)) (new : Keg T K g h) : Type 0 where
  pub places : TakesAll (places_in old) (numbers_of items) (places_in new)
  pub slabs : KeepsSlabs (places_in old) (places_in new)
  pub counts : CountsOut (places_in old) (length items) (places_in new)
  pub each : All (IsTaken old hooks zone) items
  pub zones : zones_in new ≡ zones_with (zones_in old) zone (numbers_of items)
  pub out : out_in new zone ≡ out_in old zone + length items
  pub outs : (other : ℕ) → other ≢ zone → out_in new other ≡ out_in old other
  pub gone : (n : ℕ) → IsAmong n (numbers_of items) → stored_in new n ≡ None
  pub others : (n : ℕ) → (IsAmong n (numbers_of items) → ⊥) → stored_in new n ≡ stored_in old n

-- so many items were taken, and are on top of what was there
pub record TakesInto {T K : Type 0} {g : _} {h : _} (old : Keg T K g h) (hooks : K) (zone count : ℕ) (before after : List (Cached T g)) (new : Keg T K g h) : Type 0 where
  pub items : List (Cached T g)
  pub takes : TakesItems old hooks zone items new
  pub counted : length items ≡ count
  pub pushed : after ≡ before ++ items

-- so many items were taken, fewer than were wanted, where zone_init refused the next one
pub record StopsAtItem {T K : Type 0} {g : _} {h : _} (old : Keg T K g h) (hooks : K) (zone count taken code : ℕ) (before after : List (Cached T g)) (new : Keg T K g h) : Type 0 where
  pub fewer : taken < count
  pub left : Keg T K g h
  pub takes : TakesInto old hooks zone taken before after left
  pub refused : RefusesItem left hooks zone code
  pub keeps : KeepsItems left new

-- so many items are free, the zone is one of the eight and exists, and the bucket has room for them
pub record MayTakeItems {T K : Type 0} {g : _} {h : _} (keg : Keg T K g h) (zone count : ℕ) (into : Bucket T g) : Type 0 where
  pub free : count ≤ free_count (places_in keg)
  pub exists : HasZone keg zone
  pub in_range : zone < 8
  pub room : length (items_of into) + count ≤ size_of into
