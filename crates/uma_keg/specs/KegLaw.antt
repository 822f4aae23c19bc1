-- The law of a keg: its places, its book of numbers, its items and its zones agree between any two calls. That an item is in its keg or has one holder outside is the rule of FreeBSD's uma(9).
use Rattle.std.specs.Prelude.{◌≡◌, ◌<◌, ◌*◌, ℕ, Bool, true, false, List, Option, Some, None, is_some, length, slice_index_or}
use Rattle.deed_book.specs.BookLaw.{IsHome}
use Rattle.uma_life.specs.declared.states.Stored.{Stored}
use Rattle.uma_life.specs.Stored.{stored_no, stored_origin}
use Rattle.uma_keg.specs.declared.home_items.HomeItems.{HomeItems}
use Rattle.uma_slabs.specs.Places.{KegPlaces, place_at, domain_at}
use Rattle.uma_keg.specs.HomeItems.{item_at, has_slab, slab_room, places_each}
use Rattle.uma_keg.specs.Outs.{out_of}

-- the zone of a number that is outside
abbrev pub zone_at : List (Option ℕ) → ℕ → Option ℕ
zone_at zones n = slice_index_or zones n None

-- a place of a slab that is in, whose number is out
abbrev pub is_used_place : Option Bool → Bool
is_used_place (Some false) = true
is_used_place _ = false

-- a free place of a slab that is in
abbrev pub is_free_place : Option Bool → Bool
is_free_place (Some true) = true
is_free_place _ = false

-- 1. The slabs at home are those of the places: as many, as large, and one for each slab that is in.
-- 2. A place of a slab that is in is used exactly where its number is in the map, and every number of the map is of a slab that is in.
-- 3. A place of a slab that is in is free exactly where the item of its number is at home.
-- 4. An item at home has its number.
pub record PlacesLaw {T : Type 0} {g : _} (places : KegPlaces) (zones : List (Option ℕ)) (home_items : HomeItems T g) : Type 0 where
  pub per_slab : places_each home_items ≡ places.per_slab
  pub cap : slab_room home_items ≡ places.cap
  pub numbers : length zones ≡ places.cap * places.per_slab
  pub slabs : (index : ℕ) → has_slab home_items index ≡ is_some (domain_at places index)
  pub outside : (n : ℕ) → is_some (zone_at zones n) ≡ is_used_place (place_at places n)
  pub home : (n : ℕ) → is_some (item_at home_items n) ≡ is_free_place (place_at places n)
  pub numbered : (n : ℕ) (item : Stored T g) → item_at home_items n ≡ Some item → stored_no item ≡ n

-- each item at home is of this origin
abbrev pub AreOfOrigin : {T : Type 0} {g : _} → List ℕ → HomeItems T g → Type 0
AreOfOrigin {T} {g} origin home_items = (n : ℕ) (item : Stored T g) → item_at home_items n ≡ Some item → stored_origin item ≡ origin

-- 1. There are eight rights and as many limits.
-- 2. No item is outside in a zone that doesn't exist. A zone exists exactly where its right is at home.
pub record ZonesLaw (zones rights : List (Option ℕ)) (limits : List ℕ) : Type 0 where
  pub eight_rights : length rights ≡ 8
  pub eight_limits : length limits ≡ 8
  pub absent : (zone : ℕ) → zone < 8 → (IsHome rights zone → ⊥) → out_of zones zone ≡ 0
