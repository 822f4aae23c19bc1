-- The slabs of one keg and which of their places are free. An item's number is its slab's index times the places of
-- a slab, plus its place in the slab (own). A number is out where its slab is in and its place isn't free.
use Rattle.std.specs.Prelude.{◌≡◌, ◌≢◌, ℕ, ◌+◌, ◌*◌, ◌/◌, ◌%◌, ◌^◌, ◌<◌, ◌≤◌, Bool, true, false, not, List, Option, Some, None, IsSome, is_some, option_map, option_and_then, slice_get, slice_index_or, sum_by, count_by}

-- a slab that is in: the memory domain of the seat that asked for it, and of each place whether it is free
pub record Slab : Type 0 where
  pub domain : ℕ
  pub free : List Bool

-- how many places a slab has, how many slabs may be in, how many were ever brought in, and the slabs by their index,
-- None where no slab of that index is in
pub record KegPlaces : Type 0 where
  pub per_slab : ℕ
  pub cap : ℕ
  pub made : ℕ
  pub slabs : List (Option Slab)

-- the slab of this index, if it is in
abbrev pub slab_at : KegPlaces → ℕ → Option Slab
slab_at k index = slice_index_or k.slabs index None

-- the domain of the slab of this index, if it is in
unfoldable pub domain_at : KegPlaces → ℕ → Option ℕ
domain_at k index = option_map (λ s. s.domain) (slab_at k index)

-- whether the place of this number is free, if its slab is in
unfoldable pub place_at : KegPlaces → ℕ → Option Bool
place_at k n = option_and_then (λ s. slice_get s.free (n % k.per_slab)) (slab_at k (n / k.per_slab))

-- a slab of this index is in
abbrev pub IsIn : KegPlaces → ℕ → Type 0
IsIn k index = IsSome (domain_at k index)

-- the place of this number is free
abbrev pub IsFree : KegPlaces → ℕ → Type 0
IsFree k n = place_at k n ≡ Some true

-- this number is out: its slab is in and its place isn't free
abbrev pub IsOut : KegPlaces → ℕ → Type 0
IsOut k n = place_at k n ≡ Some false

-- how many places of a slab pass the test: 0 where no slab is in
abbrev pub places_by : (Bool → Bool) → Option Slab → ℕ
places_by test None = 0
places_by test (Some s) = count_by test s.free

-- how many slabs are in
unfoldable pub slab_count : KegPlaces → ℕ
slab_count k = count_by is_some k.slabs

-- how many places are free
unfoldable pub free_count : KegPlaces → ℕ
free_count k = sum_by (places_by (λ free. free)) k.slabs

-- how many numbers are out
unfoldable pub out_count : KegPlaces → ℕ
out_count k = sum_by (places_by not) k.slabs

-- What holds of every keg: the bounds of its size (own); each place of a slab that is in is free or out, and they add
-- up; each number is below the places of all the slabs that may be in; and the slabs ever made stay so few that their
-- count never comes to its end (own).
pub record IsSound (k : KegPlaces) : Type 0 where
  pub some_place : 1 ≤ k.per_slab
  pub few_places : k.per_slab ≤ 256
  pub some_slab : 1 ≤ k.cap
  pub few_slabs : k.cap ≤ 1024
  pub slabs : slab_count k ≤ k.cap
  pub places : out_count k + free_count k ≡ slab_count k * k.per_slab
  pub whole : (n : ℕ) → IsIn k (n / k.per_slab) → IsSome (place_at k n)
  pub numbers : (n : ℕ) → IsSome (place_at k n) → n < k.cap * k.per_slab
  pub made : k.made + k.cap ≤ slab_count k + 2 ^ 40

-- a keg whose slabs have so many places, with room for so many slabs, and none in
pub record IsNew (places most : ℕ) (k : KegPlaces) : Type 0 where
  pub per_slab : k.per_slab ≡ places
  pub cap : k.cap ≡ most
  pub made : k.made ≡ 0
  pub absent : (index : ℕ) → domain_at k index ≡ None
  pub nowhere : (n : ℕ) → place_at k n ≡ None
  pub slabs : slab_count k ≡ 0
  pub free : free_count k ≡ 0
  pub out : out_count k ≡ 0

-- the size of the keg, and its slabs with their domains, are as before
pub record KeepsSlabs (old new : KegPlaces) : Type 0 where
  pub per_slab : new.per_slab ≡ old.per_slab
  pub cap : new.cap ≡ old.cap
  pub made : new.made ≡ old.made
  pub domains : (index : ℕ) → domain_at new index ≡ domain_at old index

-- each place but that of number n is as before
abbrev pub KeepsOthers : KegPlaces → ℕ → KegPlaces → Type 0
KeepsOthers old n new = (other : ℕ) → other ≢ n → place_at new other ≡ place_at old other

-- one more number is out, and one place less is free
pub record CountsOneOut (old new : KegPlaces) : Type 0 where
  pub slabs : slab_count new ≡ slab_count old
  pub free : free_count new + 1 ≡ free_count old
  pub out : out_count new ≡ out_count old + 1

-- one more slab is in, and all its places are free
pub record CountsOneSlab (old new : KegPlaces) : Type 0 where
  pub slabs : slab_count new ≡ slab_count old + 1
  pub free : free_count new ≡ free_count old + old.per_slab
  pub out : out_count new ≡ out_count old

-- A new, wholly free slab of domain d is brought in at the least index that isn't in (own). All else stays.
pub record Brings (old : KegPlaces) (d index : ℕ) (new : KegPlaces) : Type 0 where
  pub within : index < old.cap
  pub absent : domain_at old index ≡ None
  pub least : (lower : ℕ) → lower < index → IsIn old lower
  pub domain : domain_at new index ≡ Some d
  pub free : (n : ℕ) → n / old.per_slab ≡ index → IsFree new n
  pub other_slabs : (other : ℕ) → other ≢ index → domain_at new other ≡ domain_at old other
  pub other_places : (n : ℕ) → n / old.per_slab ≢ index → place_at new n ≡ place_at old n
  pub per_slab : new.per_slab ≡ old.per_slab
  pub cap : new.cap ≡ old.cap
  pub made : new.made ≡ old.made + 1

-- Number n, which was out, comes back: its place is free, and all else stays.
pub record Gives (old : KegPlaces) (n : ℕ) (new : KegPlaces) : Type 0 where
  pub out : IsOut old n
  pub free : IsFree new n
  pub others : KeepsOthers old n new
  pub slabs : KeepsSlabs old new
