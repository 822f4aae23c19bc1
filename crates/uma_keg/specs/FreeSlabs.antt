-- How a keg gives up slabs. That a slab whose items are all free may be given up, that keg_fini runs on each of them, and that the reserve is kept, is the rule of FreeBSD's uma(9); the greatest index first, and how many are given up at once, are own.
use Rattle.std.specs.Prelude.{◌≡◌, ◌≢◌, ◌≤◌, ◌<◌, ◌+◌, ◌-◌, ◌*◌, ◌/◌, ◌^◌, ◌⊎◌, ◌↔◌, ℕ, Bool, ◌&&◌, ◌==◌, nat_lt, min, if◌then◌else◌, Option, Some, None, IsNone, IfSome, IfNone, is_some}
use Rattle.uma_life.specs.declared.states.Stored.{Stored}
use Rattle.uma_life.specs.Hook.{Hook}
use Rattle.uma_life.specs.Sum.{sum_of}
use Rattle.uma_keg.specs.declared.keg.Keg.{Keg}
use Rattle.uma_slabs.specs.Places.{KegPlaces, place_at, domain_at, slab_count, free_count, out_count, CountsOneSlab}
use Rattle.uma_slabs.specs.Dropping.{IsWhollyFree, IsUsedUp, HasNoneWhollyFree, Drops}
use Rattle.uma_keg.specs.KegLaw.{is_free_place}
use Rattle.uma_keg.specs.Tallies.{ended_times, sum_below}
use Rattle.uma_keg.specs.Ended.{IsEndedAt}
use Rattle.uma_keg.specs.Frames.{IsUnmoved}
use Rattle.uma_keg.specs.Keg.{places_in, stored_in, hooks_in, buried_in, reserve_in}

-- the slab of this index is wholly free, and its index is at least the one that the giving up went down to
pub record Goes (old : KegPlaces) (from index : ℕ) : Type 0 where
  pub above : from ≤ index
  pub whole : IsWhollyFree old index

-- The wholly free slabs from one index on are given up, and no other. All else stays.
pub record DropsFrom (old : KegPlaces) (from : ℕ) (new : KegPlaces) : Type 0 where
  pub absent : (index : ℕ) → Goes old from index → domain_at new index ≡ None
  pub nowhere : (n : ℕ) → Goes old from (n / old.per_slab) → place_at new n ≡ None
  pub other_slabs : (index : ℕ) → (Goes old from index → ⊥) → domain_at new index ≡ domain_at old index
  pub other_places : (n : ℕ) → (Goes old from (n / old.per_slab) → ⊥) → place_at new n ≡ place_at old n
  pub per_slab : new.per_slab ≡ old.per_slab
  pub cap : new.cap ≡ old.cap
  pub made : new.made ≡ old.made

-- so many slabs fewer are in, and all their places were free
pub record CountsFewer (old : KegPlaces) (count : ℕ) (new : KegPlaces) : Type 0 where
  pub slabs : slab_count new + count ≡ slab_count old
  pub free : free_count new + count * old.per_slab ≡ free_count old
  pub out : out_count new ≡ out_count old

-- how often the item of a place passed a hook, once it is ended, if it was at home and isn't any more
abbrev pub times_gone : {T : Type 0} {g : _} → Hook → Option (Stored T g) → Option (Stored T g) → ℕ
times_gone hook old (Some _) = 0
times_gone hook old None = ended_times hook old

-- the items that aren't at home any more were ended, and their tallies added to the buried
abbrev pub BuriesGone : {T K : Type 0} {g : _} {h : _} → Keg T K g h → Keg T K g h → Type 0
BuriesGone old new =
    (hook : Hook) → sum_of (buried_in new) hook ≡ sum_of (buried_in old) hook + sum_below (λ n. times_gone hook (stored_in old n) (stored_in new n)) ((places_in old).cap * (places_in old).per_slab)

-- what keg_fini of the keg's own hooks leaves of a body
abbrev pub FiniLeaves : {T K : Type 0} {g : _} {h : _} → Keg T K g h → T → T → Type 0
FiniLeaves {T} {K} {g} {h} keg body gone = h.leaves_fini (hooks_in keg) body 0 gone

-- So many slabs were given up: the wholly free ones from one index on. Their items were ended, and each other item is where it was.
pub record FreesSlabs {T K : Type 0} {g : _} {h : _} (old : Keg T K g h) (count : ℕ) (new : Keg T K g h) : Type 0 where
  pub from : ℕ
  pub places : DropsFrom (places_in old) from (places_in new)
  pub counts : CountsFewer (places_in old) count (places_in new)
  pub gone : (n : ℕ) → Goes (places_in old) from (n / (places_in old).per_slab) → stored_in new n ≡ None
  pub ended : (n : ℕ) → Goes (places_in old) from (n / (places_in old).per_slab) → IsEndedAt (FiniLeaves old) (stored_in old n)
  pub others : (n : ℕ) → (Goes (places_in old) from (n / (places_in old).per_slab) → ⊥) → stored_in new n ≡ stored_in old n
  pub buried : BuriesGone old new

-- Why no further slab is given up: too many were ever brought in, or none is wholly free, or one more would leave fewer free items than the reserve.
abbrev pub GivesNoMore : {T K : Type 0} {g : _} {h : _} → Keg T K g h → Type 0
GivesNoMore keg = IsUsedUp (places_in keg) ⊎ HasNoneWhollyFree (places_in keg) ⊎ (free_count (places_in keg) < reserve_in keg + (places_in keg).per_slab)

-- The wholly free slab of greatest index was given up. Its items were ended, and each other item is where it was.
pub record FreesSlab {T K : Type 0} {g : _} {h : _} (old : Keg T K g h) (index : ℕ) (new : Keg T K g h) : Type 0 where
  pub places : Drops (places_in old) index (places_in new)
  pub counts : CountsOneSlab (places_in new) (places_in old)
  pub gone : (n : ℕ) → n / (places_in old).per_slab ≡ index → stored_in new n ≡ None
  pub ended : (n : ℕ) → n / (places_in old).per_slab ≡ index → IsEndedAt (FiniLeaves old) (stored_in old n)
  pub others : (n : ℕ) → n / (places_in old).per_slab ≢ index → stored_in new n ≡ stored_in old n
  pub buried : BuriesGone old new

-- how many numbers below one pass a test
abbrev pub count_below : (ℕ → Bool) → ℕ → ℕ
count_below test n = sum_below (λ i. if test i then 1 else 0) n

-- how many places of the slab of this index are free
unfoldable pub free_places : KegPlaces → ℕ → ℕ
free_places k index = count_below (λ place. is_free_place (place_at k (index * k.per_slab + place))) k.per_slab

-- the slab of this index is in, and all its places are free
abbrev pub is_wholly_free : KegPlaces → ℕ → Bool
is_wholly_free k index = is_some (domain_at k index) && (free_places k index == k.per_slab)

-- how many slabs are wholly free
unfoldable pub wholly_free_count : KegPlaces → ℕ
wholly_free_count k = count_below (is_wholly_free k) k.cap

-- How many slabs a keg with such a reserve gives up at once: as many as lie whole in what is free beyond the reserve, where so many are wholly free, and else those that are. None once too many were ever brought in.
unfoldable pub slabs_to_free : KegPlaces → ℕ → ℕ
slabs_to_free k reserve = if nat_lt (2 ^ 40 - k.cap) k.made then 0 else min ((free_count k - reserve) / k.per_slab) (wholly_free_count k)

-- So many slabs are given up at once. The reserve stays, none goes where too many were ever brought in, and no further one may go.
pub record FreesAtOnce {T K : Type 0} {g : _} {h : _} (old : Keg T K g h) (slabs : ℕ) (new : Keg T K g h) : Type 0 where
  pub freed : FreesSlabs old slabs new
  pub count : slabs ≡ slabs_to_free (places_in old) (reserve_in old)
  pub reserve : 0 < slabs → reserve_in old ≤ free_count (places_in new)
  pub used_up : IsUsedUp (places_in old) → slabs ≡ 0
  pub no_more : GivesNoMore new

-- The wholly free slab of greatest index is given up, and its index answered; or there is none that may go, and no item moves.
pub record FreesGreatest {T K : Type 0} {g : _} {h : _} (old : Keg T K g h) (end : Option ℕ) (new : Keg T K g h) : Type 0 where
  pub freed : IfSome end (λ index. FreesSlab old index new)
  pub unmoved : IfNone end (IsUnmoved old new)
  pub none_exactly : IsNone end ↔ (IsUsedUp (places_in old) ⊎ HasNoneWhollyFree (places_in old))
