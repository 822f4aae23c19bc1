-- What the calls of a keg's places answer.
use Rattle.std.specs.Prelude.{◌≡◌, ◌≢◌, ℕ, ◌*◌, ◌<◌, ◌≤◌, ◌/◌, ◌⊎◌, ◌↔◌, min, Option, IsNone, IfSome, IfNone, OnSome, Result, IsOk, IfOk, IfErr, OnOk, OnErr}
use Rattle.zone_stats.specs.declared.refusal.Refusal.{Refusal}
use Rattle.zone_stats.specs.declared.refusal.Refusal.TheVariants.{Full}
use Rattle.uma_slabs.specs.declared.places.KegCounts.{KegCounts}
use Rattle.uma_slabs.specs.declared.places.KegRefused.{KegRefused}
use Rattle.uma_slabs.specs.Dropping.{Drops, IsUsedUp, HasNoneWhollyFree}
use Rattle.uma_slabs.specs.Places.{KegPlaces, slab_count, free_count, IsFree, IsOut, IsSound, IsNew, Brings, Gives, CountsOneOut, CountsOneSlab}
use Rattle.uma_slabs.specs.Refused.{IsItemSize, IsSlabCount, IsRefusedFor}
use Rattle.uma_slabs.specs.Taking.{TakesPlaces}
use Rattle.uma_slabs.specs.UsedPlaces.{AreEven}

-- how many places a slab has for items of this size: 1 to 256
pub record ArePlacesOf (size answer : ℕ) : Type 0 where
  pub places : answer ≡ min 256 (4096 / size)
  pub some : 1 ≤ answer
  pub few : answer ≤ 256

-- a keg is new, and sound
pub record IsEmptyKeg (places most : ℕ) (k : KegPlaces) : Type 0 where
  pub new : IsNew places most k
  pub sound : IsSound k

-- a new keg for items of this size, or not
pub record MakesPlaces (size most : ℕ) (answer : Result KegPlaces KegRefused) : Type 0 where
  pub new : IfOk answer (IsNew (min 256 (4096 / size)) most)
  pub sound : IfOk answer IsSound
  pub accepted : OnOk answer (IsItemSize size × IsSlabCount most)
  pub refused : IfErr answer (IsRefusedFor size most)

-- A slab of the domain was brought in, or as many are in as may be. The same numbers are out.
pub record BringsOrNot (old : KegPlaces) (domain : ℕ) (answer : Result ℕ Refusal) (new : KegPlaces) : Type 0 where
  pub brings : IfOk answer (λ index. Brings old domain index new)
  pub counts : OnOk answer (CountsOneSlab old new)
  pub outs : OnOk answer ((n : ℕ) → IsOut new n ↔ IsOut old n)
  pub room : IsOk answer ↔ (slab_count old < old.cap)
  pub full : IfErr answer (λ why. (why ≡ Full old.cap old.made) × (slab_count old ≡ old.cap))
  pub unchanged : OnErr answer (new ≡ old)
  pub sound : IsSound new

-- A number was taken, or no place is free.
pub record TakesOrNot (old : KegPlaces) (answer : Option ℕ) (new : KegPlaces) : Type 0 where
  pub takes : IfSome answer (λ n. TakesPlaces old n new)
  pub counts : OnSome answer (CountsOneOut old new)
  pub outs : IfSome answer (λ n. (other : ℕ) → IsOut new other ↔ (IsOut old other ⊎ (other ≡ n)))
  pub within : IfSome answer (λ n. n < new.cap * new.per_slab)
  pub none_exactly : IsNone answer ↔ (free_count old ≡ 0)
  pub none : IfNone answer ((n : ℕ) → IsFree old n → ⊥)
  pub unchanged : IfNone answer (new ≡ old)
  pub sound : IsSound new

-- The number came back.
pub record GivesOne (old : KegPlaces) (n : ℕ) (new : KegPlaces) : Type 0 where
  pub gives : Gives old n new
  pub counts : CountsOneOut new old
  pub outs : (other : ℕ) → IsOut new other ↔ (IsOut old other × (other ≢ n))
  pub sound : IsSound new

-- A slab was given up, or none is wholly free, or none is given up any more. The same numbers are out.
pub record DropsOrNot (old : KegPlaces) (answer : Option ℕ) (new : KegPlaces) : Type 0 where
  pub drops : IfSome answer (λ index. Drops old index new)
  pub counts : OnSome answer (CountsOneSlab new old)
  pub outs : OnSome answer ((n : ℕ) → IsOut new n ↔ IsOut old n)
  pub none_exactly : IsNone answer ↔ (IsUsedUp old ⊎ HasNoneWhollyFree old)
  pub unchanged : IfNone answer (new ≡ old)
  pub sound : IsSound new

-- The counts are those of the keg, which is sound, and its slabs are alike.
pub record AreCountsOf (k : KegPlaces) (shown : KegCounts) : Type 0 where
  pub slabs : shown.slabs ≡ slab_count k
  pub cap : shown.cap ≡ k.cap
  pub made : shown.made ≡ k.made
  pub free : shown.free ≡ free_count k
  pub per_slab : shown.per_slab ≡ k.per_slab
  pub reserve : shown.reserve ≡ 0
  pub sound : IsSound k
  pub even : AreEven k
