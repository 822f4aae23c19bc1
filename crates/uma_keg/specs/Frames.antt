-- Own: what the calls of a keg leave of it as it was.
use Rattle.std.specs.Prelude.{◌≡◌, ℕ}
use Rattle.uma_bucket.specs.declared.bucket.Bucket.{Bucket}
use Rattle.uma_bucket.specs.Bucket.{size_of}
use Rattle.uma_keg.specs.declared.keg.Keg.{Keg}
use Rattle.uma_keg.specs.Keg.{places_in, zones_in, rights_in, stored_in, limit_in, fetches_in, buried_in, IsSameKeg}

-- slabs that come in or go move no number in or out, and leave the zones with their limits and fetches
pub record KeepsButSlabs {T K : Type 0} {g : _} {h : _} (old new : Keg T K g h) : Type 0 where
  pub zones : zones_in new ≡ zones_in old
  pub rights : rights_in new ≡ rights_in old
  pub limits : (zone : ℕ) → limit_in new zone ≡ limit_in old zone
  pub fetches : (zone : ℕ) → fetches_in new zone ≡ fetches_in old zone
  pub same : IsSameKeg old new

-- items that are taken out leave all but the places, the numbers outside and the items at home
pub record KeepsButItems {T K : Type 0} {g : _} {h : _} (old new : Keg T K g h) : Type 0 where
  pub rights : rights_in new ≡ rights_in old
  pub limits : (zone : ℕ) → limit_in new zone ≡ limit_in old zone
  pub fetches : (zone : ℕ) → fetches_in new zone ≡ fetches_in old zone
  pub buried : buried_in new ≡ buried_in old
  pub same : IsSameKeg old new

-- and the bucket that they are put into is as large as it was
pub record KeepsButTaken {T K : Type 0} {g : _} {h : _} (old new : Keg T K g h) (before after : Bucket T g) : Type 0 where
  pub keg : KeepsButItems old new
  pub size : size_of after ≡ size_of before

-- all items are where they were
pub record IsUnmoved {T K : Type 0} {g : _} {h : _} (old new : Keg T K g h) : Type 0 where
  pub places : places_in new ≡ places_in old
  pub zones : zones_in new ≡ zones_in old
  pub stored : (n : ℕ) → stored_in new n ≡ stored_in old n
  pub buried : buried_in new ≡ buried_in old

-- and all else of the keg is as it was
pub record IsUnchanged {T K : Type 0} {g : _} {h : _} (old new : Keg T K g h) : Type 0 where
  pub unmoved : IsUnmoved old new
  pub rights : rights_in new ≡ rights_in old
  pub limits : (zone : ℕ) → limit_in new zone ≡ limit_in old zone
  pub fetches : (zone : ℕ) → fetches_in new zone ≡ fetches_in old zone
  pub same : IsSameKeg old new
