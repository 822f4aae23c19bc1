-- Own: what a keg keeps whenever its lock is free.
use Rattle.std.specs.Prelude.{◌≡◌, ◌<◌, ◌/◌, ℕ, [], Some, map, min}
use Rattle.deed_book.specs.Book.{book_table}
use Rattle.uma_slabs.specs.Places.{KegPlaces, domain_at}
use Rattle.uma_keg.specs.declared.keg.Keg.{Keg}
use Rattle.uma_keg.specs.Keg.{places_in, table_in, rights_in, size_in, reserve_in, fetches_in}
use Rattle.locked_keg.specs.declared.locked_keg.KegKey.{KegKey}
use Rattle.locked_keg.specs.declared.locked_keg.LockedKeg.{LockedKeg}
use Rattle.locked_keg.specs.Ends.{fetch_cause}
use Rattle.locked_keg.specs.FailBooks.{table_at, causes_at}
use Rattle.locked_keg.specs.Key.{key_numbers, key_rights, key_fails, IsKeyOf}
use Rattle.locked_keg.specs.LockedKeg.{keg_in, fails_in}

-- the slabs that are in are of the domains below this count
pub record HasDomainsBelow (domains : ℕ) (places : KegPlaces) : Type 0 where
  pub each : (index domain : ℕ) → domain_at places index ≡ Some domain → domain < domains

module _ {T K : Type 0} {g : _} {h : _} where
  -- it is the keg that the key names, with its fail books
  pub record IsOfKey (key : KegKey) (locked : LockedKeg T K g h) : Type 0 where
    pub numbers : table_in (keg_in locked) ≡ key_numbers key
    pub rights : book_table (rights_in (keg_in locked)) ≡ key_rights key
    pub fails : (zone : ℕ) → table_at (fails_in locked) zone ≡ key_fails key zone
    pub size : size_in (keg_in locked) ≡ key.size
    pub per_slab : (places_in (keg_in locked)).per_slab ≡ min 256 (4096 / key.size)
    pub cap : (places_in (keg_in locked)).cap ≡ key.cap
    pub reserve : reserve_in (keg_in locked) ≡ key.reserve

  -- The book of each zone lists the fetches of the zone, each by its end, as the keg itself remembers them.
  pub record ListsFetches (locked : LockedKeg T K g h) : Type 0 where
    pub each : (zone : ℕ) → causes_at (fails_in locked) zone ≡ map fetch_cause (fetches_in (keg_in locked) zone)

  -- 1. It is the keg that the key names.
  -- 2. The fail books list exactly the keg's own fetches.
  -- 3. Its slabs are of the domains that the key counts.
  pub record Keeps (key : KegKey) (locked : LockedKeg T K g h) : Type 0 where
    pub of_key : IsOfKey key locked
    pub counted : ListsFetches locked
    pub domains : HasDomainsBelow key.domains (places_in (keg_in locked))

  -- it has this keg, and fail books that list nothing, as the keg fetched nothing
  pub record IsNewLocked (of : Keg T K g h) (locked : LockedKeg T K g h) : Type 0 where
    pub keg : keg_in locked ≡ of
    pub causes : (zone : ℕ) → causes_at (fails_in locked) zone ≡ []
    pub listed : ListsFetches locked

  -- its slabs are of so many domains, with as many places as the size of an item allows, and its books list its fetches
  pub record MayLockUp (locked : LockedKeg T K g h) (most : ℕ) : Type 0 where
    pub per_slab : (places_in (keg_in locked)).per_slab ≡ min 256 (4096 / size_in (keg_in locked))
    pub domains : HasDomainsBelow most (places_in (keg_in locked))
    pub listed : ListsFetches locked

  -- the key of its lock names it, with its fail books
  pub record IsLockedBy (locked : LockedKeg T K g h) (most : ℕ) (by : KegKey) : Type 0 where
    pub key : IsKeyOf (keg_in locked) most by
    pub fails : (zone : ℕ) → key_fails by zone ≡ table_at (fails_in locked) zone
