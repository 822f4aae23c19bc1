-- Own: what is known of a zone's keg through its lock.
use Rattle.std.specs.Prelude.{◌≡◌, ◌/◌, Some, min}
use Rattle.deed_book.specs.Book.{book_table}
use Rattle.uma_keg.specs.Keg.{places_in, table_in, rights_in, reserve_in}
use Rattle.locked_keg.specs.declared.locked_keg.KegKey.{KegKey}
use Rattle.locked_keg.specs.declared.locked_keg.LockedKeg.{LockedKeg}
use Rattle.locked_keg.specs.FailBooks.{table_at}
use Rattle.locked_keg.specs.Key.{key_rights}
use Rattle.locked_keg.specs.LockedKeg.{keg_in, fails_in}
use Rattle.locked_keg.specs.Rule.{Keeps, HasDomainsBelow}
use Rattle.uma_zone.specs.declared.zone.Zone.{Zone}
use Rattle.uma_zone.specs.Zone.{zone_key, zone_index, zone_home, zone_fails, zone_size, zone_cap, zone_reserve}

module _ {T K H P : Type 0} {g k h : _} where
  -- A lock with this key is that of the zone's keg, and this lies behind it: the keg has the numbers that the zone names, and the zone's fail book.
  pub record LocksKeg (zone : Zone T K H P g k h) (by : KegKey) (locked : LockedKeg T K g k) : Type 0 where
    pub kept : Keeps by locked
    pub key : by ≡ zone_key zone
    pub numbers : table_in (keg_in locked) ≡ (zone_home zone).book
    pub rights : book_table (rights_in (keg_in locked)) ≡ key_rights (zone_key zone)
    pub fails : table_at (fails_in locked) (zone_index zone) ≡ Some (zone_fails zone)
    pub domains : HasDomainsBelow (zone_home zone).domains (places_in (keg_in locked))
    pub cap : (places_in (keg_in locked)).cap ≡ zone_cap zone
    pub reserve : reserve_in (keg_in locked) ≡ zone_reserve zone
    pub per_slab : (places_in (keg_in locked)).per_slab ≡ min 256 (4096 / zone_size zone)
