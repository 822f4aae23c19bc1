-- Own: what a new limit does to the keg of its zone.
use Rattle.std.specs.Prelude.{◌≡◌, ℕ}
use Rattle.uma_keg.specs.declared.keg.Keg.{Keg}
use Rattle.uma_keg.specs.Keg.{table_in, limit_in}
use Rattle.uma_keg.specs.SetLimit.{SetsLimit}
use Rattle.uma_zone.specs.declared.zone.Zone.{Zone}
use Rattle.uma_zone.specs.Zone.{zone_home, zone_index}

module _ {T K H P : Type 0} {g k h : _} where
  -- The zone has this limit in its keg, as that stood under its lock, and nothing else of the keg changed. The former one is what it had there.
  pub record SetsMax (zone : Zone T K H P g k h) (limit former : ℕ) : Type 0 where
    pub was : Keg T K g k
    pub is : Keg T K g k
    pub of_zone : table_in was ≡ (zone_home zone).book
    pub sets : SetsLimit was (zone_index zone) limit is
    pub answer : former ≡ limit_in was (zone_index zone)
