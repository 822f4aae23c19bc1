-- Own: which row of which cache it is, as contracts see it.
use Rattle.std.specs.Prelude.{ℕ}
use Rattle.smr_clock.specs.declared.clock.Setup.{Setup}
use Rattle.smr_clock.specs.Belongs.{TableId, clock_id}
use Rattle.uma_bucket.specs.Home.{Home}
use Rattle.uma_zone.specs.Zone.{zone_home}
use Rattle.name_cache.specs.declared.key.RowKey.{RowKey}

-- What never changes of a row: its clock, where its entries are at home, its number, and the version with which the cache got it.
pub record Identity : Type 0 where
  pub clock : TableId × Setup
  pub home : Home
  pub number : ℕ
  pub version : ℕ

-- the identity that a key names
abbrev pub key_identity : RowKey → Identity
key_identity key = record { clock = clock_id key.clock.value; home = zone_home key.zone.value; number = key.number; version = key.version }

abbrev pub identity : TableId × Setup → Home → ℕ → ℕ → Identity
identity clock home number version = record { clock = clock; home = home; number = number; version = version }
