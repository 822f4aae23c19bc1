-- Own: which rows a list of locks is of.
use Rattle.std.specs.Prelude.{◌≡◌, ℕ, List}
use mathlib.Core.Option.{some}
use lib.ListN.{get_elem?}
use Rattle.keyed_lock.specs.KeyedLock.{lock_key}
use Rattle.keyed_lock.specs.declared.lock.KeyedLock.{KeyedLock}
use Rattle.smr_clock.specs.declared.clock.Setup.{Setup}
use Rattle.smr_clock.specs.Belongs.{TableId}
use Rattle.uma_bucket.specs.Home.{Home}
use Rattle.name_cache.specs.declared.key.RowKey.{RowKey}
use Rattle.name_cache.specs.declared.locked_row.LockedRow.{LockedRow}
use Rattle.name_cache.specs.declared.locked_row.RowOfKey.{RowOfKey}
use Rattle.name_cache.specs.RowKey.{key_identity, identity}

abbrev pub RowLock : Type 0
RowLock = KeyedLock LockedRow RowKey RowOfKey

-- the version with which a row was put under its lock
abbrev pub lock_version : RowLock → ℕ
lock_version lock = (lock_key lock).version

-- the locks of the rows from 0 on, in order, of this clock, whose entries are at home here
abbrev pub AreNamed : TableId × Setup → Home → List RowLock → Type 0
AreNamed clock home locks = (n : ℕ) (lock : RowLock) → get_elem? locks n ≡ some lock → key_identity (lock_key lock) ≡ identity clock home n (lock_version lock)
