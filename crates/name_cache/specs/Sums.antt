-- Own: the sums of a cache's items, the linked entries included.
use Rattle.std.specs.Prelude.{◌≡◌, ◌<◌, ◌+◌, ◌^◌, ◌==◌, ℕ, cond, Option, Some, None}
use Rattle.keyed_lock.specs.KeyedLock.{lock_key}
use Rattle.uma_life.specs.Hook.{Hook, Ctor, Dtor}
use Rattle.uma_life.specs.Sum.{sum_of, times_of}
use Rattle.uma_life.specs.Trail.{ShowsSame}
use Rattle.uma_bucket.specs.declared.shelved.Sums.{Sums}
use Rattle.uma_bucket.specs.Sums.{AreOfAtMost}
use Rattle.name_rows.specs.declared.root.Guest.{Guest}
use Rattle.name_cache.specs.Locks.{RowLock}
use Rattle.name_cache.specs.RowKey.{key_identity}

-- The sums have the tally of a row's entry too, if there is one.
abbrev pub AddsLinked : Option Guest → Sums → Sums → Type 0
AddsLinked None was is = is ≡ was
AddsLinked (Some guest) was is = (is.deferred ≡ was.deferred) × ((hook : Hook) → sum_of is.tally hook ≡ sum_of was.tally hook + times_of guest.tally hook)

-- In the entries' zone, the primary one, ctors exceed dtors by the deferred items and so many linked ones; in every other they are equal. The counts of items wrap, so this is modulo 2^64.
abbrev pub HasLinked : ℕ → Sums → Type 0
HasLinked linked sums =
    (zone : ℕ) → zone < 8 → ShowsSame (sum_of sums.tally (Ctor zone)) (sum_of sums.tally (Dtor zone) + cond (0 == zone) (sums.deferred + linked) 0)

-- the row's entries are at home in a primary zone, and there is room in the sums for one more
pub record CanAddRow (lock : RowLock) (sums : Sums) : Type 0 where
  pub primary : (key_identity (lock_key lock)).home.zone ≡ 0
  pub few : AreOfAtMost (2 ^ 35) sums
