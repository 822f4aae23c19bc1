-- What becomes of a keg where a zone's limit is set. That a limit may be set while requests go on is FreeBSD's uma(9), uma_zone_set_max; that a lowered one takes nothing away is own.
use Rattle.std.specs.Prelude.{◌≡◌, ◌≢◌, ◌≤◌, ◌<◌, ℕ}
use Rattle.uma_keg.specs.declared.keg.Keg.{Keg}
use Rattle.uma_keg.specs.Keg.{places_in, book_in, rights_in, stored_in, limit_in, fetches_in, buried_in, IsSameKeg}

-- The zone has this limit. All else of the keg is as it was: its slabs and places, its books, and so which items are outside, its items at home, the limits of other zones, how the fetches ended, and the buried.
pub record SetsLimit {T K : Type 0} {g : _} {h : _} (old : Keg T K g h) (zone limit : ℕ) (new : Keg T K g h) : Type 0 where
  pub is_set : limit_in new zone ≡ limit
  pub others : (other : ℕ) → other ≢ zone → limit_in new other ≡ limit_in old other
  pub places : places_in new ≡ places_in old
  pub book : book_in new ≡ book_in old
  pub rights : rights_in new ≡ rights_in old
  pub stored : (n : ℕ) → stored_in new n ≡ stored_in old n
  pub fetches : (at : ℕ) → fetches_in new at ≡ fetches_in old at
  pub buried : buried_in new ≡ buried_in old
  pub same : IsSameKeg old new

-- a zone and a limit that it may have
pub record MayLimit (zone limit : ℕ) : Type 0 where
  pub below_8 : zone < 8
  pub most : limit ≤ 1000000
