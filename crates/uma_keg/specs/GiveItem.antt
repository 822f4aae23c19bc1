-- What becomes of a keg where an item comes back to it. That zone_fini runs on an item that leaves a secondary zone is FreeBSD's uma(9).
use Rattle.std.specs.Prelude.{◌≡◌, ◌≢◌, ◌+◌, ℕ, None, slice_set}
use Rattle.std.specs.Option.{IsSomeAnd}
use Rattle.deed_book.specs.BookLaw.{IsOutside}
use Rattle.uma_life.specs.declared.states.Cached.{Cached}
use Rattle.uma_life.specs.Cached.{cached_body, cached_no, cached_zone}
use Rattle.uma_life.specs.Stored.{stored_body}
use Rattle.uma_life.specs.Hook.{ZoneFini, after}
use Rattle.uma_slabs.specs.Places.{Gives, CountsOneOut}
use Rattle.uma_keg.specs.declared.keg.Keg.{Keg}
use Rattle.uma_keg.specs.Keg.{places_in, zones_in, out_in, rights_in, stored_in, limit_in, fetches_in, buried_in, IsSameKeg}

-- The item's number was outside in its zone and is at home, with the body that zone_fini of these hooks left, but for zone 0, where it is the body itself. All else stays.
pub record TakesBack {T K : Type 0} {g : _} {h : _} (old : Keg T K g h) (hooks : K) (item : Cached T g) (new : Keg T K g h) : Type 0 where
  pub places : Gives (places_in old) (cached_no item) (places_in new)
  pub counts : CountsOneOut (places_in new) (places_in old)
  pub was_outside : IsOutside (zones_in old) (cached_no item, cached_zone item)
  pub zones : zones_in new ≡ slice_set (zones_in old) (cached_no item) None
  pub out : out_in new (cached_zone item) + 1 ≡ out_in old (cached_zone item)
  pub outs : (zone : ℕ) → zone ≢ cached_zone item → out_in new zone ≡ out_in old zone
  pub primary : cached_zone item ≡ 0 → IsSomeAnd (stored_in new (cached_no item)) (λ stored. stored_body stored ≡ cached_body item)
  pub left : cached_zone item ≢ 0 → IsSomeAnd (stored_in new (cached_no item)) (λ stored. h.leaves_fini hooks (cached_body item) (cached_zone item) (stored_body stored))
  pub passed : cached_zone item ≢ 0 → IsSomeAnd (stored_in new (cached_no item)) (λ stored. g.life (stored_body stored) ≡ after (ZoneFini (cached_zone item)) (g.life (cached_body item)))
  pub stored : (n : ℕ) → n ≢ cached_no item → stored_in new n ≡ stored_in old n
  pub rights : rights_in new ≡ rights_in old
  pub limits : (zone : ℕ) → limit_in new zone ≡ limit_in old zone
  pub fetches : (zone : ℕ) → fetches_in new zone ≡ fetches_in old zone
  pub buried : buried_in new ≡ buried_in old
  pub same : IsSameKeg old new
