-- A keg as it is made, and with one zone more (own).
use Rattle.std.specs.Prelude.{◌≡◌, ◌≢◌, ◌<◌, ◌*◌, ◌/◌, ℕ, List, [], ◌∷◌, Some, None, All, map, min, replicate, slice_set}
use Rattle.deed_book.specs.declared.book.Book.{Book}
use Rattle.deed_book.specs.declared.deed.Deed.{Deed}
use Rattle.deed_book.specs.Book.{book_table, zones_of}
use Rattle.deed_book.specs.Deed.{deed_table, no_of}
use Rattle.uma_life.specs.Sum.{no_sums}
use Rattle.uma_slabs.specs.Places.{IsNew}
use Rattle.uma_slabs.specs.Refused.{IsItemSize, IsSlabCount}
use Rattle.uma_keg.specs.declared.keg.Keg.{Keg}
use Rattle.uma_keg.specs.Frames.{IsUnmoved}
use Rattle.uma_keg.specs.Keg.{places_in, zones_in, table_in, rights_in, limit_in, fetches_in, reserve_in, size_in, hooks_in, buried_in, HasZone, IsSameKeg}

-- the eight rights of a book, all of which are outside
pub record AreNewRights (made : Book) (rights : List Deed) : Type 0 where
  pub book : zones_of made ≡ replicate 8 (Some 0)
  pub numbers : map no_of rights ≡ 7 ∷ 6 ∷ 5 ∷ 4 ∷ 3 ∷ 2 ∷ 1 ∷ 0 ∷ []
  pub of_book : All (λ right. deed_table right ≡ book_table made) rights

-- A keg of items of so many bytes, with room for so many slabs, none of which is in, and of no zone, with its eight rights. There are kegs of such a size and so many slabs.
pub record IsNewKeg {T K : Type 0} {g : _} {h : _} (bytes slabs kept : ℕ) (by : K) (keg : Keg T K g h) (deeds : List Deed) : Type 0 where
  pub accepted : IsItemSize bytes × IsSlabCount slabs
  pub places : IsNew (min 256 (4096 / bytes)) slabs (places_in keg)
  pub outside : zones_in keg ≡ replicate (slabs * min 256 (4096 / bytes)) None
  pub zones : zones_of (rights_in keg) ≡ replicate 8 (Some 0)
  pub limits : (zone : ℕ) → limit_in keg zone ≡ 0
  pub fetches : (zone : ℕ) → fetches_in keg zone ≡ []
  pub reserve : reserve_in keg ≡ kept
  pub size : size_in keg ≡ bytes
  pub hooks : hooks_in keg ≡ by
  pub origin : (table_in keg).origin ≡ h.origin by
  pub buried : buried_in keg ≡ no_sums
  pub rights : map no_of deeds ≡ 7 ∷ 6 ∷ 5 ∷ 4 ∷ 3 ∷ 2 ∷ 1 ∷ 0 ∷ []
  pub rights_of_keg : All (λ right. deed_table right ≡ book_table (rights_in keg)) deeds

-- The zone of a right exists now, has this limit, and didn't exist. All else stays.
pub record AddsZone {T K : Type 0} {g : _} {h : _} (old : Keg T K g h) (right : Deed) (most zone : ℕ) (new : Keg T K g h) : Type 0 where
  pub index : zone ≡ no_of right
  pub below_8 : zone < 8
  pub was_none : HasZone old (no_of right) → ⊥
  pub rights : zones_of (rights_in new) ≡ slice_set (zones_of (rights_in old)) (no_of right) None
  pub limit : limit_in new (no_of right) ≡ most
  pub limits : (other : ℕ) → other ≢ no_of right → limit_in new other ≡ limit_in old other
  pub fetches : (other : ℕ) → fetches_in new other ≡ fetches_in old other
  pub unmoved : IsUnmoved old new
  pub same : IsSameKeg old new
