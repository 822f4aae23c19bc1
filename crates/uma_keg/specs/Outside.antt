-- Own: what a keg's own contracts see of the numbers outside.
use Rattle.std.specs.Prelude.{◌≡◌, ◌<◌, ℕ, List, Option, Some, None, count_by, is_some, replicate, slice_index_or, slice_set, sum_by}
use Rattle.deed_book.specs.declared.deed.Deed.{Deed}
use Rattle.deed_book.specs.declared.deed.Origin.{Origin}
use Rattle.deed_book.specs.Deed.{BookId, deed_table, no_of, zone_of}
use Rattle.deed_book.specs.Origin.{origin_numbers}
use Rattle.deed_book.specs.BookLaw.{IsHome, IsOutside}
use Rattle.deed_book.specs.Book.{book_table, zones_of}
use Rattle.uma_keg.specs.declared.home_items.Outside.{Outside}
use Rattle.uma_keg.specs.Outs.{out_of}

abbrev pub outside_zones : Outside → List (Option ℕ)
outside_zones outside = zones_of outside.book

abbrev pub outside_table : Outside → BookId
outside_table outside = book_table outside.book

-- all numbers below one are at home, and their deeds are of this origin
pub record IsNewOutside (numbers : ℕ) (by : Origin) (outside : Outside) : Type 0 where
  pub zones : outside_zones outside ≡ replicate numbers None
  pub origin : (outside_table outside).origin ≡ origin_numbers by

-- the number is at home, and the zone is one of the eight
pub record MayIssue (outside : Outside) (no to : ℕ) : Type 0 where
  pub home : IsHome (outside_zones outside) no
  pub zone : to < 8

-- the number is outside in a zone, with this deed
pub record IssuesDeed (old : Outside) (no zone : ℕ) (issued : Deed) (new : Outside) : Type 0 where
  pub deed : (no_of issued ≡ no) × (zone_of issued ≡ zone)
  pub zones : outside_zones new ≡ slice_set (outside_zones old) no (Some zone)
  pub table : outside_table new ≡ outside_table old
  pub deed_table : deed_table issued ≡ outside_table old

-- the deed's number was outside in its zone, and is at home
pub record AcceptsDeed (old : Outside) (deed : Deed) (no : ℕ) (new : Outside) : Type 0 where
  pub number : no ≡ no_of deed
  pub was_outside : IsOutside (outside_zones old) (no_of deed, zone_of deed)
  pub zones : outside_zones new ≡ slice_set (outside_zones old) (no_of deed) None
  pub table : outside_table new ≡ outside_table old

-- the count of each zone, which together are all numbers outside
pub record CountsEach (zones : List (Option ℕ)) (outs : List ℕ) : Type 0 where
  pub each : (zone : ℕ) → zone < 8 → slice_index_or outs zone 0 ≡ out_of zones zone
  pub total : sum_by (λ out. out) outs ≡ count_by is_some zones
