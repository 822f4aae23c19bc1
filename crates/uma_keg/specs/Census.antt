-- What contracts see of a census.
use Rattle.std.specs.Prelude.{◌≡◌, ◌≤◌, ◌<◌, ◌+◌, ◌*◌, ◌^◌, ℕ, List, All, count_by, is_some, slice_index_or}
use Rattle.deed_book.specs.Deed.{BookId}
use Rattle.deed_book.specs.Book.{book_table}
use Rattle.deed_book.specs.BookLaw.{IsOutside}
use Rattle.uma_life.specs.declared.states.Live.{Live}
use Rattle.uma_life.specs.declared.tally.TallySum.{TallySum}
use Rattle.uma_life.specs.Hook.{Hook}
use Rattle.uma_life.specs.Sum.{sum_of, AreBelow}
use Rattle.uma_slabs.specs.declared.places.KegCounts.{KegCounts}
use Rattle.uma_keg.specs.declared.census.Census.{Census}
use Rattle.uma_keg.specs.declared.keg.Keg.{Keg}
use Rattle.uma_slabs.specs.Places.{IsSound, slab_count, free_count}
use Rattle.uma_keg.specs.Keg.{places_in, zones_in, out_in, table_in, reserve_in, total_in, HasZone}
use Rattle.uma_keg.specs.Lent.{all_seen, lent_of, deed_of}

abbrev pub census_counts : Census → KegCounts
census_counts census = census.counts

-- how many items are outside in each zone
abbrev pub census_outs : Census → List ℕ
census_outs census = census.outs

abbrev pub census_out : Census → ℕ → ℕ
census_out census zone = slice_index_or census.outs zone 0

abbrev pub census_tally : Census → TallySum
census_tally census = census.tally

-- which book of numbers the keg has that made it
abbrev pub census_table : Census → BookId
census_table census = book_table census.book.value

-- how a keg stands
abbrev pub counts_in : {T K : Type 0} {g : _} {h : _} → Keg T K g h → KegCounts
counts_in keg = record {
  slabs = slab_count (places_in keg);
  cap = (places_in keg).cap;
  made = (places_in keg).made;
  free = free_count (places_in keg);
  per_slab = (places_in keg).per_slab;
  reserve = reserve_in keg;
}

-- The counts are those of the keg. The items of the slabs that are in are free or outside.
pub record CountsKeg {T K : Type 0} {g : _} {h : _} (keg : Keg T K g h) (counts : KegCounts) : Type 0 where
  pub slabs : counts.slabs ≡ slab_count (places_in keg)
  pub cap : counts.cap ≡ (places_in keg).cap
  pub made : counts.made ≡ (places_in keg).made
  pub free : counts.free ≡ free_count (places_in keg)
  pub per_slab : counts.per_slab ≡ (places_in keg).per_slab
  pub reserve : counts.reserve ≡ reserve_in keg
  pub sound : IsSound (places_in keg)
  pub balanced : counts.slabs * counts.per_slab ≡ counts.free + count_by is_some (zones_in keg)

-- the sums are those of the census, and far from their end
pub record AreCensusTally (census : Census) (sums : TallySum) : Type 0 where
  pub tally : sums ≡ census_tally census
  pub below : AreBelow (2 ^ 121) sums

-- the census says how this keg stands, what its items passed, and which book of numbers it has
pub record IsCensusOf {T K : Type 0} {g : _} {h : _} (keg : Keg T K g h) (census : Census) : Type 0 where
  pub counts : census_counts census ≡ counts_in keg
  pub outs : (zone : ℕ) → zone < 8 → census_out census zone ≡ out_in keg zone
  pub tally : (hook : Hook) → sum_of (census_tally census) hook ≡ total_in keg hook
  pub table_of : census_table census ≡ table_in keg

-- And the lent items are back as they were seen. Each was outside, and no zone has fewer items outside than it was lent.
pub record CountsWith {T K : Type 0} {g : _} {h : _} (keg : Keg T K g h) (lives : List (Live T g)) (census : Census) (back : List (Live T g)) : Type 0 where
  pub of_keg : IsCensusOf keg census
  pub no_zone : (zone : ℕ) → zone < 8 → (HasZone keg zone → ⊥) → census_out census zone ≡ 0
  pub lent : (zone : ℕ) → zone < 8 → lent_of lives zone ≤ census_out census zone
  pub items : all_seen back ≡ all_seen lives
  pub were_outside : All (λ item. IsOutside (zones_in keg) (deed_of item)) lives
