-- What contracts see of a keg.
use Rattle.std.specs.Prelude.{◌≡◌, ◌≤◌, ◌<◌, ◌+◌, ◌*◌, ℕ, List, [], Option, Some, None, Result, Err, length, slice_index_or}
use Rattle.std.specs.List.{filter_map}
use Rattle.zone_stats.specs.declared.refusal.Refusal.{Refusal}
use Rattle.deed_book.specs.declared.book.Book.{Book}
use Rattle.deed_book.specs.Deed.{BookId}
use Rattle.deed_book.specs.Book.{book_table, zones_of}
use Rattle.deed_book.specs.BookLaw.{IsHome}
use Rattle.uma_life.specs.declared.states.Stored.{Stored}
use Rattle.uma_life.specs.declared.tally.TallySum.{TallySum}
use Rattle.uma_keg.specs.declared.fetch.FetchRefused.{FetchRefused}
use Rattle.uma_keg.specs.declared.fetch.FetchRefused.TheVariants.{Refused}
use Rattle.uma_keg.specs.declared.keg.Keg.{Keg}
use Rattle.uma_slabs.specs.Places.{KegPlaces}
use Rattle.uma_keg.specs.HomeItems.{item_at}
use Rattle.uma_keg.specs.Outs.{out_of}
use Rattle.uma_keg.specs.Tallies.{home_times, sum_below}
use Rattle.uma_life.specs.Hook.{Hook}
use Rattle.uma_life.specs.Sum.{sum_of}

-- its slabs, and which of their places are free
abbrev pub places_in : {T K : Type 0} {g : _} {h : _} → Keg T K g h → KegPlaces
places_in keg = keg.places

-- the book of its numbers, and for each number the zone that it is outside in
abbrev pub book_in : {T K : Type 0} {g : _} {h : _} → Keg T K g h → Book
book_in keg = keg.outside.book

abbrev pub table_in : {T K : Type 0} {g : _} {h : _} → Keg T K g h → BookId
table_in keg = book_table keg.outside.book

abbrev pub zones_in : {T K : Type 0} {g : _} {h : _} → Keg T K g h → List (Option ℕ)
zones_in keg = zones_of keg.outside.book

-- how many numbers are outside in a zone
abbrev pub out_in : {T K : Type 0} {g : _} {h : _} → Keg T K g h → ℕ → ℕ
out_in keg zone = out_of (zones_in keg) zone

-- the book of its rights. A zone exists exactly where its right is at home
abbrev pub rights_in : {T K : Type 0} {g : _} {h : _} → Keg T K g h → Book
rights_in keg = keg.rights

abbrev pub HasZone : {T K : Type 0} {g : _} {h : _} → Keg T K g h → ℕ → Type 0
HasZone keg zone = IsHome (zones_of keg.rights) zone

-- the item of this number, if it is at home
abbrev pub stored_in : {T K : Type 0} {g : _} {h : _} → Keg T K g h → ℕ → Option (Stored T g)
stored_in keg n = item_at keg.home_items n

-- a zone's limit, where 0 is no limit
abbrev pub limit_in : {T K : Type 0} {g : _} {h : _} → Keg T K g h → ℕ → ℕ
limit_in keg zone = slice_index_or keg.limits zone 0

-- how each fetch of a zone ended, in order
abbrev pub fetches_in : {T K : Type 0} {g : _} {h : _} → Keg T K g h → ℕ → List (Result ℕ FetchRefused)
fetches_in keg zone = slice_index_or keg.fetches zone []

-- why a fetch gave no item that ended so, where memory was not wanting
abbrev pub refusal_of : Result ℕ FetchRefused → Option Refusal
refusal_of (Err (Refused refusal)) = Some refusal
refusal_of _ = None

-- the refusals among them for another cause than memory, in order, and their number
abbrev pub refusals_in : {T K : Type 0} {g : _} {h : _} → Keg T K g h → ℕ → List Refusal
refusals_in keg zone = filter_map refusal_of (fetches_in keg zone)

abbrev pub turned_in : {T K : Type 0} {g : _} {h : _} → Keg T K g h → ℕ → ℕ
turned_in keg zone = length (refusals_in keg zone)

-- how many free items are kept for requests that may use them
abbrev pub reserve_in : {T K : Type 0} {g : _} {h : _} → Keg T K g h → ℕ
reserve_in keg = keg.reserve

-- the size of an item, in bytes, that it was made with
abbrev pub size_in : {T K : Type 0} {g : _} {h : _} → Keg T K g h → ℕ
size_in keg = keg.size

-- the hooks of its primary zone
abbrev pub hooks_in : {T K : Type 0} {g : _} {h : _} → Keg T K g h → K
hooks_in keg = keg.hooks

-- the sums of the tallies of buried bodies
abbrev pub buried_in : {T K : Type 0} {g : _} {h : _} → Keg T K g h → TallySum
buried_in keg = keg.buried

-- how often the items passed a hook: the sum over those at home, by their numbers, and the buried
abbrev pub total_in : {T K : Type 0} {g : _} {h : _} → Keg T K g h → Hook → ℕ
total_in keg hook = sum_of keg.buried hook + sum_below (λ n. home_times hook (item_at keg.home_items n)) (keg.places.cap * keg.places.per_slab)

-- what no call changes
pub record IsSameKeg {T K : Type 0} {g : _} {h : _} (old new : Keg T K g h) : Type 0 where
  pub table : table_in new ≡ table_in old
  pub rights_table : book_table (rights_in new) ≡ book_table (rights_in old)
  pub size : size_in new ≡ size_in old
  pub per_slab : (places_in new).per_slab ≡ (places_in old).per_slab
  pub cap : (places_in new).cap ≡ (places_in old).cap
  pub reserve : reserve_in new ≡ reserve_in old
  pub hooks : hooks_in new ≡ hooks_in old

-- the zone has no limit, or at most as many items outside
abbrev pub IsWithinLimit : {T K : Type 0} {g : _} {h : _} → Keg T K g h → ℕ → Type 0
IsWithinLimit keg zone = 0 < limit_in keg zone → out_in keg zone ≤ limit_in keg zone
