-- What a fetch asks for, how it ends, and what it leaves of the keg and of the bucket (own).
use Rattle.std.specs.Prelude.{◌≡◌, ◌≢◌, ◌≤◌, ◌<◌, ◌+◌, ◌^◌, ℕ, true, false, List, [], ◌∷◌, ◌++◌, Result, Err, IfOk, IfErr, OnOk, OnErr, drop, length, slice_index_or}
use Rattle.uma_life.specs.Hook.{Hook}
use Rattle.uma_bucket.specs.declared.bucket.Bucket.{Bucket}
use Rattle.uma_bucket.specs.Bucket.{items_of, size_of}
use Rattle.zone_stats.specs.declared.refusal.Refusal.{Refusal}
use Rattle.zone_stats.specs.declared.refusal.Refusal.TheVariants.{AtLimit}
use Rattle.uma_keg.specs.declared.fetch.FetchAsk.{FetchAsk}
use Rattle.uma_keg.specs.declared.fetch.FetchRefused.{FetchRefused}
use Rattle.uma_keg.specs.declared.fetch.FetchRefused.TheVariants.{Memory}
use Rattle.uma_keg.specs.declared.keg.Keg.{Keg}
use Rattle.uma_keg.specs.Fetch.{is_at_limit, outcome_with, Refuses, Gives}
use Rattle.uma_keg.specs.BringSlabs.{found_in}
use Rattle.uma_keg.specs.Fetched.{wish_of, FetchesInto, RefusesFetch, NamesWhatItFound, GivesItems, IsOfKeg, refusals_after}
use Rattle.uma_keg.specs.Keg.{zones_in, out_in, rights_in, limit_in, fetches_in, refusals_in, buried_in, total_in, HasZone, IsWithinLimit, IsSameKeg}

-- the zone exists, and the bucket has room for as many items as are asked for, which is at least one
pub record MayFetch {T K : Type 0} {g : _} {h : _} (keg : Keg T K g h) (ask : FetchAsk) (into : Bucket T g) : Type 0 where
  pub exists : HasZone keg ask.zone
  pub some : 1 ≤ ask.most
  pub room : length (items_of into) + ask.most ≤ size_of into

-- So many items were given: the bucket has them, the zone's limit is kept, and nothing was buried.
pub record GivesCount {T K : Type 0} {g : _} {h : _} (old : Keg T K g h) (hooks : K) (ask : FetchAsk) (count : ℕ) (before after : Bucket T g) (new : Keg T K g h) : Type 0 where
  pub fetched : FetchesInto old hooks ask count (items_of before) (items_of after) new
  pub within : IsWithinLimit new ask.zone
  pub out : out_in new ask.zone ≡ out_in old ask.zone + count
  pub buried : buried_in new ≡ buried_in old

-- None was given: the bucket is as it was, and so are the numbers outside.
pub record GivesNone {T K : Type 0} {g : _} {h : _} (old : Keg T K g h) (hooks : K) (ask : FetchAsk) (why : FetchRefused) (before after : Bucket T g) (new : Keg T K g h) : Type 0 where
  pub refused : RefusesFetch old hooks ask new why
  pub none : items_of after ≡ items_of before
  pub zones : zones_in new ≡ zones_in old

-- However it ends, the bucket's size, how many items other zones have outside, the rights, the limits and the lists of fetches are as they were.
pub record KeepsButFetched {T K : Type 0} {g : _} {h : _} (old : Keg T K g h) (ask : FetchAsk) (before after : Bucket T g) (new : Keg T K g h) : Type 0 where
  pub size : size_of after ≡ size_of before
  pub outs : (zone : ℕ) → zone ≢ ask.zone → out_in new zone ≡ out_in old zone
  pub rights : rights_in new ≡ rights_in old
  pub limits : (zone : ℕ) → limit_in new zone ≡ limit_in old zone
  pub fetches : (zone : ℕ) → fetches_in new zone ≡ fetches_in old zone
  pub same : IsSameKeg old new

-- A fetch: how it ended, what the bucket has and what the keg is then, and its end on the zone's list.
pub record EndsFetch {T K : Type 0} {g : _} {h : _} (old : Keg T K g h) (hooks : K) (ask : FetchAsk) (end : Result ℕ FetchRefused) (before after : Bucket T g) (new : Keg T K g h) : Type 0 where
  pub fetched : IfOk end (λ count. FetchesInto old hooks ask count (items_of before) (items_of after) new)
  pub refused : IfErr end (RefusesFetch old hooks ask new)
  pub given : IfOk end (λ count. GivesItems old ask count (drop (length (items_of before)) (items_of after)))
  pub names : IfErr end (NamesWhatItFound old hooks ask)
  pub sums_full : (((hook : Hook) → total_in old hook < 2 ^ 120) → ⊥) → end ≡ Err Memory
  pub none : OnErr end (items_of after ≡ items_of before)
  pub size : size_of after ≡ size_of before
  pub within : OnOk end (IsWithinLimit new ask.zone)
  pub out : IfOk end (λ count. out_in new ask.zone ≡ out_in old ask.zone + count)
  pub zones : OnErr end (zones_in new ≡ zones_in old)
  pub outs : (zone : ℕ) → zone ≢ ask.zone → out_in new zone ≡ out_in old zone
  pub fetches : fetches_in new ask.zone ≡ fetches_in old ask.zone ++ end ∷ []
  pub other_fetches : (zone : ℕ) → zone ≢ ask.zone → fetches_in new zone ≡ fetches_in old zone
  pub refusals : refusals_in new ask.zone ≡ refusals_after (refusals_in old ask.zone) end
  pub rights : rights_in new ≡ rights_in old
  pub limits : (zone : ℕ) → limit_in new zone ≡ limit_in old zone
  pub buried : OnOk end (buried_in new ≡ buried_in old)
  pub same : IsSameKeg old new

-- whether a zone is at its limit, which is refused with its numbers
pub record ChecksLimit {T K : Type 0} {g : _} {h : _} (keg : Keg T K g h) (zone : ℕ) (end : Result (Unit {0}) Refusal) : Type 0 where
  pub clear : OnOk end (is_at_limit (found_in keg zone) ≡ false)
  pub below : OnOk end (0 < limit_in keg zone → out_in keg zone < limit_in keg zone)
  pub at : IfErr end (λ refusal. (is_at_limit (found_in keg zone) ≡ true) × (refusal ≡ AtLimit (out_in keg zone) (limit_in keg zone)))

-- the zone is one of the eight, and below its limit if it has one
pub record MayCount {T K : Type 0} {g : _} {h : _} (keg : Keg T K g h) (zone : ℕ) : Type 0 where
  pub in_range : zone < 8
  pub below : 0 < limit_in keg zone → out_in keg zone < limit_in keg zone

-- how many items the numbers of a keg give, where no slab is brought in, or why none
pub record CountsGiven {T K : Type 0} {g : _} {h : _} (keg : Keg T K g h) (ask : FetchAsk) (end : Result ℕ Refusal) : Type 0 where
  pub gives : IfOk end (λ count. outcome_with (found_in keg ask.zone) (wish_of ask) 0 ≡ Gives count)
  pub refuses : IfErr end (λ refusal. outcome_with (found_in keg ask.zone) (wish_of ask) 0 ≡ Refuses refusal)
  pub which : IfErr end IsOfKeg

-- the end of a fetch is at the end of its zone's list, and the other lists are as they were
pub record ListsEnd (old : List (List (Result ℕ FetchRefused))) (zone : ℕ) (end : Result ℕ FetchRefused) (new : List (List (Result ℕ FetchRefused))) : Type 0 where
  pub listed : slice_index_or new zone [] ≡ slice_index_or old zone [] ++ end ∷ []
  pub others : (other : ℕ) → other ≢ zone → slice_index_or new other [] ≡ slice_index_or old other []
