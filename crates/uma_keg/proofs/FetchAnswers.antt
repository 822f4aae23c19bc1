-- What the answer of a fetch tells its caller.
use Rattle.std.proofs.Common.{◌≡◌, ◌≤◌, ◌+◌, ◌*◌, [], ◌∷◌, ◌++◌, ℕ, Some, Result, Ok, Err, List, drop, length, inl, inr, refl, arith, sym, ap, subst, ◌∙◌}
use Rattle.std.specs.Prelude.{IfOk, IfErr, OnOk, OnErr}
use Rattle.std.specs.List.{filter_map}
use Rattle.std.proofs.Math.Seq.{drop-append_seam}
use Rattle.std.proofs.lemmas.List.{append-nil}
use Rattle.std.proofs.lemmas.List.Elements.{All-weaker, filter_map-append}
use Rattle.uma_life.specs.declared.states.Cached.{Cached}
use Rattle.uma_life.specs.Stored.{stored_body}
use Rattle.zone_stats.specs.declared.refusal.Refusal.TheVariants.{AtLimit, Reserved, Full, Init, Ctor}
use Rattle.uma_bucket.specs.declared.bucket.Bucket.{Bucket}
use Rattle.uma_bucket.specs.Bucket.{items_of}
use Rattle.uma_keg.specs.declared.fetch.FetchAsk.{FetchAsk}
use Rattle.uma_keg.specs.declared.fetch.FetchRefused.{FetchRefused}
use Rattle.uma_keg.specs.declared.fetch.FetchRefused.TheVariants.{Refused, Memory}
use Rattle.uma_keg.specs.declared.keg.Keg.{Keg}
use Rattle.uma_keg.specs.Keg.{places_in, zones_in, out_in, buried_in, refusal_of, IsWithinLimit}
use Rattle.uma_keg.specs.BringSlab.{RefusesNumber}
use Rattle.uma_keg.specs.BringSlabs.{found_in, StopsAtSlab}
use Rattle.uma_keg.specs.TakeItem.{IsTaken}
use Rattle.uma_keg.specs.Frames.{IsUnmoved}
use Rattle.uma_keg.specs.Fetched.{wish_of, Fetches, FetchesInto, RefusesFetch, NamesWhatItFound, IsOutIn, GivesItems, refusals_after}
use Rattle.uma_keg.specs.Fetching.{GivesCount, GivesNone}
use Rattle.uma_keg.proofs.FetchedItems.{still_refused, still_fetched}
use Rattle.uma_keg.proofs.FetchOutcomes.{names_limit, names_slabs, names_reserve, gives_few}

-- the hooks that refused a slab are those of the keg before
refused_number : {T K : Type 0} {g : _} {h : _} (old new : Keg T K g h) (domain code : ℕ) → StopsAtSlab old domain (Refused (Init code)) new → (n : ℕ) × RefusesNumber old n code
refused_number {T} {K} {g} {h} old new domain code stops =
    let number = stops.refused.5 in
    let Refuses' : K → Type 0 = λ hooks. h.refuses_init hooks number.0 0 ≡ Some code in
    (stops.refused.1 * (places_in stops.left).per_slab + stops.refused.3, (number.0, number.1, subst Refuses' stops.same.hooks number.2))

pub names_found : {T K : Type 0} {g : _} {h : _} (old new : Keg T K g h) (hooks : K) (ask : FetchAsk) (why : FetchRefused) → RefusesFetch old hooks ask new why → NamesWhatItFound old hooks ask why
names_found old new hooks ask (Refused (AtLimit out limit)) is = names_limit (found_in old ask.zone) (wish_of ask) out limit is.1 is.0
names_found old new hooks ask (Refused (Full slabs made)) is = names_slabs (found_in old ask.zone) (wish_of ask) is.proceeds.slabs slabs made is.proceeds.enough.enough is.proceeds.ends
names_found old new hooks ask (Refused (Reserved free reserve)) is = names_reserve (found_in old ask.zone) (wish_of ask) is.proceeds.slabs free reserve is.proceeds.ends
names_found old new hooks ask (Refused (Init code)) is = elim is [
  | inl slab ↦ inl (refused_number old new ask.domain code slab.1)
  | inr first ↦ inr (first.refused.secondary, stored_body first.refused.stored, first.refused.refused)
]
names_found old new hooks ask (Refused (Ctor code)) is = is
names_found old new hooks ask Memory is = tt

gives : {T K : Type 0} {g : _} {h : _} (old new : Keg T K g h) (hooks : K) (ask : FetchAsk) (items : List (Cached T g)) → 1 ≤ ask.most → Fetches old hooks ask items new → GivesItems old ask (length items) items
gives {T} {K} {g} {h} old new hooks ask items some is =
    let on = is.proceeds in
    let few = gives_few (found_in old ask.zone) (wish_of ask) on.slabs is.whole some on.ends in
    record {
      some = is.some;
      few = elim is.ends [ inl all ↦ omega (arith, all, few) | inr fewer ↦ omega (arith, fewer.0, few) ];
      counted = refl;
      out = All-weaker (IsTaken is.left hooks ask.zone) (IsOutIn old ask.zone) (λ item taken. record { of_zone = taken.of_zone; of_book = taken.of_book ∙ on.same.table }) items is.takes.each;
    }

pub gives_items : {T K : Type 0} {g : _} {h : _} (old new : Keg T K g h) (hooks : K) (ask : FetchAsk) (count : ℕ) (before after : List (Cached T g)) → 1 ≤ ask.most → FetchesInto old hooks ask count before after new → GivesItems old ask count (drop (length before) after)
gives_items {T} {K} {g} {h} old new hooks ask count before after some is =
    let Counts : ℕ → Type 0 = λ n. GivesItems old ask n is.items in
    let Gives' : List (Cached T g) → Type 0 = λ items. GivesItems old ask count items in
    subst Gives' (sym (ap (drop (length before)) is.pushed ∙ drop-append_seam before is.items)) (subst Counts is.counted (gives old new hooks ask is.items some is.fetches))

-- The same of an answer that isn't told apart. Where nothing moved after the fetch, what it did stands.
module _ {T K : Type 0} {g : _} {h : _} (old mid : Keg T K g h) (hooks : K) (ask : FetchAsk) (before after : Bucket T g) where
  -- it gave so many items, or none
  abbrev pub IsGiven : Result ℕ FetchRefused → Type 0
  IsGiven end = IfOk end (λ count. GivesCount old hooks ask count before after mid)

  abbrev pub IsRefused : Result ℕ FetchRefused → Type 0
  IsRefused end = IfErr end (λ why. GivesNone old hooks ask why before after mid)

  pub end_names : (end : Result ℕ FetchRefused) → IsRefused end → IfErr end (NamesWhatItFound old hooks ask)
  end_names (Ok count) is = tt
  end_names (Err why) is = names_found old mid hooks ask why is.refused

  pub end_refused : (new : Keg T K g h) (end : Result ℕ FetchRefused) → IsUnmoved mid new → IsRefused end → IfErr end (RefusesFetch old hooks ask new)
  end_refused new (Ok count) same is = tt
  end_refused new (Err why) same is = still_refused old mid new hooks ask why same is.refused

  pub end_none : (end : Result ℕ FetchRefused) → IsRefused end → OnErr end (items_of after ≡ items_of before)
  end_none (Ok count) is = tt
  end_none (Err why) is = is.none

  pub end_zones : (end : Result ℕ FetchRefused) → IsRefused end → OnErr end (zones_in mid ≡ zones_in old)
  end_zones (Ok count) is = tt
  end_zones (Err why) is = is.zones

  pub end_gives : (end : Result ℕ FetchRefused) → 1 ≤ ask.most → IsGiven end → IfOk end (λ count. GivesItems old ask count (drop (length (items_of before)) (items_of after)))
  end_gives (Ok count) some is = gives_items old mid hooks ask count (items_of before) (items_of after) some is.fetched
  end_gives (Err why) some is = tt

  pub end_fetched : (new : Keg T K g h) (end : Result ℕ FetchRefused) → IsUnmoved mid new → IsGiven end → IfOk end (λ count. FetchesInto old hooks ask count (items_of before) (items_of after) new)
  end_fetched new (Ok count) same is = still_fetched old mid new hooks ask count (items_of before) (items_of after) same is.fetched
  end_fetched new (Err why) same is = tt

  pub end_within : (end : Result ℕ FetchRefused) → IsGiven end → OnOk end (IsWithinLimit mid ask.zone)
  end_within (Ok count) is = is.within
  end_within (Err why) is = tt

  pub end_out : (end : Result ℕ FetchRefused) → IsGiven end → IfOk end (λ count. out_in mid ask.zone ≡ out_in old ask.zone + count)
  end_out (Ok count) is = is.out
  end_out (Err why) is = tt

  pub end_buried : (end : Result ℕ FetchRefused) → IsGiven end → OnOk end (buried_in mid ≡ buried_in old)
  end_buried (Ok count) is = is.buried
  end_buried (Err why) is = tt

-- the refusals of a zone, with one fetch more
pub refusals_with : (before : List (Result ℕ FetchRefused)) (end : Result ℕ FetchRefused) → filter_map refusal_of (before ++ end ∷ []) ≡ refusals_after (filter_map refusal_of before) end
refusals_with before (Ok count) = filter_map-append refusal_of before (Ok count ∷ []) ∙ append-nil (filter_map refusal_of before)
refusals_with before (Err (Refused refusal)) = filter_map-append refusal_of before (Err (Refused refusal) ∷ [])
refusals_with before (Err Memory) = filter_map-append refusal_of before (Err Memory ∷ []) ∙ append-nil (filter_map refusal_of before)
