-- The domains of a keg's slabs stay below a bound.
use Rattle.std.proofs.Common.{◌≡◌, ◌<◌, ◌⊎◌, ℕ, List, [], map, Option, Some, None, IsSome, refl, inl, inr, sym, ◌∙◌, subst}
use Rattle.std.proofs.lemmas.List.Elements.{All-weaker, All-map}
use Rattle.zone_stats.specs.declared.refusal.Refusal.TheVariants.{AtLimit, Reserved, Full, Init, Ctor}
use Rattle.uma_life.specs.declared.states.Cached.{Cached}
use Rattle.uma_life.specs.Cached.{cached_ticket}
use Rattle.uma_bucket.specs.Home.{Home, IsHome, AreHome}
use Rattle.uma_keg.specs.declared.fetch.FetchAsk.{FetchAsk}
use Rattle.uma_keg.specs.declared.fetch.FetchRefused.{FetchRefused}
use Rattle.uma_keg.specs.declared.fetch.FetchRefused.TheVariants.{Refused, Memory}
use Rattle.uma_keg.specs.declared.keg.Keg.{Keg}
use Rattle.uma_keg.specs.BringSlabs.{IsNewSlab, BringsSlabs, StopsAtSlab}
use Rattle.uma_keg.specs.Fetched.{Fetches, FetchesInto, RefusesFetch}
use Rattle.uma_keg.specs.Keg.{places_in}
use Rattle.uma_keg.specs.TakeItem.{IsTaken}
use Rattle.uma_slabs.specs.Places.{KegPlaces, KeepsSlabs, domain_at}
use Rattle.locked_keg.specs.Rule.{HasDomainsBelow}
use Rattle.locked_keg.specs.Seating.{FetchesHome}

pub same_domains : (old new : KegPlaces) (domains : ℕ) → ((index : ℕ) → domain_at new index ≡ domain_at old index) → HasDomainsBelow domains old → HasDomainsBelow domains new
same_domains old new domains same is = record { each = λ index domain at. is.each index domain (sym (same index) ∙ at) }

pub same_places : (old new : KegPlaces) (domains : ℕ) → new ≡ old → HasDomainsBelow domains old → HasDomainsBelow domains new
same_places old new domains same is = subst (HasDomainsBelow domains) (sym same) is

which : (o : Option ℕ) → (o ≡ None) ⊎ ((domain : ℕ) × (o ≡ Some domain))
which None = inl refl
which (Some domain) = inr (domain, refl)

there : (o : Option ℕ) (domain : ℕ) → o ≡ Some domain → IsSome o
there o domain at = rw at refl

not_both : (o : Option ℕ) (domain : ℕ) → o ≡ None → o ≡ Some domain → ⊥
not_both o domain none at = absurd (cc)

same_domain : (o : Option ℕ) (m n : ℕ) → o ≡ Some m → o ≡ Some n → m ≡ n
same_domain o m n at here = cc

-- a slab that is in is new, and of the domain that the new ones are of, or was in
pub brought_domains : {T K : Type 0} {g : _} {h : _} (old new : Keg T K g h) (domain count domains : ℕ) → BringsSlabs old domain count new → domain < domains → HasDomainsBelow domains (places_in old) → HasDomainsBelow domains (places_in new)
brought_domains old new domain count domains brings own is = record {
  each = λ index found at. elim (which (domain_at (places_in old) index)) [
    | inl none ↦
        let new_slab : IsNewSlab (places_in old) (places_in new) index = record { absent = none; is_in = there (domain_at (places_in new) index) found at } in
        subst (λ (d : ℕ). d < domains) (same_domain (domain_at (places_in new) index) domain found (brings.domains index new_slab) at) own
    | inr was ↦
        is.each index found (sym (brings.other_slabs index (λ new_slab. not_both (domain_at (places_in old) index) was.0 new_slab.absent was.1)) ∙ at)
  ];
}

kept_domains : (old new : KegPlaces) (domains : ℕ) → KeepsSlabs old new → HasDomainsBelow domains old → HasDomainsBelow domains new
kept_domains old new domains keeps is = same_domains old new domains keeps.domains is

module _ {T K : Type 0} {g : _} {h : _} where
  stopped_domains : (old new : Keg T K g h) (domain domains : ℕ) (why : FetchRefused) → StopsAtSlab old domain why new → domain < domains → HasDomainsBelow domains (places_in old) → HasDomainsBelow domains (places_in new)
  stopped_domains old new domain domains why stops own is = same_places (places_in stops.left) (places_in new) domains stops.places (brought_domains old stops.left domain stops.slabs domains stops.brings own is)

  left_domains : (old new : Keg T K g h) (hooks : K) (ask : FetchAsk) (items : List (Cached T g)) (domains : ℕ) (is : Fetches old hooks ask items new) → ask.domain < domains → HasDomainsBelow domains (places_in old) → HasDomainsBelow domains (places_in is.left)
  left_domains old new hooks ask items domains is own below = brought_domains old is.left ask.domain is.proceeds.slabs domains is.proceeds.brings own below

  -- a fetch that gives
  pub fetched_domains : (old new : Keg T K g h) (hooks : K) (ask : FetchAsk) (count : ℕ) (before after : List (Cached T g)) (domains : ℕ) → FetchesInto old hooks ask count before after new → ask.domain < domains → HasDomainsBelow domains (places_in old) → HasDomainsBelow domains (places_in new)
  fetched_domains old new hooks ask count before after domains into own below =
      let is = into.fetches in
      let left : HasDomainsBelow domains (places_in is.left) = left_domains old new hooks ask into.items domains is own below in
      kept_domains (places_in is.taken) (places_in new) domains is.keeps.places.slabs (kept_domains (places_in is.left) (places_in is.taken) domains is.takes.slabs left)

  -- a fetch that is refused
  pub refused_domains : (old new : Keg T K g h) (hooks : K) (ask : FetchAsk) (domains : ℕ) (why : FetchRefused) → RefusesFetch old hooks ask new why → ask.domain < domains → HasDomainsBelow domains (places_in old) → HasDomainsBelow domains (places_in new)
  refused_domains old new hooks ask domains (Refused (AtLimit out limit)) is own below = same_places (places_in old) (places_in new) domains is.2.places below
  refused_domains old new hooks ask domains (Refused (Full slabs made)) is own below = same_places (places_in is.left) (places_in new) domains is.unmoved.places (brought_domains old is.left ask.domain is.proceeds.slabs domains is.proceeds.brings own below)
  refused_domains old new hooks ask domains (Refused (Reserved free reserve)) is own below = same_places (places_in is.left) (places_in new) domains is.unmoved.places (brought_domains old is.left ask.domain is.proceeds.slabs domains is.proceeds.brings own below)
  refused_domains old new hooks ask domains (Refused (Init code)) is own below = elim is [
    | inl stops ↦ stopped_domains old new ask.domain domains (Refused (Init code)) stops.1 own below
    | inr first ↦ kept_domains (places_in first.left) (places_in new) domains first.keeps.places.slabs (brought_domains old first.left ask.domain first.proceeds.slabs domains first.proceeds.brings own below)
  ]
  refused_domains old new hooks ask domains (Refused (Ctor code)) is own below = absurd is
  refused_domains old new hooks ask domains Memory is own below = elim is [
    | inl unmoved ↦ same_places (places_in old) (places_in new) domains unmoved.1.places below
    | inr stops ↦ stopped_domains old new ask.domain domains Memory stops.1 own below
  ]

  -- the items that a fetch gives are at home
  pub fetched_home : (old new : Keg T K g h) (hooks : K) (ask : FetchAsk) (count : ℕ) (after : List (Cached T g)) (home : Home) → FetchesHome old ask home → FetchesInto old hooks ask count [] after new → AreHome home (map cached_ticket after)
  fetched_home old new hooks ask count after home to into =
      let is = into.fetches in
      let left : HasDomainsBelow home.domains (places_in is.left) = left_domains old new hooks ask into.items home.domains is to.own to.slabs in
      let each = All-weaker (IsTaken is.left hooks ask.zone) (λ item. IsHome home (cached_ticket item)) (λ item taken. (taken.of_book ∙ is.proceeds.same.table ∙ to.book, taken.of_zone ∙ to.zone, left.each _ _ taken.in_domain)) into.items is.takes.each in
      subst (λ (items : List (Cached T g)). AreHome home (map cached_ticket items)) (sym into.pushed) (All-map (IsHome home) cached_ticket into.items each)
