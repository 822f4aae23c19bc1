-- What a keg behind its lock still keeps after a call.
use Rattle.std.proofs.Common.{◌≡◌, ◌≢◌, ℕ, List, [], ◌∷◌, ◌++◌, inl, inr, refl, sym, ap, ◌∙◌, subst}
use Rattle.std.proofs.lemmas.Bool.{cases_eq}
use Rattle.std.proofs.lemmas.List.{map-append}
use Rattle.deed_book.specs.declared.deed.Cause.{Cause}
use Rattle.uma_keg.specs.declared.fetch.FetchRefused.{FetchRefused}
use Rattle.uma_keg.specs.declared.keg.Keg.{Keg}
use Rattle.uma_keg.specs.Keg.{places_in, fetches_in, IsSameKeg}
use Rattle.locked_keg.specs.declared.locked_keg.KegKey.{KegKey}
use Rattle.locked_keg.specs.declared.locked_keg.LockedKeg.{LockedKeg}
use Rattle.locked_keg.specs.Ends.{fetch_cause}
use Rattle.locked_keg.specs.FailBooks.{table_at, causes_at}
use Rattle.locked_keg.specs.LockedKeg.{keg_in, fails_in}
use Rattle.locked_keg.specs.Rule.{HasDomainsBelow, IsOfKey, ListsFetches, Keeps}
use Rattle.std.specs.Prelude.{map, Result}

module _ {T K : Type 0} {g : _} {h : _} where
  -- it is the keg of the same key
  still_of_key : (key : KegKey) (old new : LockedKeg T K g h) → IsSameKeg (keg_in old) (keg_in new) → ((zone : ℕ) → table_at (fails_in new) zone ≡ table_at (fails_in old) zone) → IsOfKey key old → IsOfKey key new
  still_of_key key old new same tables is = record {
    numbers = same.table ∙ is.numbers;
    rights = same.rights_table ∙ is.rights;
    fails = λ zone. tables zone ∙ is.fails zone;
    size = same.size ∙ is.size;
    per_slab = same.per_slab ∙ is.per_slab;
    cap = same.cap ∙ is.cap;
    reserve = same.reserve ∙ is.reserve;
  }

  pub still_keeps : (key : KegKey) (old new : LockedKeg T K g h) → IsSameKeg (keg_in old) (keg_in new) → ((zone : ℕ) → table_at (fails_in new) zone ≡ table_at (fails_in old) zone) → (ListsFetches old → ListsFetches new) → (HasDomainsBelow key.domains (places_in (keg_in old)) → HasDomainsBelow key.domains (places_in (keg_in new))) → Keeps key old → Keeps key new
  still_keeps key old new same tables lists domains is = record {
    of_key = still_of_key key old new same tables is.of_key;
    counted = lists is.counted;
    domains = domains is.domains;
  }

  -- where neither the books nor the keg's own lists change
  pub still_lists : (old new : LockedKeg T K g h) → ((zone : ℕ) → causes_at (fails_in new) zone ≡ causes_at (fails_in old) zone) → ((zone : ℕ) → fetches_in (keg_in new) zone ≡ fetches_in (keg_in old) zone) → ListsFetches old → ListsFetches new
  still_lists old new causes fetches is = record { each = λ zone. causes zone ∙ is.each zone ∙ sym (ap (map fetch_cause) (fetches zone)) }

  -- where a fetch of a zone ended, and its end was listed
  pub more_lists : (old new : LockedKeg T K g h) (zone : ℕ) (answer : Result ℕ FetchRefused) → fetches_in (keg_in new) zone ≡ fetches_in (keg_in old) zone ++ answer ∷ [] → ((other : ℕ) → other ≢ zone → fetches_in (keg_in new) other ≡ fetches_in (keg_in old) other)
      → causes_at (fails_in new) zone ≡ causes_at (fails_in old) zone ++ fetch_cause answer ∷ [] → ((other : ℕ) → other ≢ zone → causes_at (fails_in new) other ≡ causes_at (fails_in old) other) → ListsFetches old → ListsFetches new
  more_lists old new zone answer fetched others listed causes is = record {
    each = λ at. elim (cases_eq at zone) [
      | inl here ↦
          let mapped : map fetch_cause (fetches_in (keg_in new) zone) ≡ map fetch_cause (fetches_in (keg_in old) zone) ++ fetch_cause answer ∷ [] = ap (map fetch_cause) fetched ∙ map-append fetch_cause (fetches_in (keg_in old) zone) (answer ∷ []) in
          let e : causes_at (fails_in new) zone ≡ map fetch_cause (fetches_in (keg_in new) zone) = listed ∙ ap (λ (l : List Cause). l ++ fetch_cause answer ∷ []) (is.each zone) ∙ sym mapped in
          subst (λ (n : ℕ). causes_at (fails_in new) n ≡ map fetch_cause (fetches_in (keg_in new) n)) (sym here) e
      | inr ne ↦ causes at ne ∙ is.each at ∙ sym (ap (map fetch_cause) (others at ne))
    ];
  }

module _ {T K : Type 0} {g : _} {h : _} where
  pub same_keg : (keg : Keg T K g h) → IsSameKeg keg keg
  same_keg keg = record { table = refl; rights_table = refl; size = refl; per_slab = refl; cap = refl; reserve = refl; hooks = refl }

  pub same_more : (old mid new : Keg T K g h) → IsSameKeg old mid → IsSameKeg mid new → IsSameKeg old new
  same_more old mid new first later = record {
    table = later.table ∙ first.table;
    rights_table = later.rights_table ∙ first.rights_table;
    size = later.size ∙ first.size;
    per_slab = later.per_slab ∙ first.per_slab;
    cap = later.cap ∙ first.cap;
    reserve = later.reserve ∙ first.reserve;
    hooks = later.hooks ∙ first.hooks;
  }
