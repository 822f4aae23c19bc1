-- Items come back to a keg one after another.
use Rattle.std.proofs.Common.{◌≡◌, ◌≢◌, ◌+◌, ◌==◌, cond, ℕ, List, [], ◌∷◌, ◌++◌, length, refl, sym, ap, ◌∙◌, subst, arith, append_assoc, inl, inr}
use Rattle.std.proofs.lemmas.Bool.{cases_eq}
use Rattle.std.proofs.lemmas.List.Sums.{sum_by-cons}
use Rattle.std.proofs.lemmas.Bool.Decides.{nat_tests}
use Rattle.uma_life.specs.declared.states.Cached.{Cached}
use Rattle.uma_life.specs.Cached.{cached_zone}
use Rattle.uma_keg.specs.declared.keg.Keg.{Keg}
use Rattle.uma_keg.specs.GiveItem.{TakesBack}
use Rattle.uma_keg.specs.Keg.{places_in, out_in}
use Rattle.locked_keg.specs.Rule.{HasDomainsBelow}
use Rattle.locked_keg.specs.Gives.{GivesAllBack, count_in}
use Rattle.locked_keg.proofs.Domains.{same_places, same_domains}

pub none_left : {X : Type 0} (xs : List X) → length xs ≡ 0 → xs ≡ []
none_left [] none = refl
none_left (x ∷ xs) none = absurd (omega (arith, none))

append_none : {X : Type 0} (xs : List X) → xs ++ [] ≡ xs
append_none [] = refl
append_none (x ∷ xs) = ap (λ l. x ∷ l) (append_none xs)

one_count : (own zone new old : ℕ) → (own ≡ zone → new + 1 ≡ old) → (own ≢ zone → new ≡ old) → new + cond (own == zone) 1 0 ≡ old
one_count own zone new old same other = elim (cases_eq own zone) [
  | inl at ↦ let e : new + 1 ≡ old = same at in grind (arith, nat_tests)
  | inr ne ↦ let e : new ≡ old = other ne in grind (arith, nat_tests)
]

module _ {T K : Type 0} {g : _} {h : _} where
  -- some of the items came back, those at the end of the list
  pub record GivesLast (old : Keg T K g h) (hooks : K) (items left : List (Cached T g)) (new : Keg T K g h) : Type 0 where
    pub given : List (Cached T g)
    pub are : items ≡ left ++ given
    pub gives : GivesAllBack old hooks given new

  pub gives_none : (keg : Keg T K g h) (hooks : K) (items : List (Cached T g)) → GivesLast keg hooks items items keg
  gives_none keg hooks items = record { given = []; are = sym (append_none items); gives = refl }

  pub gives_one : (old mid new : Keg T K g h) (hooks : K) (items left rest : List (Cached T g)) (item : Cached T g) → GivesLast old hooks items left mid → left ≡ rest ++ item ∷ [] → TakesBack mid hooks item new → GivesLast old hooks items rest new
  gives_one old mid new hooks items left rest item is was gives = record {
    given = item ∷ is.given;
    are = is.are ∙ ap (λ (l : List (Cached T g)). l ++ is.given) was ∙ append_assoc rest (item ∷ []) is.given;
    gives = (mid, is.gives, gives);
  }

  -- all came back where none is left
  pub gives_all : (old new : Keg T K g h) (hooks : K) (items left : List (Cached T g)) → GivesLast old hooks items left new → left ≡ [] → GivesAllBack old hooks items new
  gives_all old new hooks items left is none = subst (λ (l : List (Cached T g)). GivesAllBack old hooks l new) (sym (is.are ∙ ap (λ (l : List (Cached T g)). l ++ is.given) none)) is.gives

  one_back : (old new : Keg T K g h) (hooks : K) (item : Cached T g) (zone : ℕ) → TakesBack old hooks item new → out_in new zone + cond (cached_zone item == zone) 1 0 ≡ out_in old zone
  one_back old new hooks item zone is = one_count (cached_zone item) zone (out_in new zone) (out_in old zone) (λ at. subst (λ (z : ℕ). out_in new z + 1 ≡ out_in old z) at is.out) (λ ne. is.outs zone (λ at. ne (sym at)))

  -- each zone has as many items fewer outside as came back to it
  pub outs_back : (old new : Keg T K g h) (hooks : K) (items : List (Cached T g)) (zone : ℕ) → GivesAllBack old hooks items new → out_in new zone + count_in items zone ≡ out_in old zone
  outs_back old new hooks [] zone is = omega (arith, ap (λ (keg : Keg T K g h). out_in keg zone) is)
  outs_back old new hooks (item ∷ items) zone is =
      let more : count_in (item ∷ items) zone ≡ cond (cached_zone item == zone) 1 0 + count_in items zone = sum_by-cons (λ (other : Cached T g). cond (cached_zone other == zone) 1 0) item items in
      omega (arith, more, outs_back old is.0 hooks items zone is.1, one_back is.0 new hooks item zone is.2)

  -- each slab stays of its domain
  pub domains_back : (old new : Keg T K g h) (hooks : K) (items : List (Cached T g)) (domains : ℕ) → GivesAllBack old hooks items new → HasDomainsBelow domains (places_in old) → HasDomainsBelow domains (places_in new)
  domains_back old new hooks [] domains is below = same_places (places_in old) (places_in new) domains (ap (λ (keg : Keg T K g h). places_in keg) is) below
  domains_back old new hooks (item ∷ items) domains is below = same_domains (places_in is.0) (places_in new) domains is.2.places.slabs.domains (domains_back old is.0 hooks items domains is.1 below)
