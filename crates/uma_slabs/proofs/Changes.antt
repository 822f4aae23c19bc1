-- What follows where one number comes out or goes back.
use Rattle.std.proofs.Common.{◌≡◌, ◌≢◌, ◌↔◌, ◌⊎◌, ℕ, ◌*◌, ◌/◌, ◌<◌, true, false, Some, IsSome, arith, sym, subst, inl, inr, ◌∙◌}
use Rattle.std.proofs.lemmas.Bool.{cases_eq}
use Rattle.uma_slabs.specs.Places.{KegPlaces, place_at, slab_count, IsSound, IsIn, KeepsSlabs, KeepsOthers, CountsOneOut, IsFree, IsOut}

free_not_out : Some true ≡ Some false → ⊥
free_not_out e = cc

-- exactly number n is out besides those that were
pub outs_taken : (old new : KegPlaces) (n : ℕ) → IsOut new n → KeepsOthers old n new → (other : ℕ) → IsOut new other ↔ (IsOut old other ⊎ (other ≡ n))
outs_taken old new n out others other =
    elim (cases_eq other n) [
      | inl same ↦ (λ _. inr same, λ _. rw same out)
      | inr ne ↦ (
        λ is. inl (sym (others other ne) ∙ is),
        λ is. elim is [ inl was ↦ others other ne ∙ was | inr same ↦ absurd (ne same) ],
      )
    ]

-- exactly number n is out no more
pub outs_given : (old new : KegPlaces) (n : ℕ) → IsFree new n → KeepsOthers old n new → (other : ℕ) → IsOut new other ↔ (IsOut old other × (other ≢ n))
outs_given old new n free others other =
    elim (cases_eq other n) [
      | inl same ↦ (
        λ is. let here : IsFree new other = rw same free in absurd (free_not_out (sym here ∙ is)),
        λ is. absurd (is.1 same),
      )
      | inr ne ↦ (λ is. (sym (others other ne) ∙ is, ne), λ is. others other ne ∙ is.0)
    ]

-- a keg stays sound where one number comes out or goes back
numbers_kept : (old new : KegPlaces) (n : ℕ) → IsSound old → KeepsSlabs old new → KeepsOthers old n new → IsSome (place_at old n) → (m : ℕ) → IsSome (place_at new m) → m < new.cap * new.per_slab
numbers_kept old new n sound slabs others here m some =
    rw (slabs.cap, slabs.per_slab)
    (elim (cases_eq m n) [
      | inl same ↦ rw same (sound.numbers n here)
      | inr ne ↦ sound.numbers m (rw (← others m ne) some)
    ])

whole_kept : (old new : KegPlaces) (n : ℕ) → IsSound old → KeepsSlabs old new → KeepsOthers old n new → IsSome (place_at new n) → (m : ℕ) → IsIn new (m / new.per_slab) → IsSome (place_at new m)
whole_kept old new n sound slabs others here m in_new =
    elim (cases_eq m n) [
      | inl same ↦ rw same here
      | inr ne ↦
          let In : ℕ → Type 0 = λ places. IsIn old (m / places) in
          let in_old = subst In slabs.per_slab (rw (← slabs.domains (m / new.per_slab)) in_new) in
          rw (others m ne) (sound.whole m in_old)
    ]

-- the places of the slabs, where neither their number nor the places of one changed
places_kept : (old new : KegPlaces) → slab_count new ≡ slab_count old → new.per_slab ≡ old.per_slab → slab_count new * new.per_slab ≡ slab_count old * old.per_slab
places_kept old new slabs size = cc

pub IsSound-taken : (old new : KegPlaces) (n : ℕ) → IsSound old → KeepsSlabs old new → KeepsOthers old n new → IsSome (place_at old n) → IsSome (place_at new n) → CountsOneOut old new → IsSound new
IsSound-taken old new n sound slabs others here there counts =
    let places = places_kept old new counts.slabs slabs.per_slab in
    record {
      some_place = omega arith;
      few_places = omega arith;
      some_slab = omega arith;
      few_slabs = omega arith;
      slabs = omega arith;
      places = omega (arith, places);
      whole = whole_kept old new n sound slabs others there;
      numbers = numbers_kept old new n sound slabs others here;
      made = omega arith;
    }

pub IsSound-given : (old new : KegPlaces) (n : ℕ) → IsSound old → KeepsSlabs old new → KeepsOthers old n new → IsSome (place_at old n) → IsSome (place_at new n) → CountsOneOut new old → IsSound new
IsSound-given old new n sound slabs others here there counts =
    let places = places_kept old new (sym counts.slabs) slabs.per_slab in
    record {
      some_place = omega arith;
      few_places = omega arith;
      some_slab = omega arith;
      few_slabs = omega arith;
      slabs = omega arith;
      places = omega (arith, places);
      whole = whole_kept old new n sound slabs others there;
      numbers = numbers_kept old new n sound slabs others here;
      made = omega arith;
    }
