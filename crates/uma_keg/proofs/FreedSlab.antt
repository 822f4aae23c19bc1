-- A keg keeps its law where a wholly free slab is given up.
use Rattle.std.proofs.Common.{◌≡◌, ◌≤◌, ◌+◌, ◌*◌, ◌/◌, ◌^◌, ℕ, List, Option, Some, None, is_some, inl, inr, arith, sym, ap, ◌∙◌}
use Rattle.std.proofs.lemmas.Bool.{cases_eq}
use Rattle.uma_life.specs.declared.tally.TallySum.{TallySum}
use Rattle.uma_life.specs.Hook.{Hook}
use Rattle.uma_life.specs.Sum.{sum_of}
use Rattle.uma_keg.specs.declared.home_items.HomeItems.{HomeItems}
use Rattle.uma_keg.specs.declared.slabs.SlabItems.{SlabItems}
use Rattle.uma_slabs.specs.Places.{KegPlaces, slab_count}
use Rattle.uma_slabs.specs.Dropping.{Drops}
use Rattle.uma_keg.specs.HomeItems.{IsRemoved}
use Rattle.uma_keg.specs.Tallies.{TallyLaw}
use Rattle.uma_keg.specs.KegLaw.{PlacesLaw, is_used_place, is_free_place}

none_some : {X : Type 0} (x : X) → None ≡ Some x → ⊥
none_some x e = cc

pub PlacesLaw-dropped : {T : Type 0} {g : _} (places now : KegPlaces) (zones : List (Option ℕ)) (home_items fewer : HomeItems T g) (index : ℕ) (slab_items : SlabItems T g) → PlacesLaw places zones home_items → Drops places index now → IsRemoved home_items fewer index slab_items → PlacesLaw now zones fewer
PlacesLaw-dropped places now zones home_items fewer index slab_items law drops removed = record {
  per_slab = removed.places ∙ law.per_slab ∙ sym drops.per_slab;
  cap = removed.count ∙ law.cap ∙ sym drops.cap;
  numbers = rw (drops.per_slab, drops.cap) law.numbers;
  slabs = λ other. elim (cases_eq other index) [
    | inl at ↦ rw at (removed.no_slab ∙ sym (ap is_some drops.absent))
    | inr else ↦ removed.home_items other else ∙ law.slabs other ∙ sym (ap is_some (drops.other_slabs other else))
  ];
  outside = λ n. elim (cases_eq (n / places.per_slab) index) [
    | inl at ↦ law.outside n ∙ ap is_used_place (drops.whole.free n at) ∙ sym (ap is_used_place (drops.nowhere n at))
    | inr else ↦ law.outside n ∙ sym (ap is_used_place (drops.other_places n else))
  ];
  home = λ n. elim (cases_eq (n / places.per_slab) index) [
    | inl at ↦ ap is_some (removed.gone n (ap (λ p. n / p) law.per_slab ∙ at)) ∙ sym (ap is_free_place (drops.nowhere n at))
    | inr else ↦ ap is_some (removed.others n (λ at. else (ap (λ p. n / p) (sym law.per_slab) ∙ at))) ∙ law.home n ∙ sym (ap is_free_place (drops.other_places n else))
  ];
  numbered = λ n item is. elim (cases_eq (n / places.per_slab) index) [
    | inl at ↦ absurd (none_some item (sym (removed.gone n (ap (λ p. n / p) law.per_slab ∙ at)) ∙ is))
    | inr else ↦ law.numbered n item (sym (removed.others n (λ at. else (ap (λ p. n / p) (sym law.per_slab) ∙ at))) ∙ is)
  ];
}

-- the sums keep their bound where the items of one slab fewer may be at home
pub TallyLaw-dropped : (old new : TallySum) (places now : KegPlaces) (ended : Hook → ℕ) → TallyLaw old places → slab_count places ≡ slab_count now + 1 → now.per_slab ≡ places.per_slab → ((hook : Hook) → sum_of new hook ≡ sum_of old hook + ended hook) → ((hook : Hook) → ended hook ≤ places.per_slab * 2 ^ 64) → TallyLaw new now
TallyLaw-dropped old new places now ended law fewer each added few = record {
  each = λ hook.
      let less : slab_count places * places.per_slab ≡ slab_count now * places.per_slab + places.per_slab = rw fewer (omega arith) in
      omega (arith, law.each hook, less, ap (λ p. slab_count now * p) each, added hook, few hook);
}
