use Rattle.std.proofs.Common.{rules, ◌≡◌, ◌<◌, ◌≤◌, ◌+◌, ◌⊎◌, ◌↔◌, ℕ, Bool, true, false, refl, inl, inr, arith, sym, ◌∙◌}
use Rattle.std.specs.Prelude.{IsTrue}
use Rattle.std.proofs.lemmas.Bool.{cases_lt}
use Rattle.uma_keg.specs.declared.keg.Keg.{Keg}
use Rattle.uma_slabs.specs.Places.{free_count, IsSound}
use Rattle.uma_slabs.specs.Dropping.{IsUsedUp, HasNoneWhollyFree}
use Rattle.uma_keg.specs.FreeSlabs.{FreesSlabs, GivesNoMore, wholly_free_count, slabs_to_free}
use Rattle.uma_keg.specs.Keg.{places_in, reserve_in, IsSameKeg}
use Rattle.uma_keg.proofs.FreedCounts.{one_fewer, freed_count}
use Rattle.uma_keg.proofs.FreedSlabs.{frees_none, frees_more, frees_unmoved, leaves_more, same_more}
use Rattle.uma_keg.proofs.keg.Keg.free_slabs.Goals as goal

stopped : {T K : Type 0} {g : _} {h : _} (old new : Keg T K g h) (count : ℕ) → IsSound (places_in old) → FreesSlabs old count new → wholly_free_count (places_in old) ≡ wholly_free_count (places_in new) + count → (0 < count → reserve_in old ≤ free_count (places_in new)) → (0 < count → IsUsedUp (places_in old) → ⊥) → IsSameKeg old new → GivesNoMore new → count ≡ slabs_to_free (places_in old) (reserve_in old)
stopped old new count sound freed whole kept not_used same no_more = freed_count (places_in old) (places_in new) (reserve_in old) count (record {
  some = sound.some_place;
  per_slab = freed.places.per_slab;
  cap = freed.places.cap;
  made = freed.places.made;
  free_fewer = freed.counts.free;
  whole_fewer = whole;
  kept = kept;
  used_up = λ used_up. elim (cases_lt 0 count) [ inl some ↦ absurd (not_used some used_up) | inr none ↦ omega arith ];
  no_more = elim no_more [
    | inl used_up ↦ inl used_up
    | inr either ↦ elim either [ inl none ↦ inr (inl none) | inr less ↦ inr (inr (omega (arith, less, same.reserve))) ]
  ];
})

short : {T K : Type 0} {g : _} {h : _} (keg : Keg T K g h) (can : Bool) (items : ℕ) → (places_in keg).per_slab ≡ items → (IsTrue can ↔ (reserve_in keg + items ≤ free_count (places_in keg))) → can ≡ false → free_count (places_in keg) < reserve_in keg + (places_in keg).per_slab
short keg can items same spare not = elim (cases_lt (free_count (places_in keg)) (reserve_in keg + (places_in keg).per_slab)) [
  | inl less ↦ less
  | inr enough ↦ let may : can ≡ true = spare.1 (omega (arith, enough, same)) in absurd (cc)
]

none_left : {T K : Type 0} {g : _} {h : _} (keg : Keg T K g h) → IsUsedUp (places_in keg) ⊎ HasNoneWhollyFree (places_in keg) → GivesNoMore keg
none_left keg (inl used_up) = inl used_up
none_left keg (inr none) = inr (inl none)

pub loop-self-init : goal.loop-self-init
loop-self-init g c =
    let keg = c.args.self.now in
    let sound = c.counts-per_slab.ensures.sound in
    record {
      freed = frees_none keg sound;
      leaves = λ n. inl refl;
      reserve = λ some. omega arith;
      whole = omega arith;
      not_used = λ some. omega arith;
      few = omega (arith, sound.slabs, sound.few_slabs);
      zones = refl;
      rights = refl;
      limits = λ zone. refl;
      fetches = λ zone. refl;
      same = record { table = refl; rights_table = refl; size = refl; per_slab = refl; cap = refl; reserve = refl; hooks = refl };
    }

pub loop-self-preserved : goal.loop-self-preserved
loop-self-preserved g c =
    let old = c.args.self.now in
    let mid = c.loop-self.self in
    let new = c.free_slab.new.self in
    let before = c.loop-self.invariant in
    let one = c.in-Some.ensures in
    record {
      freed = frees_more old mid new c.loop-self.count c.in-Some.field-0 before.same.hooks before.leaves before.freed one.frees.freed;
      leaves = leaves_more old mid new c.in-Some.field-0 before.leaves one.frees.freed;
      reserve = λ some. let spare : reserve_in mid + c.counts-per_slab.result.per_slab ≤ free_count (places_in mid) = c.can_spare.ensures.0 c.loop-self-test.true in omega (arith, spare, one.frees.freed.counts.free, one.frees.freed.places.per_slab, before.same.reserve, before.same.per_slab, c.counts-per_slab.ensures.per_slab);
      whole = omega (arith, before.whole, one_fewer (places_in mid) (places_in new) c.in-Some.field-0 one.frees.freed.places);
      not_used = λ some used_up. absurd (cc (one.frees.none_exactly.1 (inl (omega (arith, used_up, before.freed.places.cap, before.freed.places.made)))));
      few = omega (arith, before.few, one.frees.freed.counts.slabs);
      zones = one.kept.zones ∙ before.zones;
      rights = one.kept.rights ∙ before.rights;
      limits = λ zone. one.kept.limits zone ∙ before.limits zone;
      fetches = λ zone. one.kept.fetches zone ∙ before.fetches zone;
      same = same_more old mid new before.same one.kept.same;
    }

unused : (count : ℕ) (UsedUp : Type 0) → (0 < count → UsedUp → ⊥) → UsedUp → count ≡ 0
unused count UsedUp not used_up = elim (cases_lt 0 count) [ inl some ↦ absurd (not some used_up) | inr none ↦ omega arith ]

-- where no slab is wholly free, or too many were ever brought in
pub returns-in_default-clause-frees : goal.returns-in_default-clause-frees
returns-in_default-clause-frees g c =
    let before = c.loop-self.invariant in
    let sound = c.counts-per_slab.ensures.sound in
    let old = c.args.self.now in
    let keg = c.loop-self.self in
    let no_more = none_left keg (c.in_default.ensures.frees.none_exactly.0 refl) in
    record {
      freed = frees_unmoved old keg c.free_slab.new.self c.loop-self.count before.freed c.in_default.ensures.frees.unmoved;
      count = stopped old keg c.loop-self.count sound before.freed before.whole before.reserve before.not_used before.same no_more;
      reserve = search rules;
      used_up = unused c.loop-self.count (IsUsedUp (places_in old)) before.not_used;
      no_more = search rules;
    }

-- where one slab more would take of the reserve
pub returns-clause-frees : goal.returns-clause-frees
returns-clause-frees g c =
    let before = c.loop-self.invariant in
    let sound = c.counts-per_slab.ensures.sound in
    let old = c.args.self.now in
    let keg = c.loop-self.self in
    let no_more : GivesNoMore keg = inr (inr (short keg c.can_spare.result _ (before.same.per_slab ∙ sym c.counts-per_slab.ensures.per_slab) c.can_spare.ensures c.loop-self-test.false)) in
    record {
      freed = before.freed;
      count = stopped old keg c.loop-self.count sound before.freed before.whole before.reserve before.not_used before.same no_more;
      reserve = before.reserve;
      used_up = unused c.loop-self.count (IsUsedUp (places_in old)) before.not_used;
      no_more = no_more;
    }
