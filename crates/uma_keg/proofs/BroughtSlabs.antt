-- Slabs that are brought into a keg one after the other.
use Rattle.std.proofs.Common.{◌≡◌, ◌≢◌, ◌≤◌, ◌<◌, ◌+◌, ◌/◌, ◌⊎◌, ℕ, Option, Some, None, IsSome, refl, inl, inr, arith, sym, ap, subst, ◌∙◌}
use Rattle.std.specs.Option.{IsSomeAnd}
use Rattle.std.proofs.lemmas.Bool.{cases_eq, cases_lt}
use Rattle.uma_life.specs.declared.states.Stored.{Stored}
use Rattle.uma_keg.specs.declared.fetch.FetchRefused.{FetchRefused}
use Rattle.uma_keg.specs.declared.keg.Keg.{Keg}
use Rattle.uma_slabs.specs.Places.{KegPlaces, IsIn, domain_at, slab_count, free_count, Brings}
use Rattle.uma_keg.specs.NewItems.{IsNewItem}
use Rattle.uma_keg.specs.BringSlab.{AcceptsNumber, BringsSlab, RefusesSlab}
use Rattle.uma_keg.specs.Fetch.{IsEnough, IsNewSlabs}
use Rattle.uma_keg.specs.Keg.{places_in, stored_in, buried_in, reserve_in, hooks_in, IsSameKeg}
use Rattle.uma_keg.specs.BringSlabs.{found_in, IsNewSlab, BringsSlabs, StopsAtSlab}

not_both : (o : Option ℕ) → o ≡ None → IsSome o → ⊥
not_both None is there = cc
not_both (Some d) is there = cc

there : (o : Option ℕ) (d : ℕ) → o ≡ Some d → IsSome o
there o d is = rw is refl

none_new : (places : KegPlaces) (index : ℕ) → IsNewSlab places places index → ⊥
none_new places index is = not_both (domain_at places index) is.absent is.is_in

pub brings_none : {T K : Type 0} {g : _} {h : _} (keg : Keg T K g h) (domain : ℕ) → BringsSlabs keg domain 0 keg
brings_none keg domain = record {
  counts = record { slabs = omega arith; free = omega arith; out = refl; made = omega arith; per_slab = refl; cap = refl };
  domains = λ index is. absurd (none_new (places_in keg) index is);
  least = λ index lower is below. absurd (none_new (places_in keg) index is);
  free = λ n is. absurd (none_new (places_in keg) (n / (places_in keg).per_slab) is);
  items = λ n is. absurd (none_new (places_in keg) (n / (places_in keg).per_slab) is);
  accepted = λ n is. absurd (none_new (places_in keg) (n / (places_in keg).per_slab) is);
  other_slabs = λ index none. refl;
  other_places = λ n none. refl;
  other_items = λ n none. refl;
  buried = refl;
}

-- What one slab more changes: it is new, and the new ones before it stay new.
record AddsIndex (old mid new : KegPlaces) (index : ℕ) : Type 0 where
  here : IsNewSlab old new index
  before : (other : ℕ) → IsNewSlab old new other → other ≢ index → IsNewSlab old mid other
  after : (other : ℕ) → IsNewSlab old mid other → IsNewSlab old new other
  apart : (other : ℕ) → (IsNewSlab old new other → ⊥) → other ≢ index

adds_index : (old mid new : KegPlaces) (domain index : ℕ) → ((other : ℕ) → (IsNewSlab old mid other → ⊥) → domain_at mid other ≡ domain_at old other) → Brings mid domain index new → AddsIndex old mid new index
adds_index old mid new domain index others brings =
    let absent : domain_at old index ≡ None = sym (others index (λ is. not_both (domain_at mid index) brings.absent is.is_in)) ∙ brings.absent in
    let here : IsNewSlab old new index = record { absent = absent; is_in = there (domain_at new index) domain brings.domain } in
    record {
      here = here;
      before = λ other is ne. record { absent = is.absent; is_in = subst IsSome (brings.other_slabs other ne) is.is_in };
      after = λ other is.
          let ne : other ≢ index = λ at. not_both (domain_at mid other) (ap (domain_at mid) at ∙ brings.absent) is.is_in in
          record { absent = is.absent; is_in = subst IsSome (sym (brings.other_slabs other ne)) is.is_in };
      apart = λ other none at. none (subst (IsNewSlab old new) (sym at) here);
    }

accepts_same : {T K : Type 0} {g : _} {h : _} (old mid : Keg T K g h) (n : ℕ) → hooks_in mid ≡ hooks_in old → AcceptsNumber mid n → AcceptsNumber old n
accepts_same {T} {K} {g} {h} old mid n same is = (is.0, is.1, ap (λ hooks. h.refuses_init hooks is.0 0) (sym same) ∙ is.2)

pub brings_more : {T K : Type 0} {g : _} {h : _} (old mid new : Keg T K g h) (domain slabs : ℕ) → IsSameKeg old mid → BringsSlabs old domain slabs mid → BringsSlab mid domain new → BringsSlabs old domain (slabs + 1) new
brings_more {T} {K} {g} {h} old mid new domain slabs same first one =
    let index = one.index in
    let p = (places_in old).per_slab in
    let e : (places_in mid).per_slab ≡ p = first.counts.per_slab in
    let adds = adds_index (places_in old) (places_in mid) (places_in new) domain index first.other_slabs one.places in
    let at_mid : (n : ℕ) → n / p ≡ index → n / (places_in mid).per_slab ≡ index = λ n at. ap (λ (q : ℕ). n / q) e ∙ at in
    let not_mid : (n : ℕ) → n / p ≢ index → n / (places_in mid).per_slab ≢ index = λ n ne at. ne (ap (λ (q : ℕ). n / q) (sym e) ∙ at) in
    record {
      counts = record {
        slabs = omega (arith, one.counts.slabs, first.counts.slabs);
        free = omega (arith, one.counts.free, first.counts.free, e);
        out = one.counts.out ∙ first.counts.out;
        made = omega (arith, one.places.made, first.counts.made);
        per_slab = one.places.per_slab ∙ e;
        cap = one.places.cap ∙ first.counts.cap;
      };
      domains = λ other is. elim (cases_eq other index) [
        | inl at ↦ ap (domain_at (places_in new)) at ∙ one.places.domain
        | inr ne ↦ one.places.other_slabs other ne ∙ first.domains other (adds.before other is ne)
      ];
      least = λ other lower is below. elim (cases_eq lower index) [
        | inl low ↦ subst (λ (i : ℕ). IsIn (places_in new) i) (sym low) adds.here.is_in
        | inr low ↦ subst IsSome (sym (one.places.other_slabs lower low)) (elim (cases_eq other index) [
          | inl at ↦ one.places.least lower (omega (arith, at, below))
          | inr ne ↦ first.least other lower (adds.before other is ne) below
        ])
      ];
      free = λ n is. elim (cases_eq (n / p) index) [
        | inl at ↦ one.places.free n (at_mid n at)
        | inr ne ↦ one.places.other_places n (not_mid n ne) ∙ first.free n (adds.before (n / p) is ne)
      ];
      items = λ n is. elim (cases_eq (n / p) index) [
        | inl at ↦ one.items n (at_mid n at)
        | inr ne ↦
            let Holds : Option (Stored T g) → Type 0 = λ o. IsSomeAnd o (IsNewItem n) in
            subst Holds (sym (one.others n (not_mid n ne))) (first.items n (adds.before (n / p) is ne))
      ];
      accepted = λ n is. elim (cases_eq (n / p) index) [
        | inl at ↦ accepts_same old mid n same.hooks (one.accepted n (at_mid n at))
        | inr ne ↦ first.accepted n (adds.before (n / p) is ne)
      ];
      other_slabs = λ other none. one.places.other_slabs other (adds.apart other none) ∙ first.other_slabs other (λ is. none (adds.after other is));
      other_places = λ n none. one.places.other_places n (not_mid n (adds.apart (n / p) none)) ∙ first.other_places n (λ is. none (adds.after (n / p) is));
      other_items = λ n none. one.others n (not_mid n (adds.apart (n / p) none)) ∙ first.other_items n (λ is. none (adds.after (n / p) is));
      buried = one.buried ∙ first.buried;
    }

-- slabs were brought in, and fewer were never enough
pub record Bringing {T K : Type 0} {g : _} {h : _} (old : Keg T K g h) (domain : ℕ) (new : Keg T K g h) : Type 0 where
  pub slabs : ℕ
  pub brings : BringsSlabs old domain slabs new
  pub unmet : (zone fewer : ℕ) → fewer < slabs → IsEnough (found_in old zone) fewer → ⊥

pub bringing_none : {T K : Type 0} {g : _} {h : _} (keg : Keg T K g h) (domain : ℕ) → Bringing keg domain keg
bringing_none keg domain = record { slabs = 0; brings = brings_none keg domain; unmet = λ zone fewer below enough. omega arith }

not_enough : {T K : Type 0} {g : _} {h : _} (old mid : Keg T K g h) (domain slabs : ℕ) → IsSameKeg old mid → BringsSlabs old domain slabs mid → free_count (places_in mid) ≤ reserve_in mid → slab_count (places_in mid) < (places_in mid).cap → (zone : ℕ) → IsEnough (found_in old zone) slabs → ⊥
not_enough old mid domain slabs same brings none room zone enough = elim enough [
  | inl beyond ↦ omega (arith, beyond, none, brings.counts.free, same.reserve)
  | inr all ↦ omega (arith, all, room, brings.counts.slabs, brings.counts.cap)
]

unmet_more : {T K : Type 0} {g : _} {h : _} (old mid : Keg T K g h) (domain : ℕ) (before : Bringing old domain mid) → IsSameKeg old mid → free_count (places_in mid) ≤ reserve_in mid → slab_count (places_in mid) < (places_in mid).cap → (zone fewer : ℕ) → fewer ≤ before.slabs → IsEnough (found_in old zone) fewer → ⊥
unmet_more old mid domain before same none room zone fewer below enough = elim (cases_lt fewer before.slabs) [
  | inl less ↦ before.unmet zone fewer less enough
  | inr at ↦
      let e : fewer ≡ before.slabs = omega arith in
      not_enough old mid domain before.slabs same before.brings none room zone (subst (IsEnough (found_in old zone)) e enough)
]

pub bringing_more : {T K : Type 0} {g : _} {h : _} (old mid new : Keg T K g h) (domain : ℕ) → Bringing old domain mid → IsSameKeg old mid → free_count (places_in mid) ≤ reserve_in mid → slab_count (places_in mid) < (places_in mid).cap → BringsSlab mid domain new → Bringing old domain new
bringing_more old mid new domain before same none room one = record {
  slabs = before.slabs + 1;
  brings = brings_more old mid new domain before.slabs same before.brings one;
  unmet = λ zone fewer below. unmet_more old mid domain before same none room zone fewer (omega (arith, below));
}

-- the next slab was refused
pub stops_bringing : {T K : Type 0} {g : _} {h : _} (old mid new : Keg T K g h) (domain : ℕ) (why : FetchRefused) → Bringing old domain mid → IsSameKeg old mid → free_count (places_in mid) ≤ reserve_in mid → slab_count (places_in mid) < (places_in mid).cap
    → RefusesSlab mid (buried_in new) why → places_in new ≡ places_in mid → ((n : ℕ) → stored_in new n ≡ stored_in mid n) → StopsAtSlab old domain why new
stops_bringing old mid new domain why before same none room refused places stored = record {
  slabs = before.slabs;
  left = mid;
  brings = before.brings;
  same = same;
  fewer = unmet_more old mid domain before same none room;
  refused = refused;
  places = places;
  stored = stored;
}

no_more : (r f s c : ℕ) → ((f ≤ r) × (s < c) → ⊥) → s ≤ c → (r < f) ⊎ (s ≡ c)
no_more r f s c stop within = elim (cases_lt r f) [
  | inl beyond ↦ inl beyond
  | inr none ↦ elim (cases_lt s c) [ inl room ↦ absurd (stop (omega arith, room)) | inr all ↦ inr (omega arith) ]
]

-- as many were brought in as are enough
pub brings_enough : {T K : Type 0} {g : _} {h : _} (old new : Keg T K g h) (domain : ℕ) (done : Bringing old domain new) → IsSameKeg old new → ((free_count (places_in new) ≤ reserve_in new) × (slab_count (places_in new) < (places_in new).cap) → ⊥) → slab_count (places_in new) ≤ (places_in new).cap → (zone : ℕ) → IsNewSlabs (found_in old zone) done.slabs
brings_enough old new domain done same stop within zone = record {
  enough = elim (no_more (reserve_in new) (free_count (places_in new)) (slab_count (places_in new)) (places_in new).cap stop within) [
    | inl beyond ↦ inl (omega (arith, beyond, done.brings.counts.free, same.reserve))
    | inr all ↦ inr (omega (arith, all, done.brings.counts.slabs, done.brings.counts.cap))
  ];
  least = λ fewer below. done.unmet zone fewer below;
}
