-- A keg that gave up some slabs, and one more.
use Rattle.std.proofs.Common.{◌≡◌, ◌≢◌, ◌<◌, ◌+◌, ◌*◌, ◌/◌, ◌⊎◌, ℕ, Option, None, IsSome, refl, inl, inr, arith, sym, ap, subst, ◌∙◌}
use Rattle.std.proofs.lemmas.Bool.{cases_eq, cases_lt}
use Rattle.std.proofs.lemmas.Nat.{div_below, div-mul-add}
use Rattle.uma_keg.specs.declared.keg.Keg.{Keg}
use Rattle.uma_slabs.specs.Places.{KegPlaces, domain_at, IsIn, IsFree, IsSound, CountsOneSlab}
use Rattle.uma_slabs.specs.Dropping.{IsWhollyFree, Drops}
use Rattle.uma_life.specs.declared.tally.TallySum.{TallySum}
use Rattle.uma_life.specs.Sum.{sum_of}
use Rattle.uma_keg.specs.Tallies.{sum_below}
use Rattle.uma_keg.specs.Frames.{IsUnmoved}
use Rattle.uma_keg.specs.Keg.{places_in, stored_in, hooks_in, buried_in, IsSameKeg}
use Rattle.uma_keg.specs.FreeSlabs.{Goes, DropsFrom, CountsFewer, BuriesGone, FreesSlabs, FreesSlab, times_gone}
use Rattle.uma_keg.proofs.EndedItems.{ended_before}
use Rattle.uma_keg.proofs.GoneSums.{sum_below-add, sum_below-same, same_sums, gone_twice}

no_some : {X : Type 0} (o : Option X) → o ≡ None → IsSome o → ⊥
no_some o none some = cc

-- a slab that is in has an index below the cap
pub within_cap : (k : KegPlaces) (index : ℕ) → IsSound k → IsWhollyFree k index → index < k.cap
within_cap k index sound whole =
    let at : (index * k.per_slab + 0) / k.per_slab ≡ index = div-mul-add index k.per_slab 0 sound.some_place in
    let free : IsFree k (index * k.per_slab + 0) = whole.free (index * k.per_slab + 0) at in
    let below = sound.numbers (index * k.per_slab + 0) (rw free refl) in
    omega (arith, at, div_below (index * k.per_slab + 0) k.per_slab k.cap sound.some_place below)

none_goes : (k : KegPlaces) (index : ℕ) → IsSound k → Goes k k.cap index → ⊥
none_goes k index sound goes = omega (arith, goes.above, within_cap k index sound goes.whole)

drops_none : (k : KegPlaces) → IsSound k → DropsFrom k k.cap k
drops_none k sound = record {
  absent = λ index goes. absurd (none_goes k index sound goes);
  nowhere = λ n goes. absurd (none_goes k (n / k.per_slab) sound goes);
  other_slabs = λ index no. refl;
  other_places = λ n no. refl;
  per_slab = refl;
  cap = refl;
  made = refl;
}

stays_in : (old mid : KegPlaces) (from j : ℕ) → DropsFrom old from mid → IsIn mid j → Goes old from j → ⊥
stays_in old mid from j drops there goes = no_some (domain_at mid j) (drops.absent j goes) there

-- a slab that is wholly free later was so before
was_whole : (old mid : KegPlaces) (from j : ℕ) → DropsFrom old from mid → IsWhollyFree mid j → IsWhollyFree old j
was_whole old mid from j drops whole =
    let stays = stays_in old mid from j drops whole.is_in in
    record {
      is_in = rw (← drops.other_slabs j stays) whole.is_in;
      free = λ n at.
          let there : n / mid.per_slab ≡ j = ap (λ p. n / p) drops.per_slab ∙ at in
          sym (drops.other_places n (λ goes. stays (subst (Goes old from) at goes))) ∙ whole.free n there;
    }

-- and one that stayed is so still
still_whole : (old mid : KegPlaces) (from j : ℕ) → DropsFrom old from mid → (Goes old from j → ⊥) → IsWhollyFree old j → IsWhollyFree mid j
still_whole old mid from j drops stays whole = record {
  is_in = rw (drops.other_slabs j stays) whole.is_in;
  free = λ n at.
      let there : n / old.per_slab ≡ j = ap (λ p. n / p) (sym drops.per_slab) ∙ at in
      drops.other_places n (λ goes. stays (subst (Goes old from) there goes)) ∙ whole.free n there;
}

lower_index : (old mid : KegPlaces) (from index : ℕ) → DropsFrom old from mid → IsWhollyFree mid index → index < from
lower_index old mid from index drops whole = elim (cases_lt index from) [
  | inl lower ↦ lower
  | inr above ↦ absurd (stays_in old mid from index drops whole.is_in (record { above = above; whole = was_whole old mid from index drops whole }))
]

-- what goes with one slab more is that slab, or went before
gone_or_before : (old mid new : KegPlaces) (from index j : ℕ) → DropsFrom old from mid → Drops mid index new → Goes old index j → (j ≡ index) ⊎ Goes old from j
gone_or_before old mid new from index j drops drop goes = elim (cases_eq j index) [
  | inl at ↦ inl at
  | inr other ↦ elim (cases_lt j from) [
    | inl lower ↦
        let stays : Goes old from j → ⊥ = λ went. omega (arith, went.above, lower) in
        absurd (drop.greatest j (omega (arith, goes.above, other)) (still_whole old mid from j drops stays goes.whole))
    | inr above ↦ inr (record { above = above; whole = goes.whole })
  ]
]

-- what stays is another slab, and stayed before
not_this : (old mid new : KegPlaces) (from index j : ℕ) → DropsFrom old from mid → Drops mid index new → (Goes old index j → ⊥) → j ≢ index
not_this old mid new from index j drops drop stays at =
    let whole : IsWhollyFree old index = was_whole old mid from index drops drop.whole in
    stays (record { above = omega (arith, at); whole = subst (IsWhollyFree old) (sym at) whole })

not_before : (old mid new : KegPlaces) (from index j : ℕ) → DropsFrom old from mid → Drops mid index new → (Goes old index j → ⊥) → Goes old from j → ⊥
not_before old mid new from index j drops drop stays goes = stays (record { above = omega (arith, goes.above, lower_index old mid from index drops drop.whole); whole = goes.whole })

slab_then : (n p q : ℕ) → q ≡ p → (index : ℕ) → n / p ≢ index → n / q ≢ index
slab_then n p q same index other at = other (ap (λ r. n / r) (sym same) ∙ at)

drops_more : (old mid new : KegPlaces) (from index : ℕ) → DropsFrom old from mid → Drops mid index new → DropsFrom old index new
drops_more old mid new from index drops drop = record {
  absent = λ j goes. elim (cases_eq j index) [
    | inl at ↦ rw at drop.absent
    | inr other ↦ elim (gone_or_before old mid new from index j drops drop goes) [
      | inl at ↦ absurd (other at)
      | inr before ↦ drop.other_slabs j other ∙ drops.absent j before
    ]
  ];
  nowhere = λ n goes. elim (cases_eq (n / old.per_slab) index) [
    | inl at ↦ drop.nowhere n (ap (λ p. n / p) drops.per_slab ∙ at)
    | inr other ↦ elim (gone_or_before old mid new from index (n / old.per_slab) drops drop goes) [
      | inl at ↦ absurd (other at)
      | inr before ↦ drop.other_places n (slab_then n old.per_slab mid.per_slab drops.per_slab index other) ∙ drops.nowhere n before
    ]
  ];
  other_slabs = λ j stays. drop.other_slabs j (not_this old mid new from index j drops drop stays) ∙ drops.other_slabs j (not_before old mid new from index j drops drop stays);
  other_places = λ n stays. drop.other_places n (slab_then n old.per_slab mid.per_slab drops.per_slab index (not_this old mid new from index (n / old.per_slab) drops drop stays)) ∙ drops.other_places n (not_before old mid new from index (n / old.per_slab) drops drop stays);
  per_slab = drop.per_slab ∙ drops.per_slab;
  cap = drop.cap ∙ drops.cap;
  made = drop.made ∙ drops.made;
}

counts_more : (old mid new : KegPlaces) (count : ℕ) → CountsFewer old count mid → CountsOneSlab new mid → new.per_slab ≡ old.per_slab → CountsFewer old (count + 1) new
counts_more old mid new count counts one each =
    let size : (count + 1) * old.per_slab ≡ count * old.per_slab + old.per_slab = omega arith in
    record {
      slabs = omega (arith, counts.slabs, one.slabs);
      free = omega (arith, counts.free, one.free, each, size);
      out = omega (arith, counts.out, one.out);
    }

-- each item is where it was, or at home no more
abbrev pub Leaves : {T K : Type 0} {g : _} {h : _} → Keg T K g h → Keg T K g h → Type 0
Leaves old new = (n : ℕ) → (stored_in new n ≡ stored_in old n) ⊎ (stored_in new n ≡ None)

pub frees_none : {T K : Type 0} {g : _} {h : _} (keg : Keg T K g h) → IsSound (places_in keg) → FreesSlabs keg 0 keg
frees_none keg sound = record {
  from = (places_in keg).cap;
  places = drops_none (places_in keg) sound;
  counts = record { slabs = omega arith; free = omega arith; out = refl };
  gone = λ n goes. absurd (none_goes (places_in keg) (n / (places_in keg).per_slab) sound goes);
  ended = λ n goes. absurd (none_goes (places_in keg) (n / (places_in keg).per_slab) sound goes);
  others = λ n no. refl;
  buried = λ hook. omega (arith, same_sums hook (stored_in keg) ((places_in keg).cap * (places_in keg).per_slab));
}

pub leaves_more : {T K : Type 0} {g : _} {h : _} (old mid new : Keg T K g h) (index : ℕ) → Leaves old mid → FreesSlab mid index new → Leaves old new
leaves_more old mid new index leaves one n = elim (cases_eq (n / (places_in mid).per_slab) index) [
  | inl at ↦ inr (one.gone n at)
  | inr other ↦ elim (leaves n) [
    | inl same ↦ inl (one.others n other ∙ same)
    | inr gone ↦ inr (one.others n other ∙ gone)
  ]
]

leaves_one : {T K : Type 0} {g : _} {h : _} (mid new : Keg T K g h) (index : ℕ) → FreesSlab mid index new → (n : ℕ) → (stored_in new n ≡ stored_in mid n) ⊎ (stored_in new n ≡ None)
leaves_one mid new index one n = elim (cases_eq (n / (places_in mid).per_slab) index) [
  | inl at ↦ inr (one.gone n at)
  | inr other ↦ inl (one.others n other)
]

buries_more : {T K : Type 0} {g : _} {h : _} (old mid new : Keg T K g h) (count index : ℕ) → ((n : ℕ) → (stored_in mid n ≡ stored_in old n) ⊎ (stored_in mid n ≡ None)) → FreesSlabs old count mid → FreesSlab mid index new → BuriesGone old new
buries_more {T} {K} {g} {h} old mid new count index leaves before one hook =
    let both = sum_below-add (λ n. times_gone hook (stored_in old n) (stored_in new n)) (λ n. times_gone hook (stored_in old n) (stored_in mid n)) (λ n. times_gone hook (stored_in mid n) (stored_in new n)) (λ n. gone_twice hook (stored_in old n) (stored_in mid n) (stored_in new n) (leaves n) (leaves_one mid new index one n)) ((places_in old).cap * (places_in old).per_slab) in
    let size : (places_in mid).cap * (places_in mid).per_slab ≡ (places_in old).cap * (places_in old).per_slab = ap (λ p. (places_in mid).cap * p) before.places.per_slab ∙ ap (λ cap. cap * (places_in old).per_slab) before.places.cap in
    omega (arith, before.buried hook, one.buried hook, ap (sum_below (λ n. times_gone hook (stored_in mid n) (stored_in new n))) size, both)

-- one slab more
pub frees_more : {T K : Type 0} {g : _} {h : _} (old mid new : Keg T K g h) (count index : ℕ) → hooks_in mid ≡ hooks_in old → Leaves old mid → FreesSlabs old count mid → FreesSlab mid index new → FreesSlabs old (count + 1) new
frees_more old mid new count index hooks leaves before one =
    record {
      from = index;
      places = drops_more (places_in old) (places_in mid) (places_in new) before.from index before.places one.places;
      counts = counts_more (places_in old) (places_in mid) (places_in new) count before.counts one.counts (one.places.per_slab ∙ before.places.per_slab);
      gone = λ n goes. elim (cases_eq (n / (places_in old).per_slab) index) [
        | inl at ↦ one.gone n (ap (λ p. n / p) before.places.per_slab ∙ at)
        | inr other ↦ elim (gone_or_before (places_in old) (places_in mid) (places_in new) before.from index (n / (places_in old).per_slab) before.places one.places goes) [
          | inl at ↦ absurd (other at)
          | inr went ↦ one.others n (slab_then n (places_in old).per_slab (places_in mid).per_slab before.places.per_slab index other) ∙ before.gone n went
        ]
      ];
      ended = λ n goes. elim (cases_eq (n / (places_in old).per_slab) index) [
        | inl at ↦
            let lower : index < before.from = lower_index (places_in old) (places_in mid) before.from index before.places one.places.whole in
            ended_before old mid (stored_in old n) (stored_in mid n) hooks (before.others n (λ went. omega (arith, went.above, at, lower))) (one.ended n (ap (λ p. n / p) before.places.per_slab ∙ at))
        | inr other ↦ elim (gone_or_before (places_in old) (places_in mid) (places_in new) before.from index (n / (places_in old).per_slab) before.places one.places goes) [
          | inl at ↦ absurd (other at)
          | inr went ↦ before.ended n went
        ]
      ];
      others = λ n stays. one.others n (slab_then n (places_in old).per_slab (places_in mid).per_slab before.places.per_slab index (not_this (places_in old) (places_in mid) (places_in new) before.from index (n / (places_in old).per_slab) before.places one.places stays)) ∙ before.others n (not_before (places_in old) (places_in mid) (places_in new) before.from index (n / (places_in old).per_slab) before.places one.places stays);
      buried = buries_more old mid new count index leaves before one;
    }

-- where nothing moved after it, what was given up stands
pub frees_unmoved : {T K : Type 0} {g : _} {h : _} (old mid new : Keg T K g h) (count : ℕ) → FreesSlabs old count mid → IsUnmoved mid new → FreesSlabs old count new
frees_unmoved old mid new count freed same =
    let Drops' : KegPlaces → Type 0 = λ k. DropsFrom (places_in old) freed.from k in
    let Fewer : KegPlaces → Type 0 = λ k. CountsFewer (places_in old) count k in
    record {
      from = freed.from;
      places = subst Drops' (sym same.places) freed.places;
      counts = subst Fewer (sym same.places) freed.counts;
      gone = λ n goes. same.stored n ∙ freed.gone n goes;
      ended = freed.ended;
      others = λ n stays. same.stored n ∙ freed.others n stays;
      buried = λ hook.
          ap (λ (b : TallySum). sum_of b hook) same.buried ∙ freed.buried hook
          ∙ ap (λ (t : ℕ). sum_of (buried_in old) hook + t) (sum_below-same (λ n. times_gone hook (stored_in old n) (stored_in mid n)) (λ n. times_gone hook (stored_in old n) (stored_in new n)) (λ n. ap (times_gone hook (stored_in old n)) (sym (same.stored n))) ((places_in old).cap * (places_in old).per_slab));
    }

-- what no call changes, in two steps
pub same_more : {T K : Type 0} {g : _} {h : _} (old mid new : Keg T K g h) → IsSameKeg old mid → IsSameKeg mid new → IsSameKeg old new
same_more old mid new first then = record {
  table = then.table ∙ first.table;
  rights_table = then.rights_table ∙ first.rights_table;
  size = then.size ∙ first.size;
  per_slab = then.per_slab ∙ first.per_slab;
  cap = then.cap ∙ first.cap;
  reserve = then.reserve ∙ first.reserve;
  hooks = then.hooks ∙ first.hooks;
}
