-- Items that are taken from a keg one after the other.
use Rattle.std.proofs.Common.{◌≡◌, ◌+◌, ◌/◌, ◌⊎◌, ℕ, [], ◌∷◌, ◌++◌, List, Option, Some, None, set, refl, inl, inr, arith, sym, ap, subst, length-append, ◌∙◌}
use Rattle.std.proofs.lemmas.Bool.{cases_eq}
use Rattle.std.proofs.lemmas.List.{map-append, append_assoc, append-nil}
use Rattle.std.proofs.lemmas.List.Elements.{All-nil, All-push}
use Rattle.uma_life.specs.declared.states.Cached.{Cached}
use Rattle.uma_life.specs.Cached.{cached_no}
use Rattle.uma_keg.specs.declared.keg.Keg.{Keg}
use Rattle.uma_slabs.specs.Places.{KegPlaces, domain_at, KeepsSlabs}
use Rattle.uma_slabs.specs.Taking.{TakesPlaces}
use Rattle.uma_keg.specs.Keg.{places_in, zones_in, stored_in, IsSameKeg}
use Rattle.uma_keg.specs.TakeItem.{IsTaken, TakesItem, KeepsItems}
use Rattle.uma_keg.specs.TakeItems.{TakesAll, zones_with, IsAmong, numbers_of, TakesItems, TakesInto}

taken_more : (old mid new : KegPlaces) (ns : List ℕ) (n : ℕ) → TakesAll old ns mid → TakesPlaces mid n new → TakesAll old (ns ++ n ∷ []) new
taken_more old mid new [] n is takes = let At : KegPlaces → Type 0 = λ k. TakesPlaces k n new in (new, subst At is takes, refl)
taken_more old mid new (m ∷ ns) n is takes = (is.0, is.1, taken_more is.0 mid new ns n is.2 takes)

zones_more : (zones : List (Option ℕ)) (zone : ℕ) (ns : List ℕ) (n : ℕ) → zones_with zones zone (ns ++ n ∷ []) ≡ set (zones_with zones zone ns) n (Some zone)
zones_more zones zone [] n = refl
zones_more zones zone (m ∷ ns) n = zones_more (set zones m (Some zone)) zone ns n

among_more : (n m : ℕ) (ns : List ℕ) → IsAmong n (ns ++ m ∷ []) → IsAmong n ns ⊎ (n ≡ m)
among_more n m [] is = elim is [ inl at ↦ inr at | inr none ↦ absurd none ]
among_more n m (k ∷ ns) is = elim is [ inl at ↦ inl (inl at) | inr rest ↦ elim (among_more n m ns rest) [ inl before ↦ inl (inr before) | inr at ↦ inr at ] ]

among_front : (n m : ℕ) (ns : List ℕ) → IsAmong n ns → IsAmong n (ns ++ m ∷ [])
among_front n m [] is = absurd is
among_front n m (k ∷ ns) is = elim is [ inl at ↦ inl at | inr rest ↦ inr (among_front n m ns rest) ]

among_last : (n m : ℕ) (ns : List ℕ) → n ≡ m → IsAmong n (ns ++ m ∷ [])
among_last n m [] at = inl at
among_last n m (k ∷ ns) at = inr (among_last n m ns at)

-- each number's item is gone, or as it was
pub record AreKnown {T K : Type 0} {g : _} {h : _} (old new : Keg T K g h) : Type 0 where
  pub each : (n : ℕ) → (stored_in new n ≡ None) ⊎ (stored_in new n ≡ stored_in old n)

pub known_none : {T K : Type 0} {g : _} {h : _} (keg : Keg T K g h) → AreKnown keg keg
known_none keg = record { each = λ n. inr refl }

pub known_more : {T K : Type 0} {g : _} {h : _} (old mid new : Keg T K g h) (hooks : K) (zone : ℕ) (item : Cached T g) → AreKnown old mid → TakesItem mid hooks zone item new → AreKnown old new
known_more old mid new hooks zone item known takes = record {
  each = λ n. elim (cases_eq n (cached_no item)) [
    | inl at ↦ inl (rw at takes.gone)
    | inr other ↦ elim (known.each n) [ inl gone ↦ inl (takes.others n other ∙ gone) | inr kept ↦ inr (takes.others n other ∙ kept) ]
  ];
}

-- an item that was taken from what earlier ones left was at home before them
taken_before : {T K : Type 0} {g : _} {h : _} (old mid : Keg T K g h) (hooks : K) (zone : ℕ) (item : Cached T g) → AreKnown old mid → IsSameKeg old mid → KeepsSlabs (places_in old) (places_in mid) → IsTaken mid hooks zone item → IsTaken old hooks zone item
taken_before old mid hooks zone item known same slabs is = record {
  of_zone = is.of_zone;
  of_book = is.of_book ∙ same.table;
  in_domain = sym (slabs.domains (cached_no item / (places_in old).per_slab)) ∙ ap (λ (p : ℕ). domain_at (places_in mid) (cached_no item / p)) (sym slabs.per_slab) ∙ is.in_domain;
  stored = is.stored;
  was_home = elim (known.each (cached_no item)) [ inl gone ↦ absurd (cc (gone, is.was_home)) | inr kept ↦ sym kept ∙ is.was_home ];
  primary = is.primary;
  entered = is.entered;
  left = is.left;
  accepted = is.accepted;
}

pub slabs_more : (old mid new : KegPlaces) → KeepsSlabs old mid → KeepsSlabs mid new → KeepsSlabs old new
slabs_more old mid new first then = record {
  per_slab = then.per_slab ∙ first.per_slab;
  cap = then.cap ∙ first.cap;
  made = then.made ∙ first.made;
  domains = λ index. then.domains index ∙ first.domains index;
}

pub takes_none : {T K : Type 0} {g : _} {h : _} (keg : Keg T K g h) (hooks : K) (zone : ℕ) → TakesItems keg hooks zone [] keg
takes_none keg hooks zone = record {
  places = refl;
  slabs = record { per_slab = refl; cap = refl; made = refl; domains = λ index. refl };
  counts = record { slabs = refl; free = omega arith; out = omega arith };
  each = All-nil (IsTaken keg hooks zone);
  zones = refl;
  out = omega arith;
  outs = λ other ne. refl;
  gone = λ n among. absurd among;
  others = λ n none. refl;
}

pub takes_more : {T K : Type 0} {g : _} {h : _} (old mid new : Keg T K g h) (hooks : K) (zone : ℕ) (items : List (Cached T g)) (item : Cached T g) → AreKnown old mid → IsSameKeg old mid → TakesItems old hooks zone items mid → TakesItem mid hooks zone item new → TakesItems old hooks zone (items ++ item ∷ []) new
takes_more {T} {K} {g} {h} old mid new hooks zone items item known same first takes =
    let no = cached_no item in
    let numbers = numbers_of items in
    let e : numbers_of (items ++ item ∷ []) ≡ numbers ++ no ∷ [] = map-append cached_no items (item ∷ []) in
    let Places : List ℕ → Type 0 = λ ns. TakesAll (places_in old) ns (places_in new) in
    let count = length-append items (item ∷ []) in
    record {
      places = subst Places (sym e) (taken_more (places_in old) (places_in mid) (places_in new) numbers no first.places takes.places);
      slabs = slabs_more (places_in old) (places_in mid) (places_in new) first.slabs takes.places.slabs;
      counts = record {
        slabs = takes.counts.slabs ∙ first.counts.slabs;
        free = omega (arith, count, first.counts.free, takes.counts.free);
        out = omega (arith, count, first.counts.out, takes.counts.out);
      };
      each = All-push (IsTaken old hooks zone) items item first.each (taken_before old mid hooks zone item known same first.slabs takes.taken);
      zones = takes.zones ∙ ap (λ zs. set zs no (Some zone)) first.zones ∙ sym (zones_more (zones_in old) zone numbers no) ∙ ap (zones_with (zones_in old) zone) (sym e);
      out = omega (arith, count, first.out, takes.out);
      outs = λ other ne. takes.outs other ne ∙ first.outs other ne;
      gone = λ n among. elim (among_more n no numbers (subst (IsAmong n) e among)) [
        | inl before ↦ elim (cases_eq n no) [ inl at ↦ rw at takes.gone | inr other ↦ takes.others n other ∙ first.gone n before ]
        | inr at ↦ rw at takes.gone
      ];
      others = λ n none. takes.others n (λ at. none (subst (IsAmong n) (sym e) (among_last n no numbers at))) ∙ first.others n (λ among. none (subst (IsAmong n) (sym e) (among_front n no numbers among)));
    }

-- nothing was pushed yet
pub into_none : {T K : Type 0} {g : _} {h : _} (keg : Keg T K g h) (hooks : K) (zone : ℕ) (before : List (Cached T g)) → TakesInto keg hooks zone 0 before before keg
into_none keg hooks zone before = record { items = []; takes = takes_none keg hooks zone; counted = refl; pushed = sym (append-nil before) }

pub into_more : {T K : Type 0} {g : _} {h : _} (old mid new : Keg T K g h) (hooks : K) (zone count : ℕ) (before middle after : List (Cached T g)) (item : Cached T g) → AreKnown old mid → IsSameKeg old mid → TakesInto old hooks zone count before middle mid → TakesItem mid hooks zone item new → after ≡ middle ++ item ∷ [] → TakesInto old hooks zone (count + 1) before after new
into_more old mid new hooks zone count before middle after item known same first takes is = record {
  items = first.items ++ item ∷ [];
  takes = takes_more old mid new hooks zone first.items item known same first.takes takes;
  counted = omega (arith, length-append first.items (item ∷ []), first.counted);
  pushed = is ∙ ap (λ xs. xs ++ item ∷ []) first.pushed ∙ append_assoc before first.items (item ∷ []);
}

pub keeps_same : {T K : Type 0} {g : _} {h : _} (keg : Keg T K g h) → KeepsItems keg keg
keeps_same keg = record {
  places = record { slabs = record { per_slab = refl; cap = refl; made = refl; domains = λ index. refl }; places = λ n. refl; slabs_in = refl; free = refl; out = refl };
  zones = refl;
  stored = λ n. refl;
}
