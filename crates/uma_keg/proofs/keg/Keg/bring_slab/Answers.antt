use Rattle.std.proofs.Common.{◌≡◌, ◌<◌, ◌+◌, ◌*◌, ◌/◌, ◌%◌, ℕ, None, length, refl, subst, sym, arith, rules, ◌∙◌}
use Rattle.std.proofs.Math.Nat.{mod-lt}
use Rattle.uma_life.specs.declared.tally.TallySum.{TallySum}
use Rattle.uma_keg.specs.SlabItems.{places_of_slab}
use Rattle.uma_keg.specs.HomeItems.{places_each}
use Rattle.uma_slabs.specs.Places.{slab_count}
use Rattle.uma_keg.specs.Tallies.{TallyLaw}
use Rattle.uma_keg.specs.Paired.{ArePaired}
use Rattle.uma_keg.specs.NewItems.{AreNewItems, RefusesItems}
use Rattle.uma_keg.specs.BringSlab.{AcceptsNumber, RefusesNumber}
use Rattle.uma_keg.proofs.BroughtSlab.{PlacesLaw-brought}
use Rattle.uma_keg.proofs.NextSlab.{some_gap, next_index, brings_next, brought_items, new_at_home, of_numbers}
use Rattle.uma_keg.proofs.Origins.{origins_kept, of_place}
use Rattle.uma_keg.proofs.TallyLaws.{TallyLaw-brought}
use Rattle.uma_keg.proofs.RefusedSlab.{refuses_slab, TallyLaw-refused}
use Rattle.uma_keg.proofs.PairedSums.{paired_refused}
use Rattle.uma_keg.proofs.keg.Keg.bring_slab.Goals as goal

pub unreachable-requires : goal.unreachable-requires
unreachable-requires g c =
    let keg = c.args.self.now in
    let counts = c.counts-slabs.ensures in
    let room : slab_count keg.places < keg.places.cap = omega (arith, counts.sound.slabs, counts.slabs, counts.cap, c.if-slabs-cap.false) in
    some_gap keg.places _ keg.home_items keg.places_law room (search rules)

pub invariant_of-self : goal.invariant_of-self
invariant_of-self g c =
    let keg = c.args.self.now in
    let counts = c.counts-slabs.ensures in
    let gap = c.in-Some.ensures in
    let index = c.in-Some.index in
    let next = next_index keg.places _ keg.home_items index keg.places_law gap.gap.1 gap.gap.0 gap.least in
    let brings = brings_next keg.places c.bring-in-Ok.new.self c.args.domain index c.in-Ok-bring.field-0 next c.in-Ok-bring.ensures.brings in
    let added = c.add.ensures in
    let New : ℕ → Type 0 = λ p. AreNewItems (index * p) (places_of_slab c.in-Ok.slab_items) in
    let len : length (places_of_slab c.in-Ok.slab_items) ≡ keg.places.per_slab = c.in-Ok.ensures.made.whole ∙ counts.per_slab in
    let new = brought_items (index * keg.places.per_slab) keg.places.per_slab c.in-Ok.slab_items len (subst New counts.per_slab c.in-Ok.ensures.made.items) in
    record {
      places_law = PlacesLaw-brought keg.places c.bring-in-Ok.new.self _ keg.home_items c.add.new.self index c.args.domain c.in-Ok.slab_items counts.sound.some_place keg.places_law brings added new;
      zones_law = keg.zones_law;
      tally_law =
          let Law : TallySum → Type 0 = λ buried. TallyLaw buried c.bring-in-Ok.new.self in
          subst Law (sym c.in-Ok.ensures.buried) (TallyLaw-brought keg.buried keg.places c.bring-in-Ok.new.self c.requires counts.sound (omega (arith, counts.sound.slabs, counts.slabs, counts.cap, c.if-slabs-cap.false)) c.in-Ok-bring.ensures.counts.slabs brings.per_slab);
      paired = subst ArePaired (sym c.in-Ok.ensures.buried) keg.paired;
      book_of_hooks = keg.book_of_hooks;
      items_of_hooks = origins_kept _ keg.home_items c.add.new.self (λ n. n / places_each keg.home_items) index keg.items_of_hooks (λ n item at is. of_place _ _ item (c.in-Ok.ensures.made.origins (n % places_each keg.home_items) None (omega (arith, c.in-Ok.ensures.made.whole, counts.per_slab, keg.places_law.per_slab, keg.home_items.some_place, mod-lt n keg.home_items.some_place))) (sym (added.items n at) ∙ is)) added.others;
    }

pub returns-in-Ok-bring-clause-brings : goal.returns-in-Ok-bring-clause-brings
returns-in-Ok-bring-clause-brings g c =
    let keg = c.args.self.now in
    let counts = c.counts-slabs.ensures in
    let gap = c.in-Some.ensures in
    let index = c.in-Some.index in
    let p = keg.places.per_slab in
    let next = next_index keg.places _ keg.home_items index keg.places_law gap.gap.1 gap.gap.0 gap.least in
    let added = c.add.ensures in
    let New : ℕ → Type 0 = λ q. AreNewItems (index * q) (places_of_slab c.in-Ok.slab_items) in
    let Accepted : ℕ → Type 0 = λ q. (place : ℕ) → place < q → AcceptsNumber keg (index * q + place) in
    let each = keg.places_law.per_slab in
    record {
      room = omega (arith, counts.sound.slabs, counts.slabs, counts.cap, c.if-slabs-cap.false);
      index = index;
      places = brings_next keg.places c.bring-in-Ok.new.self c.args.domain index c.in-Ok-bring.field-0 next c.in-Ok-bring.ensures.brings;
      counts = c.in-Ok-bring.ensures.counts;
      items = new_at_home p index keg.home_items c.add.new.self c.in-Ok.slab_items counts.sound.some_place each added (c.in-Ok.ensures.made.whole ∙ counts.per_slab) (subst New counts.per_slab c.in-Ok.ensures.made.items);
      accepted = of_numbers (AcceptsNumber keg) p index counts.sound.some_place (subst Accepted counts.per_slab c.in-Ok.ensures.made.accepted);
      others = λ n other. added.others n (rw each other);
      buried = c.in-Ok.ensures.buried;
    }

pub returns-in-Err-clause-refused : goal.returns-in-Err-clause-refused
returns-in-Err-clause-refused g c =
    let keg = c.args.self.now in
    let counts = c.counts-slabs.ensures in
    let gap = c.in-Some.ensures in
    let index = c.in-Some.index in
    let next = next_index keg.places _ keg.home_items index keg.places_law gap.gap.1 gap.gap.0 gap.least in
    let room : slab_count keg.places < keg.places.cap = omega (arith, counts.sound.slabs, counts.slabs, counts.cap, c.if-slabs-cap.false) in
    let Refuses : ℕ → Type 0 = λ p. RefusesItems p (λ place code. RefusesNumber keg (index * p + place) code) (λ place. AcceptsNumber keg (index * p + place)) keg.buried c.bring.new.buried c.in-Err.refused in
    record {
      refused = rw c.from.ensures (refuses_slab keg c.bring.new.buried index c.in-Err.refused room next (subst Refuses counts.per_slab c.in-Err.ensures.refused));
      places = refl;
      stored = λ n. refl;
    }

pub invariant_of-self-in-Err-bring : goal.invariant_of-self-in-Err-bring
invariant_of-self-in-Err-bring g c =
    let keg = c.args.self.now in
    let counts = c.counts-slabs.ensures in
    let index = c.in-Some.index in
    let room : slab_count keg.places < keg.places.cap = omega (arith, counts.sound.slabs, counts.slabs, counts.cap, c.if-slabs-cap.false) in
    let Refuses : ℕ → Type 0 = λ p. RefusesItems p (λ place code. RefusesNumber keg (index * p + place) code) (λ place. AcceptsNumber keg (index * p + place)) keg.buried c.bring.new.buried c.in-Err.refused in
    let refused = subst Refuses counts.per_slab c.in-Err.ensures.refused in
    record {
      places_law = keg.places_law;
      zones_law = keg.zones_law;
      tally_law = TallyLaw-refused keg.buried c.bring.new.buried keg.places _ _ c.in-Err.refused c.requires counts.sound room refused;
      paired = paired_refused keg.buried c.bring.new.buried _ _ _ c.in-Err.refused keg.paired refused;
      book_of_hooks = keg.book_of_hooks;
      items_of_hooks = keg.items_of_hooks;
    }
