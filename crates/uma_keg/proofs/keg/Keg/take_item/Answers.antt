use Rattle.std.proofs.Common.{rules, ◌≡◌, ◌<◌, ◌*◌, ◌/◌, ℕ, Some, None, set, refl, sym, ap, subst, ◌∙◌}
use Rattle.deed_book.specs.Deed.{no_of, zone_of, deed_table, BookId}
use Rattle.deed_book.specs.Book.{zones_of}
use Rattle.uma_life.specs.Stored.{stored_no, stored_origin}
use Rattle.uma_slabs.specs.Places.{domain_at, CountsOneOut, Gives}
use Rattle.uma_keg.specs.HomeItems.{item_at}
use Rattle.uma_slabs.specs.Taking.{TakesPlaces}
use Rattle.uma_keg.specs.KegLaw.{PlacesLaw}
use Rattle.uma_keg.proofs.GivenItem.{out_slab, PlacesLaw-given, ZonesLaw-given}
use Rattle.uma_keg.proofs.TakenItem.{free_home, PlacesLaw-taken, ZonesLaw-taken, same_again, zones_again, items_again, if_some, on_some, takes_item}
use Rattle.uma_keg.proofs.Origins.{origins_kept, none_there, one_there}
use Rattle.uma_keg.proofs.TallyLaws.{TallyLaw-kept}
use Rattle.uma_keg.proofs.keg.Keg.take_item.Goals as goal

pub invariant_of-self : goal.invariant_of-self
invariant_of-self g c =
    let keg = c.args.self.now in
    let no = c.unwrap-no.result in
    let takes : TakesPlaces keg.places no c.take.new.self = if_some c.take.result (λ (n : ℕ). TakesPlaces keg.places n c.take.new.self) no c.unwrap-no.ensures c.take.ensures.takes in
    let counts : CountsOneOut keg.places c.take.new.self = on_some c.take.result (CountsOneOut keg.places c.take.new.self) no c.unwrap-no.ensures c.take.ensures.counts in
    let past : no < c.take.new.self.cap * c.take.new.self.per_slab = if_some c.take.result (λ (n : ℕ). n < c.take.new.self.cap * c.take.new.self.per_slab) no c.unwrap-no.ensures c.take.ensures.within in
    let below : no < keg.places.cap * keg.places.per_slab = rw (takes.slabs.cap, takes.slabs.per_slab) at past in
    let taken = c.take-2.ensures in
    record {
      places_law = PlacesLaw-taken _ _ _ _ _ _ no c.args.zone keg.places_law takes below c.issue-deed.ensures.zones taken.gone taken.others taken.home_items taken.count taken.places;
      zones_law = ZonesLaw-taken _ _ _ _ no c.args.zone keg.zones_law c.issue-deed.ensures.zones (free_home keg.places_law no below takes.free) c.requires.exists;
      tally_law = TallyLaw-kept _ _ _ keg.tally_law counts.slabs takes.slabs.per_slab;
      paired = keg.paired;
      book_of_hooks = ap (λ (book : BookId). book.origin) c.issue-deed.ensures.table ∙ keg.book_of_hooks;
      items_of_hooks = origins_kept _ keg.home_items c.take-2.new.self (λ (n : ℕ). n) no keg.items_of_hooks (λ n item at is. none_there _ _ item (ap (item_at c.take-2.new.self) at ∙ taken.gone) is) taken.others;
    }

pub domain-domain-requires : goal.domain-domain-requires
domain-domain-requires g c =
    let no = c.unwrap-no.result in
    let takes : TakesPlaces c.args.self.now.places no c.take.new.self = if_some c.take.result (λ (n : ℕ). TakesPlaces c.args.self.now.places n c.take.new.self) no c.unwrap-no.ensures c.take.ensures.takes in
    rw takes.out refl

pub put-requires : goal.put-requires
put-requires g c =
    let keg = c.args.self.now in
    let no = c.unwrap-no.result in
    let takes : TakesPlaces keg.places no c.take.new.self = if_some c.take.result (λ (n : ℕ). TakesPlaces keg.places n c.take.new.self) no c.unwrap-no.ensures c.take.ensures.takes in
    let past : no < c.take.new.self.cap * c.take.new.self.per_slab = if_some c.take.result (λ (n : ℕ). n < c.take.new.self.cap * c.take.new.self.per_slab) no c.unwrap-no.ensures c.take.ensures.within in
    let below : no < keg.places.cap * keg.places.per_slab = rw (takes.slabs.cap, takes.slabs.per_slab) at past in
    let taken = c.take-2.ensures in
    let law : PlacesLaw c.take.new.self _ c.take-2.new.self = PlacesLaw-taken _ _ _ _ _ _ no c.args.zone keg.places_law takes below c.issue-deed.ensures.zones taken.gone taken.others taken.home_items taken.count taken.places in
    let same_deed : c.in-Err.deed ≡ c.issue-deed.result = c.in-Err.ensures.unchanged.1 in
    let number : c.accept-no.result ≡ no = c.accept-no.ensures.number ∙ ap no_of same_deed ∙ c.issue-deed.ensures.deed.0 in
    record { slab_items = rw number (out_slab law no takes.out); gone = search rules }

pub lend-requires-clause-origin : goal.lend-requires-clause-origin
lend-requires-clause-origin g c =
    let keg = c.args.self.now in
    let stands : item_at keg.home_items c.unwrap-no.result ≡ Some c.unwrap-item.result = sym c.take-2.ensures.item ∙ c.unwrap-item.ensures in
    keg.items_of_hooks c.unwrap-no.result c.unwrap-item.result stands ∙ sym (ap (λ (book : BookId). book.origin) c.issue-deed.ensures.deed_table ∙ keg.book_of_hooks)

pub invariant_of-self-in-Err : goal.invariant_of-self-in-Err
invariant_of-self-in-Err g c =
    let keg = c.args.self.now in
    let no = c.unwrap-no.result in
    let takes : TakesPlaces keg.places no c.take.new.self = if_some c.take.result (λ (n : ℕ). TakesPlaces keg.places n c.take.new.self) no c.unwrap-no.ensures c.take.ensures.takes in
    let counts : CountsOneOut keg.places c.take.new.self = on_some c.take.result (CountsOneOut keg.places c.take.new.self) no c.unwrap-no.ensures c.take.ensures.counts in
    let past : no < c.take.new.self.cap * c.take.new.self.per_slab = if_some c.take.result (λ (n : ℕ). n < c.take.new.self.cap * c.take.new.self.per_slab) no c.unwrap-no.ensures c.take.ensures.within in
    let below : no < keg.places.cap * keg.places.per_slab = rw (takes.slabs.cap, takes.slabs.per_slab) at past in
    let taken = c.take-2.ensures in
    let law : PlacesLaw c.take.new.self _ c.take-2.new.self = PlacesLaw-taken _ _ _ _ _ _ no c.args.zone keg.places_law takes below c.issue-deed.ensures.zones taken.gone taken.others taken.home_items taken.count taken.places in
    let zones = ZonesLaw-taken _ _ _ _ no c.args.zone keg.zones_law c.issue-deed.ensures.zones (free_home keg.places_law no below takes.free) c.requires.exists in
    let same_deed : c.in-Err.deed ≡ c.issue-deed.result = c.in-Err.ensures.unchanged.1 in
    let same_item : c.in-Err.item ≡ c.unwrap-item.result = c.in-Err.ensures.unchanged.0 in
    let number : c.accept-no.result ≡ no = c.accept-no.ensures.number ∙ ap no_of same_deed ∙ c.issue-deed.ensures.deed.0 in
    let stands : item_at keg.home_items no ≡ Some c.unwrap-item.result = sym taken.item ∙ c.unwrap-item.ensures in
    let own_number : stored_no c.in-Err.item ≡ c.accept-no.result = ap stored_no same_item ∙ keg.places_law.numbered no c.unwrap-item.result stands ∙ sym number in
    let own_origin : stored_origin c.in-Err.item ≡ g.K.Hooks.origin keg.hooks = ap stored_origin same_item ∙ keg.items_of_hooks no c.unwrap-item.result stands in
    let left = origins_kept (g.K.Hooks.origin keg.hooks) keg.home_items c.take-2.new.self (λ (n : ℕ). n) no keg.items_of_hooks (λ n item at is. none_there _ _ item (ap (item_at c.take-2.new.self) at ∙ taken.gone) is) taken.others in
    record {
      places_law = PlacesLaw-given _ _ _ _ _ _ c.accept-no.result c.in-Err.item law c.give.ensures.gives (rw c.accept-no.ensures.number c.accept-no.ensures.zones) c.put.ensures.item c.put.ensures.others c.put.ensures.home_items c.put.ensures.count c.put.ensures.places own_number;
      zones_law = ZonesLaw-given _ _ _ _ _ _ zones c.accept-no.ensures.zones c.accept-no.ensures.was_outside;
      tally_law = TallyLaw-kept _ _ _ (TallyLaw-kept _ _ c.take.new.self keg.tally_law counts.slabs takes.slabs.per_slab) (sym c.give.ensures.counts.slabs) c.give.ensures.gives.slabs.per_slab;
      paired = keg.paired;
      book_of_hooks = ap (λ (book : BookId). book.origin) (c.accept-no.ensures.table ∙ c.issue-deed.ensures.table) ∙ keg.book_of_hooks;
      items_of_hooks = origins_kept _ c.take-2.new.self c.put.new.self (λ (n : ℕ). n) c.accept-no.result left (λ n item at is. one_there _ _ item _ own_origin (ap (item_at c.put.new.self) at ∙ c.put.ensures.item) is) c.put.ensures.others;
    }

pub returns-in-Ok-clause-takes : goal.returns-in-Ok-clause-takes
returns-in-Ok-clause-takes g c =
    let keg = c.args.self.now in
    let no = c.unwrap-no.result in
    let takes : TakesPlaces keg.places no c.take.new.self = if_some c.take.result (λ (n : ℕ). TakesPlaces keg.places n c.take.new.self) no c.unwrap-no.ensures c.take.ensures.takes in
    let counts : CountsOneOut keg.places c.take.new.self = on_some c.take.result (CountsOneOut keg.places c.take.new.self) no c.unwrap-no.ensures c.take.ensures.counts in
    let past : no < c.take.new.self.cap * c.take.new.self.per_slab = if_some c.take.result (λ (n : ℕ). n < c.take.new.self.cap * c.take.new.self.per_slab) no c.unwrap-no.ensures c.take.ensures.within in
    let below : no < keg.places.cap * keg.places.per_slab = rw (takes.slabs.cap, takes.slabs.per_slab) at past in
    let taken = c.take-2.ensures in
    let lent = c.in-Ok.ensures in
    let stands : item_at keg.home_items no ≡ Some c.unwrap-item.result = sym taken.item ∙ c.unwrap-item.ensures in
    takes_item keg _ c.args.hooks.now c.args.zone no (zone_of c.issue-deed.result) c.in-Ok.item c.unwrap-item.result
    (ap no_of lent.deed ∙ c.issue-deed.ensures.deed.0) takes counts
    (ap zone_of lent.deed ∙ c.issue-deed.ensures.deed.1) (ap deed_table lent.deed ∙ c.issue-deed.ensures.deed_table)
    (sym (takes.slabs.domains (no / keg.places.per_slab)) ∙ ap (λ (p : ℕ). domain_at c.take.new.self (no / p)) (sym takes.slabs.per_slab) ∙ c.domain-domain.ensures ∙ ap Some (sym lent.domain))
    stands c.issue-deed.ensures.deed.1 (record { primary = lent.primary; entered = lent.entered; left = lent.left; accepted = lent.accepted })
    c.issue-deed.ensures.zones (free_home keg.places_law no below takes.free) taken.gone taken.others

pub returns-in-Err-clause-refused : goal.returns-in-Err-clause-refused
returns-in-Err-clause-refused g c =
    let keg = c.args.self.now in
    let no = c.unwrap-no.result in
    let takes : TakesPlaces keg.places no c.take.new.self = if_some c.take.result (λ (n : ℕ). TakesPlaces keg.places n c.take.new.self) no c.unwrap-no.ensures c.take.ensures.takes in
    let counts : CountsOneOut keg.places c.take.new.self = on_some c.take.result (CountsOneOut keg.places c.take.new.self) no c.unwrap-no.ensures c.take.ensures.counts in
    let past : no < c.take.new.self.cap * c.take.new.self.per_slab = if_some c.take.result (λ (n : ℕ). n < c.take.new.self.cap * c.take.new.self.per_slab) no c.unwrap-no.ensures c.take.ensures.within in
    let below : no < keg.places.cap * keg.places.per_slab = rw (takes.slabs.cap, takes.slabs.per_slab) at past in
    let taken = c.take-2.ensures in
    let same_deed : c.in-Err.deed ≡ c.issue-deed.result = c.in-Err.ensures.unchanged.1 in
    let same_item : c.in-Err.item ≡ c.unwrap-item.result = c.in-Err.ensures.unchanged.0 in
    let number : c.accept-no.result ≡ no = c.accept-no.ensures.number ∙ ap no_of same_deed ∙ c.issue-deed.ensures.deed.0 in
    let stands : item_at keg.home_items no ≡ Some c.unwrap-item.result = sym taken.item ∙ c.unwrap-item.ensures in
    let Given : ℕ → Type 0 = λ m. Gives c.take.new.self m c.give.new.self in
    let refused = c.in-Err.ensures.refused in
    let in_zone : zone_of c.issue-deed.result ≡ c.args.zone = c.issue-deed.ensures.deed.1 in
    record {
      refused = record {
        no = no;
        may = record { free = takes.free; least = takes.least; preferred = takes.preferred };
        stored = c.unwrap-item.result;
        is_home = stands;
        secondary = λ none. refused.0 (in_zone ∙ none);
        refused = ap (λ (z : ℕ). g.K.Hooks.refuses_init c.args.hooks.now c.unwrap-item.result.body z) (sym in_zone) ∙ refused.1;
        is_code = refused.2;
      };
      keeps = record {
        places = same_again keg.places c.take.new.self c.give.new.self no takes counts (subst Given number c.give.ensures.gives) c.give.ensures.counts;
        zones = zones_again _ _ _ no c.args.zone (free_home keg.places_law no below takes.free) c.issue-deed.ensures.zones (c.accept-no.ensures.zones ∙ ap (λ (m : ℕ). set (zones_of c.issue-deed.new.self.book) m None) (sym c.accept-no.ensures.number ∙ number));
        stored = items_again keg.home_items c.take-2.new.self c.put.new.self no c.unwrap-item.result stands taken.others (ap (item_at c.put.new.self) (sym number) ∙ c.put.ensures.item ∙ ap Some same_item) (λ m ne. c.put.ensures.others m (λ at. ne (at ∙ number)));
      };
    }
