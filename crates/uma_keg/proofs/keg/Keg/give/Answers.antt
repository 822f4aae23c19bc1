use Rattle.std.proofs.Common.{rules, ◌≡◌, ℕ, Some, refl, sym, ap, ◌∙◌}
use Rattle.std.specs.List.{slice_get}
use Rattle.deed_book.specs.Deed.{zone_of, BookId}
use Rattle.uma_life.specs.Stored.{stored_no, stored_origin}
use Rattle.uma_life.specs.Cached.{cached_zone}
use Rattle.uma_keg.specs.HomeItems.{item_at}
use Rattle.uma_keg.specs.Keg.{zones_in}
use Rattle.uma_slabs.specs.Places.{IsOut}
use Rattle.uma_keg.proofs.GivenItem.{out_place, out_slab, PlacesLaw-given, ZonesLaw-given, out_given, outs_given}
use Rattle.uma_keg.proofs.Origins.{origins_kept, one_there}
use Rattle.uma_keg.proofs.TallyLaws.{TallyLaw-kept}
use Rattle.uma_keg.proofs.keg.Keg.give.Goals as goal

pub give-requires : goal.give-requires
give-requires g c = rw c.accept-no.ensures.number (out_place c.args.self.now.places_law _ _ c.accept-no.ensures.was_outside)

pub put-requires : goal.put-requires
put-requires g c =
    let out : IsOut c.args.self.now.places c.accept-no.result = rw c.accept-no.ensures.number (out_place c.args.self.now.places_law _ _ c.accept-no.ensures.was_outside) in
    record { slab_items = out_slab c.args.self.now.places_law c.accept-no.result out; gone = search rules }

pub invariant_of-self : goal.invariant_of-self
invariant_of-self g c =
    let keg = c.args.self.now in
    let accepted = c.accept-no.ensures in
    let origin : stored_origin c.give_back-stored.result.0 ≡ g.K.Hooks.origin keg.hooks =
    c.give_back-stored.ensures.origin ∙ ap (λ (book : BookId). book.origin) c.requires ∙ keg.book_of_hooks in
    let number : stored_no c.give_back-stored.result.0 ≡ c.accept-no.result = c.give_back-stored.ensures.number ∙ sym accepted.number in
    record {
      places_law = PlacesLaw-given _ _ _ _ _ _ c.accept-no.result _ keg.places_law c.give.ensures.gives (rw accepted.number accepted.zones) c.put.ensures.item c.put.ensures.others c.put.ensures.home_items c.put.ensures.count c.put.ensures.places number;
      zones_law = ZonesLaw-given _ _ _ _ _ _ keg.zones_law accepted.zones accepted.was_outside;
      tally_law = TallyLaw-kept _ _ _ keg.tally_law (sym c.give.ensures.counts.slabs) c.give.ensures.gives.slabs.per_slab;
      paired = keg.paired;
      book_of_hooks = ap (λ (book : BookId). book.origin) accepted.table ∙ keg.book_of_hooks;
      items_of_hooks = origins_kept _ keg.home_items c.put.new.self (λ (n : ℕ). n) c.accept-no.result keg.items_of_hooks (λ n item at is. one_there _ _ item _ origin (ap (item_at c.put.new.self) at ∙ c.put.ensures.item) is) c.put.ensures.others;
    }

pub returns : goal.returns
returns g c =
    let was : slice_get (zones_in c.args.self.now) _ ≡ Some (Some (cached_zone c.args.item)) = c.accept-no.ensures.was_outside ∙ ap (λ deed. Some (Some (zone_of deed))) c.give_back-stored.ensures.deed in
    record {
      places = search rules;
      counts = search rules;
      was_outside = search rules;
      zones = search rules;
      out = out_given _ _ _ _ c.accept-no.ensures.zones was;
      outs = λ zone. outs_given _ _ _ _ zone c.accept-no.ensures.zones was;
      primary = search rules;
      left = search rules;
      passed = search rules;
      stored = search rules;
      rights = refl;
      limits = λ zone. refl;
      fetches = λ zone. refl;
      buried = refl;
      same = search rules;
    }
