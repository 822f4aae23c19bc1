use Rattle.std.proofs.Common.{rules, ◌≡◌, ◌≤◌, ◌+◌, ◌/◌, ◌%◌, ℕ, None, sum_by, length, sym, ap, subst, arith, ◌∙◌}
use Rattle.std.proofs.Math.Nat.{mod-lt}
use Rattle.uma_life.specs.Sum.{sum_of}
use Rattle.uma_keg.specs.SlabItems.{places_of_slab}
use Rattle.uma_keg.specs.HomeLists.{item_on}
use Rattle.uma_slabs.specs.Places.{KegPlaces}
use Rattle.uma_keg.specs.KegLaw.{PlacesLaw}
use Rattle.uma_keg.specs.Keg.{zones_in}
use Rattle.uma_keg.specs.HomeItems.{item_at, places_each}
use Rattle.uma_keg.specs.Tallies.{ended_times, TallyLaw}
use Rattle.uma_keg.proofs.FreedSlab.{PlacesLaw-dropped, TallyLaw-dropped}
use Rattle.uma_keg.specs.FreeSlabs.{FiniLeaves}
use Rattle.uma_keg.proofs.Origins.{origins_kept, none_there}
use Rattle.uma_keg.proofs.EndedItems.{ended_at}
use Rattle.uma_keg.proofs.GoneSums.{slab_gone}
use Rattle.uma_keg.proofs.PairedSums.{paired_gone}
use Rattle.uma_keg.proofs.TallyLaws.{buried_below}
use Rattle.uma_keg.proofs.keg.Keg.free_slab.Goals as goal

pub remove-slab_items-requires : goal.remove-slab_items-requires
remove-slab_items-requires g c =
    let keg = c.args.self.now in
    keg.places_law.slabs c.in_ok-index.index ∙ c.in_ok-index.ensures.drops.whole.is_in

pub end-requires : goal.end-requires
end-requires g c =
    let keg = c.args.self.now in
    record {
      few = omega (arith, c.remove-slab_items.ensures.whole, keg.places_law.per_slab, c.in_ok-index.ensures.drops.per_slab, c.drop_slab.ensures.sound.few_places);
      room = buried_below keg.buried keg.places keg.tally_law;
    }

pub invariant_of-self : goal.invariant_of-self
invariant_of-self g c =
    let keg = c.args.self.now in
    let Law : KegPlaces → Type 0 = λ places. PlacesLaw places (zones_in keg) keg.home_items in
    record {
      places_law = subst Law (sym c.in_err-index.ensures.unchanged) keg.places_law;
      zones_law = keg.zones_law;
      tally_law = subst (TallyLaw keg.buried) (sym c.in_err-index.ensures.unchanged) keg.tally_law;
      paired = keg.paired;
      book_of_hooks = keg.book_of_hooks;
      items_of_hooks = keg.items_of_hooks;
    }

pub invariant_of-self-2 : goal.invariant_of-self-2
invariant_of-self-2 g c =
    let keg = c.args.self.now in
    let drops = c.in_ok-index.ensures.drops in
    let removed = c.remove-slab_items.ensures in
    let len : length (places_of_slab c.remove-slab_items.result) ≡ keg.places.per_slab = removed.whole ∙ keg.places_law.per_slab in
    record {
      places_law = PlacesLaw-dropped keg.places c.drop_slab.new.self _ keg.home_items c.remove-slab_items.new.self c.in_ok-index.index c.remove-slab_items.result keg.places_law drops removed;
      zones_law = keg.zones_law;
      tally_law = TallyLaw-dropped keg.buried c.end.new.buried keg.places c.drop_slab.new.self (λ hook. sum_by (ended_times hook) (places_of_slab c.remove-slab_items.result)) keg.tally_law c.in_ok-index.ensures.counts.slabs drops.per_slab c.end.ensures.sums (λ hook. omega (arith, c.end.ensures.counts hook, len));
      paired = paired_gone keg.buried c.end.new.buried (places_of_slab c.remove-slab_items.result) keg.paired c.end.ensures.sums;
      book_of_hooks = keg.book_of_hooks;
      items_of_hooks = origins_kept _ keg.home_items c.remove-slab_items.new.self (λ n. n / places_each keg.home_items) c.in_ok-index.index keg.items_of_hooks (λ n item at is. none_there _ _ item (removed.gone n at) is) removed.others;
    }

pub returns-clause-frees : goal.returns-clause-frees
returns-clause-frees g c =
    let keg = c.args.self.now in
    let drops = c.in_ok-index.ensures.drops in
    let removed = c.remove-slab_items.ensures in
    let each = keg.places_law.per_slab in
    let len : length (places_of_slab c.remove-slab_items.result) ≡ keg.places.per_slab = removed.whole ∙ each in
    let some : 1 ≤ keg.places.per_slab = omega (arith, each, keg.home_items.some_place) in
    record {
      freed = record {
        places = drops;
        counts = c.in_ok-index.ensures.counts;
        gone = λ n at. removed.gone n (ap (λ p. n / p) each ∙ at);
        ended = λ n at.
            ended_at (FiniLeaves keg) (item_at keg.home_items n) (item_on (n % keg.places.per_slab) c.remove-slab_items.result)
            (removed.items n (ap (λ p. n / p) each ∙ at) ∙ ap (λ q. item_on (n % q) c.remove-slab_items.result) each)
            (c.end.ensures.ended (n % keg.places.per_slab) None (omega (arith, len, mod-lt n some)));
        others = λ n other. removed.others n (rw each other);
        buried = λ hook.
            c.end.ensures.sums hook
            ∙ ap (λ (t : ℕ). sum_of keg.buried hook + t) (sym (slab_gone hook (item_at keg.home_items) (item_at c.remove-slab_items.new.self) (places_of_slab c.remove-slab_items.result) keg.places.cap keg.places.per_slab c.in_ok-index.index drops.within some len
            (λ n at. removed.gone n (ap (λ p. n / p) each ∙ at)) (λ n other. removed.others n (rw each other))
            (λ n at. removed.items n (ap (λ p. n / p) each ∙ at) ∙ ap (λ q. item_on (n % q) c.remove-slab_items.result) each)));
      };
      unmoved = search rules;
      none_exactly = search rules;
    }
