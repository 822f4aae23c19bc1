-- What a census of the lent items says, zone by zone.
use Rattle.std.proofs.Common.{◌≡◌, ℕ, ◌+◌, ◌<◌, ◌≤◌, ◌%◌, ◌^◌, List, Some, sym, ap, ◌∙◌, subst}
use Rattle.std.specs.Prelude.{slice_get}
use Rattle.smr_clock.specs.declared.clock.Clock.{Clock}
use Rattle.smr_clock.specs.declared.host.Host.{Ghosts}
use Rattle.uma_keg.specs.declared.census.Census.{Census}
use Rattle.uma_keg.specs.Census.{census_out, census_tally}
use Rattle.uma_keg.specs.Lent.{all_seen, lent_of}
use Rattle.uma_life.specs.declared.tally.TallySum.{TallySum}
use Rattle.uma_life.specs.Hook.{Hook, Ctor, Dtor}
use Rattle.uma_life.specs.Sum.{sum_of}
use Rattle.uma_life.specs.Trail.{ShowsSame}
use Rattle.uma_zone.specs.Zone.{zone_index}
use Rattle.trace_text.specs.declared.trace.Head.{Head}
use Rattle.trace_text.specs.declared.trace.ZoneHead.{ZoneHead}
use Rattle.trace_text.specs.Valid.{HeadFits}
use Rattle.replay_worker.specs.declared.worker.Worker.{Worker}
use Rattle.replay_worker.specs.Items.{CountedZone, LiveItem}
use Rattle.replay_worker.specs.Together.{all_live}
use Rattle.replay_rounds.specs.Kegs.{keg_place}
use Rattle.replay_rounds.specs.Zones.{AreZones}
use Rattle.replay_rounds.specs.Lending.{AllFit, IsCensusOf, TakesCensus}
use Rattle.replay_rounds.specs.Slots.{all_lent, in_keg, live_sum}
use Rattle.replay_rounds.proofs.Placed.{below_eight, lent_numbers}
use Rattle.replay_rounds.proofs.Sums.{all_count, lent_is, lives_pair, pairs_with, same_sum}

module _ {H Part : Type 0} {h : Ghosts H Part} where
  -- what the zone's call says of the census
  pub record Says (primary : CountedZone H Part h) (lives : List LiveItem) (census : Census) : Type 0 where
    pub counts : IsCensusOf primary census
    pub lent : (zone : ℕ) → zone < 8 → lent_of lives zone ≤ census_out census zone

  -- the zones, the workers that belong to them, and the items that these lend to the keg of the zone at place `p`
  pub record Lends (head : Head) (clock : Clock H Part) (zones : List (CountedZone H Part h)) (workers : List (Worker H Part h)) (p : ℕ) (lives : List LiveItem) : Type 0 where
    pub head_fits : HeadFits head
    pub are : AreZones head clock zones
    pub fits : AllFit zones clock workers
    pub lent : lives ≡ all_lent (in_keg head.zones p) workers

  count_is : (head : Head) (clock : Clock H Part) (zones : List (CountedZone H Part h)) (workers : List (Worker H Part h)) (p : ℕ) (lives : List LiveItem) (z : ℕ) (line : ZoneHead) (zone : CountedZone H Part h) → Lends head clock zones workers p lives
      → slice_get head.zones z ≡ Some line → keg_place z line ≡ p → slice_get zones z ≡ Some zone → lent_of lives (zone_index zone) ≡ all_live z workers
  count_is head clock zones workers p lives z line zone lends at_line of_it at_zone =
      ap (λ l. lent_of l (zone_index zone)) lends.lent
      ∙ all_count (in_keg head.zones p) z (zone_index zone) workers (lent_numbers head clock zones workers p z line zone lends.are lends.fits at_line of_it at_zone)

-- what came back passed its ctors and dtors in pairs, but for the live items
own_pairs : (index live : ℕ) (back lives : List LiveItem) → index < 8 → all_seen back ≡ all_seen lives → lent_of lives index ≡ live → ShowsSame (live_sum (Ctor index) back) (live_sum (Dtor index) back + live)
own_pairs index live back lives below seen count =
    ap (λ n. n % 2 ^ 64) (same_sum (Ctor index) back lives seen) ∙ lives_pair index lives below
    ∙ (λ i. (sym (same_sum (Dtor index) back lives seen) i + count i) % 2 ^ 64)

module _ {H Part : Type 0} {h : Ghosts H Part} where
  pub takes_census : (head : Head) (clock : Clock H Part) (zones : List (CountedZone H Part h)) (workers : List (Worker H Part h)) (p : ℕ) (primary : CountedZone H Part h) (census : Census) (tally : TallySum) (lives back : List LiveItem)
      → Lends head clock zones workers p lives → Says primary lives census → all_seen back ≡ all_seen lives → ((hook : Hook) → sum_of tally hook ≡ sum_of (census_tally census) hook + live_sum hook back)
      → TakesCensus head zones workers p primary census tally
  takes_census head clock zones workers p primary census tally lives back lends says seen sums = record {
    counts = says.counts;
    lent = λ z line zone at_line of_it at_zone.
        let P : ℕ → Type 0 = λ n. n ≤ census_out census (zone_index zone) in
        subst P (count_is head clock zones workers p lives z line zone lends at_line of_it at_zone) (says.lent (zone_index zone) (below_eight head clock zones z line zone lends.head_fits lends.are at_line at_zone));
    hooks = λ hook. sums hook ∙ ap (λ n. sum_of (census_tally census) hook + n) (same_sum hook back lives seen ∙ ap (live_sum hook) lends.lent ∙ lent_is hook p head.zones workers);
    pairs = λ z line zone at_line of_it at_zone.
        let index = zone_index zone in
        let below = below_eight head clock zones z line zone lends.head_fits lends.are at_line at_zone in
        let count = count_is head clock zones workers p lives z line zone lends at_line of_it at_zone in
        pairs_with (sum_of (census_tally census) (Ctor index)) (sum_of (census_tally census) (Dtor index)) (sum_of tally (Ctor index)) (sum_of tally (Dtor index))
        (live_sum (Ctor index) back) (live_sum (Dtor index) back) (all_live z workers)
        (sums (Ctor index)) (sums (Dtor index)) (census.paired.builds index below) (own_pairs index (all_live z workers) back lives below seen count);
  }
