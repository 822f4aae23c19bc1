-- What the kegs come to, once their censuses, the slots and the sums of their zones are together.
use Rattle.std.proofs.Common.{◌≡◌, ℕ, ◌+◌, ◌<◌, ◌≤◌, List, [], ◌∷◌, Bool, true, false, cond, Option, Some, option_map, refl, sym, ap, ◌∙◌, subst, arith, length, map, eq-eqb}
use Rattle.std.proofs.lemmas.Bool.{eqb-true}
use Rattle.std.proofs.lemmas.List.{length-map}
use Rattle.std.proofs.lemmas.Option.{get_or_from_slice_get, same_Some, slice_get-map}
use Rattle.std.specs.Prelude.{◌==◌, slice_get, slice_index_or}
use Rattle.std.specs.List.{sum_by}
use Rattle.smr_clock.specs.declared.clock.Clock.{Clock}
use Rattle.smr_clock.specs.declared.host.Host.{Ghosts}
use Rattle.trace_text.specs.declared.trace.Head.{Head}
use Rattle.trace_text.specs.declared.trace.ZoneHead.{ZoneHead}
use Rattle.trace_text.specs.Valid.{HeadFits}
use Rattle.uma_keg.specs.declared.census.Census.{Census}
use Rattle.uma_keg.specs.Census.{census_out, census_tally}
use Rattle.uma_life.specs.declared.tally.TallySum.{TallySum}
use Rattle.uma_life.specs.Hook.{Hook, Ctor, Dtor}
use Rattle.uma_life.specs.Sum.{sum_of}
use Rattle.uma_life.specs.Trail.{ShowsSame}
use Rattle.uma_bucket.specs.declared.shelved.Sums.{Sums}
use Rattle.uma_bucket.proofs.Tallied.{both_show}
use Rattle.uma_zone.specs.Zone.{zone_index}
use Rattle.replay_worker.specs.declared.worker.Worker.{Worker}
use Rattle.replay_worker.specs.Items.{CountedZone}
use Rattle.replay_worker.specs.Together.{all_live}
use Rattle.replay_rounds.specs.Kegs.{index_of, keg_place}
use Rattle.replay_rounds.specs.Zones.{AreZones}
use Rattle.replay_rounds.proofs.Lists.{has_too}
use Rattle.replay_rounds.proofs.Placed.{number_below_eight}
use Rattle.replay_rounds.specs.Lending.{KeepsWorkers, TakesCensus, lent_times, slot_times}
use Rattle.replay_rounds.specs.Closes.{AllClose, KegCloses, keg_times, seat_times, seat_deferred, zone_times}
use Rattle.replay_rounds.specs.Picking.{picked}
use Rattle.replay_rounds.specs.Summing.{SumsUp}
use Rattle.replay_rounds.specs.Taking.{AllSumUp, TakesKeg, TakesKegs, is_of_keg, keg_sums}
use Rattle.replay_rounds.proofs.TotalBounds.{lent_is}
use Rattle.replay_rounds.proofs.Indexes.{differ}
use Rattle.replay_rounds.proofs.Kept.{keeps_back, lent_kept, live_kept, seat_deferred_kept, seat_times_kept}
use Rattle.replay_rounds.proofs.Modulo.{shows_as}
use Rattle.replay_rounds.proofs.Picks.{kegged, kegged_le, picked_one, picked_shows, sum_plus}

-- ---- plain numbers

zero_and : (n : ℕ) → 0 + n ≡ n
zero_and n = omega arith

counted_all : (census times tally lent held picks : ℕ) → tally ≡ lent + picks → lent ≡ census + held → times ≤ held + picks → census + times ≤ tally
counted_all census times tally lent held picks p q le = omega arith

regroup : (a l d e : ℕ) → a + l + (d + e) ≡ a + d + l + e
regroup a l d e = omega arith

-- ---- for the workers as they are in the end

module _ {H Part : Type 0} {h : Ghosts H Part} (old new : List (Worker H Part h)) (keeps : KeepsWorkers old new) where
  sums_kept : (zone : CountedZone H Part h) (z : ℕ) (s : Sums) → SumsUp zone z old s → SumsUp zone z new s
  sums_kept zone z s up = record {
    few = up.few;
    balance = up.balance;
    tally = λ hook. (let P : ℕ → Type 0 = λ n. n ≤ sum_of s.tally hook in subst P (sym (seat_times_kept old new keeps hook z)) (up.tally hook));
    deferred = (let P : ℕ → Type 0 = λ n. n ≤ s.deferred in subst P (sym (seat_deferred_kept old new keeps z)) up.deferred);
  }

  all_sums_kept : (zones : List (CountedZone H Part h)) (sums : List Sums) → AllSumUp zones old sums → AllSumUp zones new sums
  all_sums_kept zones sums all = record { count = all.count; each = λ z zone s at there. sums_kept zone z s (all.each z zone s at there) }

  census_kept : (head : Head) (zones : List (CountedZone H Part h)) (p : ℕ) (primary : CountedZone H Part h) (census : Census) (lent : TallySum) → TakesCensus head zones old p primary census lent → TakesCensus head zones new p primary census lent
  census_kept head zones p primary census lent takes = record {
    counts = takes.counts;
    lent = λ z line zone at of there. (let P : ℕ → Type 0 = λ n. n ≤ census_out census (zone_index zone) in subst P (sym (live_kept old new keeps z)) (takes.lent z line zone at of there));
    hooks = λ hook. takes.hooks hook ∙ ap (λ (n : ℕ). sum_of (census_tally census) hook + n) (sym (lent_kept old new keeps hook p 0 head.zones));
    pairs = λ z line zone at of there.
        let P : ℕ → Type 0 = λ n. ShowsSame (sum_of lent (Ctor (zone_index zone))) (sum_of lent (Dtor (zone_index zone)) + n) in
        subst P (sym (live_kept old new keeps z)) (takes.pairs z line zone at of there);
  }

module _ {H Part : Type 0} {h : Ghosts H Part} where
  -- the keg that was taken, for the workers as they were before
  pub keg_kept : (head : Head) (zones : List (CountedZone H Part h)) (old new : List (Worker H Part h)) (sums : List Sums) (p : ℕ) (census : Census) (tally : TallySum) → KeepsWorkers old new → TakesKeg head zones new sums p census tally → TakesKeg head zones old sums p census tally
  keg_kept head zones old new sums p census tally keeps takes = record {
    lent = takes.lent;
    counts = λ primary is. census_kept new old (keeps_back old new keeps) head zones p primary census takes.lent (takes.counts primary is);
    adds = takes.adds;
  }

  -- ---- one keg

  times_are : (hook : Hook) (p z : ℕ) (lines : List ZoneHead) (workers : List (Worker H Part h)) → keg_times hook p z lines workers ≡ kegged (is_of_keg p) (λ n. zone_times hook n workers) z lines
  unfolding kegged
  times_are hook p z [] workers = refl
  times_are hook p z (line ∷ lines) workers = ap (λ (n : ℕ). cond (is_of_keg p z line) (zone_times hook z workers) 0 + n) (times_are hook p (z + 1) lines workers)

cond_true : (t u : Bool) → cond t u false ≡ true → (t ≡ true) × (u ≡ true)
cond_true true u is = (refl, is)
cond_true false u is = absurd (cc)

both_true : (t u : Bool) → t ≡ true → u ≡ true → cond t u false ≡ true
both_true t u p q = ap (λ (b : Bool). cond b u false) p ∙ q

module _ {H Part : Type 0} {h : Ghosts H Part} (head : Head) (clock : Clock H Part) (zones : List (CountedZone H Part h)) (workers : List (Worker H Part h)) (sums : List Sums) (fits : HeadFits head) (are : AreZones head clock zones) (all : AllSumUp zones workers sums) where
  as_many : length sums ≡ length head.zones
  as_many = all.count ∙ are.count

  -- the zone at a place where there are sums
  up_at : (n : ℕ) (s : Sums) → slice_get sums n ≡ Some s → (zone : CountedZone H Part h) × (slice_get zones n ≡ Some zone) × SumsUp zone n workers s
  up_at n s at = let zone = has_too zones sums n s all.count at in (zone.0, zone.1, all.each n zone.0 s zone.1 at)

  keg_hooks : (hook : Hook) (p : ℕ) → keg_times hook p 0 head.zones workers ≤ lent_times hook p 0 head.zones workers + keg_sums hook p head.zones sums
  keg_hooks hook p =
      let part : ℕ → ℕ = λ n. sum_by (slot_times hook n) workers in
      let other : ℕ → ℕ = λ n. sum_by (seat_times hook n) workers in
      let whole : ℕ → ℕ = λ n. zone_times hook n workers in
      let term : Sums → ℕ = λ s. sum_of s.tally hook in
      let each : (n : ℕ) (s : Sums) → slice_get sums n ≡ Some s → other (0 + n) ≤ term s = λ n s at. (let P : ℕ → Type 0 = λ m. other m ≤ term s in subst P (sym (zero_and n)) ((up_at n s at).2.tally hook)) in
      let le = kegged_le (is_of_keg p) whole part other term 0 head.zones sums as_many (λ n. sum_plus (slot_times hook n) (seat_times hook n) workers) each in
      let P : ℕ → Type 0 = λ n. n ≤ lent_times hook p 0 head.zones workers + keg_sums hook p head.zones sums in
      let Q : ℕ → Type 0 = λ n. kegged (is_of_keg p) whole 0 head.zones ≤ n + keg_sums hook p head.zones sums in
      subst P (sym (times_are hook p 0 head.zones workers)) (subst Q (sym (lent_is hook p 0 head.zones workers)) le)

  -- the place with this number
  numbered : ℕ → ℕ → ZoneHead → Bool
  numbered i n line = index_of head.zones n line == i

  of_keg : ℕ → ℕ → ℕ → ZoneHead → Bool
  of_keg p i n line = cond (is_of_keg p n line) (numbered i n line) false

  -- in the keg, ctors of a number exceed dtors by what is deferred of it
  keg_balance : (p i : ℕ) → i < 8 → ShowsSame (keg_sums (Ctor i) p head.zones sums) (keg_sums (Dtor i) p head.zones sums + picked (of_keg p i) (λ s. s.deferred) 0 head.zones sums)
  unfolding of_keg numbered
  keg_balance p i small =
      picked_shows (is_of_keg p) (numbered i) (λ s. sum_of s.tally (Ctor i)) (λ s. sum_of s.tally (Dtor i)) (λ s. s.deferred) 0 head.zones sums
      (λ n line s at there.
      let up = up_at n s there in
      let index : zone_index up.0 ≡ index_of head.zones n line = (are.each n line up.0 at up.1).index in
      let P : ℕ → Type 0 = λ k. ShowsSame (sum_of s.tally (Ctor i)) (sum_of s.tally (Dtor i) + cond (k == i) s.deferred 0) in
      let Q : ℕ → Type 0 = λ m. ShowsSame (sum_of s.tally (Ctor i)) (sum_of s.tally (Dtor i) + cond (numbered i m line) s.deferred 0) in
      subst Q (sym (zero_and n)) (subst P index (up.2.balance i small)))

  -- one zone of it has the number
  deferred_one : (p z : ℕ) (line : ZoneHead) (s : Sums) → slice_get head.zones z ≡ Some line → keg_place z line ≡ p → slice_get sums z ≡ Some s → picked (of_keg p (index_of head.zones z line)) (λ s. s.deferred) 0 head.zones sums ≡ s.deferred
  unfolding of_keg numbered
  deferred_one p z line s at of there =
      let i = index_of head.zones z line in
      let T : ℕ → Type 0 = λ n. of_keg p i n line ≡ true in
      picked_one (of_keg p i) (λ s. s.deferred) 0 head.zones sums z line s at there
      (subst T (sym (zero_and z)) (both_true (is_of_keg p z line) (numbered i z line) (eq-eqb (keg_place z line) p of) (eq-eqb i i refl)))
      (λ m other is_other holds.
      let U : ℕ → Type 0 = λ n. of_keg p i n other ≡ true in
      let both = cond_true (is_of_keg p m other) (numbered i m other) (subst U (zero_and m) holds) in
      differ head.zones p m z other line is_other at (eqb-true (keg_place m other) p both.0) of (eqb-true (index_of head.zones m other) i both.1))

  deferred_at : (deferred : List ℕ) (z : ℕ) (s : Sums) → deferred ≡ map (λ s. s.deferred) sums → slice_get sums z ≡ Some s → slice_get deferred z ≡ Some s.deferred
  deferred_at deferred z s is at = ap (λ (l : List ℕ). slice_get l z) is ∙ slice_get-map (λ s. s.deferred) sums z ∙ ap (λ (o : Option Sums). option_map (λ s. s.deferred) o) at

  keg_closes : (deferred : List ℕ) → deferred ≡ map (λ s. s.deferred) sums → (p : ℕ) (primary : CountedZone H Part h) (census : Census) (lent tally : TallySum) → TakesCensus head zones workers p primary census lent
      → ((hook : Hook) → sum_of tally hook ≡ sum_of lent hook + keg_sums hook p head.zones sums) → KegCloses head zones workers deferred p primary census tally
  keg_closes deferred is_deferred p primary census lent tally takes adds = record {
    counts = takes.counts;
    lent = takes.lent;
    hooks = λ hook.
        counted_all (sum_of (census_tally census) hook) (keg_times hook p 0 head.zones workers) (sum_of tally hook) (sum_of lent hook) (lent_times hook p 0 head.zones workers) (keg_sums hook p head.zones sums)
        (adds hook) (takes.hooks hook) (keg_hooks hook p);
    pairs = λ z line zone at of there.
        let i = zone_index zone in
        let index : i ≡ index_of head.zones z line = (are.each z line zone at there).index in
        let L : ℕ → Type 0 = λ n. n < 8 in
        let small : i < 8 = subst L (sym index) (number_below_eight head z line fits at) in
        let s = has_too sums head.zones z line (sym as_many) at in
        let picks : picked (of_keg p i) (λ s. s.deferred) 0 head.zones sums ≡ s.0.deferred = ap (λ (n : ℕ). picked (of_keg p n) (λ s. s.deferred) 0 head.zones sums) index ∙ deferred_one p z line s.0 at of s.1 in
        let here : slice_index_or deferred z 0 ≡ s.0.deferred = get_or_from_slice_get deferred z s.0.deferred 0 (deferred_at deferred z s.0 is_deferred s.1) in
        let D = sum_of lent (Dtor i) in
        let live = all_live z workers in
        let E = keg_sums (Dtor i) p head.zones sums in
        shows_as (sum_of lent (Ctor i) + keg_sums (Ctor i) p head.zones sums) (D + live + (E + picked (of_keg p i) (λ s. s.deferred) 0 head.zones sums)) (sum_of tally (Ctor i)) (sum_of tally (Dtor i) + live + slice_index_or deferred z 0)
        (sym (adds (Ctor i)))
        (ap (λ (n : ℕ). D + live + (E + n)) (picks ∙ sym here) ∙ regroup D live E (slice_index_or deferred z 0) ∙ ap (λ (n : ℕ). n + live + slice_index_or deferred z 0) (sym (adds (Dtor i))))
        (both_show (sum_of lent (Ctor i)) (D + live) (keg_sums (Ctor i) p head.zones sums) (E + picked (of_keg p i) (λ s. s.deferred) 0 head.zones sums) (takes.pairs z line zone at of there) (keg_balance p i small));
  }

  -- each zone's deferred items
  zone_defers : (deferred : List ℕ) → deferred ≡ map (λ s. s.deferred) sums → (z count : ℕ) → slice_get deferred z ≡ Some count → sum_by (seat_deferred z) workers ≤ count
  zone_defers deferred is z count at =
      let many : length deferred ≡ length sums = ap length is ∙ length-map sums (λ s. s.deferred) in
      let s = has_too sums deferred z count many at in
      let same : s.0.deferred ≡ count = same_Some s.0.deferred count (sym (deferred_at deferred z s.0 is s.1) ∙ at) in
      let P : ℕ → Type 0 = λ n. sum_by (seat_deferred z) workers ≤ n in
      subst P same (up_at z s.0 s.1).2.deferred

module _ {H Part : Type 0} {h : Ghosts H Part} where
  -- all of them, for the workers as they are in the end
  pub all_close : (head : Head) (clock : Clock H Part) (zones : List (CountedZone H Part h)) (old new : List (Worker H Part h)) (sums : List Sums) (deferred : List ℕ) (censuses : List Census) (tallies : List TallySum) → HeadFits head → AreZones head clock zones
      → KeepsWorkers old new → AllSumUp zones old sums → deferred ≡ map (λ s. s.deferred) sums → TakesKegs head zones old sums head.zones censuses tallies → AllClose head zones new censuses tallies deferred
  all_close head clock zones old new sums deferred censuses tallies fits are keeps up is takes =
      let all = all_sums_kept old new keeps zones sums up in
      record {
        censuses_count = takes.censuses_count;
        tallies_count = takes.tallies_count;
        deferred_count = ap length is ∙ length-map sums (λ s. s.deferred) ∙ all.count ∙ are.count;
        kegs = λ k p line primary census tally at is_primary is_census is_tally.
            let one = takes.each k p line census tally at is_census is_tally in
            keg_closes head clock zones new sums fits are all deferred is p primary census one.lent tally (census_kept old new keeps head zones p primary census one.lent (one.counts primary is_primary)) one.adds;
        defers = λ z count at. zone_defers head clock zones new sums fits are all deferred is z count at;
      }
