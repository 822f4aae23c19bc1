-- That the sums of a keg fit: a census's, what the slots lent, and its zones'.
use Rattle.std.proofs.Common.{◌≡◌, ℕ, ◌+◌, ◌*◌, ◌^◌, ◌<◌, ◌≤◌, List, [], ◌∷◌, cond, Option, None, Some, refl, sym, ap, subst, arith, length}
use Rattle.std.specs.Prelude.{slice_get}
use Rattle.std.specs.List.{sum_by}
use Rattle.std.specs.Option.{option_map_or}
use Rattle.smr_clock.specs.declared.host.Host.{Ghosts}
use Rattle.trace_text.specs.declared.trace.Head.{Head}
use Rattle.trace_text.specs.declared.trace.ZoneHead.{ZoneHead}
use Rattle.trace_text.specs.Valid.{HeadFits}
use Rattle.uma_keg.specs.declared.census.Census.{Census}
use Rattle.uma_keg.specs.Census.{census_tally}
use Rattle.uma_life.specs.declared.tally.TallySum.{TallySum}
use Rattle.uma_life.specs.Hook.{Hook}
use Rattle.uma_life.specs.Live.{live_body, live_zone}
use Rattle.uma_life.specs.Sum.{AreBelow, sum_of}
use Rattle.uma_life.specs.declared.tally.BodyPhase.TheVariants.{Built}
use Rattle.uma_bucket.proofs.Tallied.{trail_times}
use Rattle.replay_worker.specs.declared.worker.Held.{Held}
use Rattle.replay_worker.specs.declared.worker.Worker.{Worker}
use Rattle.replay_worker.specs.Items.{counted_life, CountedZone, LiveItem}
use Rattle.replay_worker.specs.Live.{item_of}
use Rattle.replay_worker.proofs.Belongs.{some_within}
use Rattle.replay_rounds.specs.Lending.{AreFew, TakesCensus, TakesCensusAt, live_times, lent_times, slot_times}
use Rattle.replay_rounds.specs.Taking.{is_of_keg}
use Rattle.replay_rounds.proofs.Indexes.{few_zones}
use Rattle.replay_rounds.proofs.Picks.{kegged, kegged_few, sum_few, sum_filtered}

-- ---- plain numbers

up_to : (a b : ℕ) → a < b → a ≤ b
up_to a b less = omega arith

slots_fit : (a n : ℕ) → a ≤ n * 2 ^ 64 → n ≤ 65536 → a ≤ 2 ^ 80
slots_fit a n le few = omega arith

workers_fit : (a n : ℕ) → a ≤ n * 2 ^ 80 → n ≤ 16 → a ≤ 2 ^ 84
workers_fit a n le few = omega arith

zones_fit : (a n : ℕ) → a ≤ n * 2 ^ 84 → n ≤ 16 → a ≤ 2 ^ 88
zones_fit a n le few = omega arith

both_fit : (a b c : ℕ) → c ≡ a + b → a < 2 ^ 121 → b ≤ 2 ^ 88 → c < 2 ^ 126
both_fit a b c is p q = omega arith

-- ---- one item, the slots of one worker, of all, and those of a keg's zones

item_few : (hook : Hook) (item : LiveItem) → live_times hook item ≤ 2 ^ 64
item_few hook item = up_to (live_times hook item) (2 ^ 64) (trail_times (Built (live_zone item)) (counted_life (live_body item)).tally item.at.trail hook)

slot_few : (hook : Hook) (o : Option LiveItem) → option_map_or (live_times hook) o 0 ≤ 2 ^ 64
slot_few hook None = omega arith
slot_few hook (Some item) = item_few hook item

module _ {H Part : Type 0} {h : Ghosts H Part} where
  slots_few : (hook : Hook) (z : ℕ) (w : Worker H Part h) → length w.slots ≤ 65536 → slot_times hook z w ≤ 2 ^ 80
  slots_few hook z w few =
      let f : Option Held → ℕ = λ o. option_map_or (live_times hook) (item_of z o) 0 in
      let P : ℕ → Type 0 = λ n. n ≤ length w.slots * 2 ^ 64 in
      slots_fit (slot_times hook z w) (length w.slots) (subst P (sym (sum_filtered (item_of z) (live_times hook) w.slots)) (sum_few f (2 ^ 64) w.slots (λ n o at. slot_few hook (item_of z o)))) few

  workers_few : (hook : Hook) (z : ℕ) (workers : List (Worker H Part h)) → AreFew workers → sum_by (slot_times hook z) workers ≤ 2 ^ 84
  workers_few hook z workers few =
      workers_fit (sum_by (slot_times hook z) workers) (length workers) (sum_few (slot_times hook z) (2 ^ 80) workers (λ n w at. slots_few hook z w (few.slots n w at))) few.few

  pub lent_is : (hook : Hook) (p z : ℕ) (lines : List ZoneHead) (workers : List (Worker H Part h)) → lent_times hook p z lines workers ≡ kegged (is_of_keg p) (λ n. sum_by (slot_times hook n) workers) z lines
  unfolding kegged
  lent_is hook p z [] workers = refl
  lent_is hook p z (line ∷ lines) workers = ap (λ (n : ℕ). cond (is_of_keg p z line) (sum_by (slot_times hook z) workers) 0 + n) (lent_is hook p (z + 1) lines workers)

  lent_few : (hook : Hook) (p : ℕ) (lines : List ZoneHead) (workers : List (Worker H Part h)) → AreFew workers → length lines ≤ 16 → lent_times hook p 0 lines workers ≤ 2 ^ 88
  lent_few hook p lines workers few most =
      let P : ℕ → Type 0 = λ n. n ≤ length lines * 2 ^ 84 in
      zones_fit (lent_times hook p 0 lines workers) (length lines)
      (subst P (sym (lent_is hook p 0 lines workers)) (kegged_few (is_of_keg p) (λ n. sum_by (slot_times hook n) workers) (2 ^ 84) 0 lines (λ n. workers_few hook n workers few))) most

  counts_below : (head : Head) (zones : List (CountedZone H Part h)) (workers : List (Worker H Part h)) (p : ℕ) (primary : CountedZone H Part h) (census : Census) (lent : TallySum) → HeadFits head → AreFew workers → TakesCensus head zones workers p primary census lent → AreBelow (2 ^ 126) lent
  counts_below head zones workers p primary census lent fits few takes hook =
      both_fit (sum_of (census_tally census) hook) (lent_times hook p 0 head.zones workers) (sum_of lent hook) (takes.hooks hook) (census.bounded hook) (lent_few hook p head.zones workers few (few_zones head fits))

  -- what a census and the slots come to
  pub lent_below : (head : Head) (zones : List (CountedZone H Part h)) (workers : List (Worker H Part h)) (p : ℕ) (census : Census) (lent : TallySum) → HeadFits head → AreFew workers → p < length zones → TakesCensusAt head zones workers p census lent → AreBelow (2 ^ 126) lent
  lent_below head zones workers p census lent fits few within takes = counts_of_one zones within takes
    where
      counts_of_one : (l : List (CountedZone H Part h)) → p < length l → ((primary : CountedZone H Part h) → slice_get l p ≡ Some primary → TakesCensus head zones workers p primary census lent) → AreBelow (2 ^ 126) lent
      counts_of_one l below takes = let primary = some_within l p below in counts_below head zones workers p primary.0 census lent fits few (takes primary.0 primary.1)
