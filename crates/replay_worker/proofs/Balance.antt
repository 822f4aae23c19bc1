-- The live items of a worker and its ledgers go together, line after line.
use Rattle.std.proofs.Common.{◌≡◌, ◌≢◌, ℕ, ◌+◌, inl, inr, ◌⊎◌, List, Bool, cond, Option, None, Some, refl, sym, ap, ◌∙◌, subst, length, eq-eqb}
use Rattle.std.proofs.lemmas.Bool.{cases_eq, ne_eqb}
use Rattle.std.proofs.lemmas.List.{get_or-set_same, get_or-set_other}
use Rattle.std.proofs.lemmas.Option.{slice_get_within, get_or_from_slice_get, same_Some}
use Rattle.std.specs.Prelude.{slice_get, slice_set, option_map, ◌==◌}
use Rattle.smr_clock.specs.declared.host.Host.{Ghosts}
use Rattle.trace_text.specs.declared.trace.Op.{Op}
use Rattle.trace_text.specs.declared.trace.Op.TheVariants.{Alloc, Free, Enter, Exit, Prealloc, Bind, Unbind, Look, Trim, Drain, DrainSeat, Away, Back}
use Rattle.uma_seat.specs.Seat.{ledger_of}
use Rattle.uma_zone.specs.declared.zone.alloc.AllocAsk.{AllocAsk}
use Rattle.uma_zone.specs.declared.zone.alloc.AllocRefused.TheVariants.{Refused}
use Rattle.uma_zone.specs.Alloc.{AllocIsRefused}
use Rattle.zone_stats.specs.declared.ledger.SeatLedger.{SeatLedger}
use Rattle.zone_stats.specs.declared.refusal.Refusal.{Refusal}
use Rattle.zone_stats.specs.declared.refusal.Refusal.TheVariants.{AtLimit, Reserved, Full, Init, Ctor}
use Rattle.replay_worker.specs.declared.worker.Held.{Held}
use Rattle.replay_worker.specs.declared.worker.Worker.{Worker}
use Rattle.replay_worker.specs.Items.{CountedSeat, CountedZone, LiveItem}
use Rattle.replay_worker.specs.Live.{holding, is_of, live_count}
use Rattle.replay_worker.specs.Performs.{Allocs, Frees, KeepsHolds, Reclaims, CanPerform, Performs}
use Rattle.replay_worker.specs.Requests.{Ends}
use Rattle.replay_worker.specs.Slots.{slot_at, filled, with_held, emptied}
use Rattle.replay_worker.specs.Turn.{Balances}
use Rattle.replay_worker.proofs.Belongs.{some_within}
use Rattle.replay_worker.proofs.Numbers.{balance_got, balance_still, balance_gave, balance_as, balance_chain, none_more, none_gone, below_as}
use Rattle.replay_worker.proofs.ReclaimSteps.{Keeping, drained_keeps, emptied_keeps, trimmed_keeps}
use Rattle.replay_worker.proofs.SlotLemmas.{count-with, count-emptied}

module _ {H Part : Type 0} {h : Ghosts H Part} where
  -- the seat at a place after one was written: the written one, or the one that was there
  seat_cases : (old new : List (CountedSeat H Part h)) (z w : ℕ) (was written before after : CountedSeat H Part h) → slice_get old w ≡ Some was → new ≡ slice_set old w written
      → slice_get old z ≡ Some before → slice_get new z ≡ Some after
      → ((z ≡ w) × (was ≡ before) × (written ≡ after)) ⊎ ((z ≢ w) × (before ≡ after))
  seat_cases old new z w was written before after at is here there =
      let P : List (CountedSeat H Part h) → Type 0 = λ list. slice_get list z ≡ Some after in
      let found : slice_get (slice_set old w written) z ≡ Some after = subst P is there in
      elim (cases_eq z w) [
        | inl same ↦
            let Q : ℕ → Type 0 = λ i. slice_get (slice_set old w written) i ≡ Some after in
            let R : ℕ → Type 0 = λ i. slice_get old i ≡ Some before in
            inl (
              same,
              same_Some was before (sym at ∙ subst R same here),
              sym (get_or-set_same old w written written (slice_get_within old w was at)) ∙ get_or_from_slice_get (slice_set old w written) w after written (subst Q same found),
            )
        | inr apart ↦ inr (
          apart,
          sym (get_or_from_slice_get old z before before here)
              ∙ (sym (get_or-set_other old w z written before apart) ∙ get_or_from_slice_get (slice_set old w written) z after before found),
        )
      ]

abbrev unit : Bool → ℕ
unit b = cond b 1 0

module _ {H Part : Type 0} {h : Ghosts H Part} where
  -- a refused request counts no alloc and no free
  refused_counts : (zone : CountedZone H Part h) (ask : AllocAsk) (before after : CountedSeat H Part h) (why : Refusal) → AllocIsRefused zone ask before after (Refused why)
      → ((ledger_of after).allocs ≡ (ledger_of before).allocs) × ((ledger_of after).frees ≡ (ledger_of before).frees)
  refused_counts zone ask before after (Ctor code) refuses = (refuses.counted.allocs, refuses.counted.frees)
  refused_counts zone ask before after (AtLimit out limit) refuses = (refuses.counted.allocs, refuses.counted.frees)
  refused_counts zone ask before after (Reserved free kept) refuses = (refuses.counted.allocs, refuses.counted.frees)
  refused_counts zone ask before after (Full slabs made) refuses = (refuses.counted.allocs, refuses.counted.frees)
  refused_counts zone ask before after (Init code) refuses = (refuses.counted.allocs, refuses.counted.frees)

-- an item more in the slots, of a zone
live_filled : (z w slot : ℕ) (item : LiveItem) (slots : List (Option Held)) → slot_at slots slot ≡ None
    → live_count z (with_held slots slot (holding w item)) ≡ live_count z slots + unit (w == z)
live_filled z w slot item slots empty = count-with (is_of z) slots slot (holding w item) refl empty

module _ {H Part : Type 0} {h : Ghosts H Part} where
  -- a request of the zone, however it ended
  balance_ends : (zone : CountedZone H Part h) (ask : AllocAsk) (z slot : ℕ) (before after : CountedSeat H Part h) (got : Option LiveItem) (slots : List (Option Held)) → slot_at slots slot ≡ None → Ends zone ask before got after
      → live_count z (filled slots slot (option_map (holding z) got)) + (ledger_of after).frees + (ledger_of before).allocs ≡ live_count z slots + (ledger_of before).frees + (ledger_of after).allocs
  balance_ends zone ask z slot before after (Some item) slots empty ends =
      balance_got (live_count z slots) (ledger_of before).allocs (live_filled z z slot item slots empty) (ap unit (eq-eqb z z refl)) ends.0.counted.frees ends.0.counted.allocs
  balance_ends zone ask z slot before after None slots empty ends =
      let same = refused_counts zone ask before after ends.0 ends.1 in balance_still refl same.1 same.0

-- a request of another zone leaves the items of this one
live_other : (z w slot : ℕ) (got : Option LiveItem) (slots : List (Option Held)) → slot_at slots slot ≡ None → z ≢ w
    → live_count z (filled slots slot (option_map (holding w) got)) ≡ live_count z slots
live_other z w slot (Some item) slots empty apart =
    none_more (live_filled z w slot item slots empty) (ap unit (ne_eqb w z (λ e. apart (sym e))))
live_other z w slot None slots empty apart = refl

module _ {H Part : Type 0} {h : Ghosts H Part} where
  balance_alloc : (zones : List (CountedZone H Part h)) (old new : Worker H Part h) (w slot : ℕ) (ask : AllocAsk) → slot_at old.slots slot ≡ None → Allocs zones old w slot ask new → (z : ℕ) → Balances z old new
  balance_alloc zones old new w slot ask empty step z before after here there =
      let slots_are : live_count z new.slots ≡ live_count z (filled old.slots slot (option_map (holding w) step.got)) = ap (live_count z) step.slots in
      elim (seat_cases old.seats.items new.seats.items z w step.before step.after before after step.at step.seats here there) [
        | inl same ↦
            let P : CountedSeat H Part h → Type 0 = λ b. live_count z new.slots + (ledger_of after).frees + (ledger_of b).allocs ≡ live_count z old.slots + (ledger_of b).frees + (ledger_of after).allocs in
            let Q : CountedSeat H Part h → Type 0 = λ a. live_count z new.slots + (ledger_of a).frees + (ledger_of step.before).allocs ≡ live_count z old.slots + (ledger_of step.before).frees + (ledger_of a).allocs in
            let R : ℕ → Type 0 = λ i. live_count i (filled old.slots slot (option_map (holding i) step.got)) + (ledger_of step.after).frees + (ledger_of step.before).allocs ≡ live_count i old.slots + (ledger_of step.before).frees + (ledger_of step.after).allocs in
            let S : ℕ → Type 0 = λ i. live_count z new.slots ≡ live_count z (filled old.slots slot (option_map (holding i) step.got)) in
            let mine : R z = balance_ends step.of ask z slot step.before step.after step.got old.slots empty step.requests.ends in
            let are : S z = subst S (sym same.0) slots_are in
            subst P same.1 (subst Q same.2 (balance_as (ledger_of step.after).frees (ledger_of step.before).allocs are mine))
        | inr other ↦
            let P : CountedSeat H Part h → Type 0 = λ a. live_count z new.slots + (ledger_of a).frees + (ledger_of before).allocs ≡ live_count z old.slots + (ledger_of before).frees + (ledger_of a).allocs in
            let kept = live_other z w slot step.got old.slots empty other.0 in
            subst P other.1 (balance_still (slots_are ∙ kept) refl refl)
      ]

  balance_free : (zones : List (CountedZone H Part h)) (old new : Worker H Part h) (slot : ℕ) (it : Held) → Frees zones old slot it new → (z : ℕ) → Balances z old new
  balance_free zones old new slot it step z before after here there =
      let slots_are : live_count z new.slots ≡ live_count z (emptied old.slots slot) = ap (live_count z) step.slots in
      let gone : live_count z (emptied old.slots slot) + unit (it.zone == z) ≡ live_count z old.slots = count-emptied (is_of z) old.slots slot it refl step.holds in
      let ready_is : ledger_of step.gives_back.ready ≡ ledger_of step.before = ap (λ c. c.ledger) step.gives_back.made.counts in
      let counted = step.gives_back.released.counted in
      elim (seat_cases old.seats.items new.seats.items z it.zone step.before step.after before after step.at step.seats here there) [
        | inl same ↦
            let one : unit (it.zone == z) ≡ 1 = ap unit (eq-eqb it.zone z (sym same.0)) in
            let P : CountedSeat H Part h → Type 0 = λ b. live_count z new.slots + (ledger_of after).frees + (ledger_of b).allocs ≡ live_count z old.slots + (ledger_of b).frees + (ledger_of after).allocs in
            let Q : CountedSeat H Part h → Type 0 = λ a. live_count z new.slots + (ledger_of a).frees + (ledger_of step.before).allocs ≡ live_count z old.slots + (ledger_of step.before).frees + (ledger_of a).allocs in
            let frees : (ledger_of step.after).frees ≡ (ledger_of step.before).frees + 1 = counted.frees ∙ ap (λ (l : SeatLedger). l.frees + 1) ready_is in
            let allocs : (ledger_of step.after).allocs ≡ (ledger_of step.before).allocs = counted.allocs ∙ ap (λ (l : SeatLedger). l.allocs) ready_is in
            subst P same.1 (subst Q same.2 (balance_gave (ledger_of step.before).frees slots_are gone one frees allocs))
        | inr other ↦
            let none : unit (it.zone == z) ≡ 0 = ap unit (ne_eqb it.zone z (λ e. other.0 (sym e))) in
            let P : CountedSeat H Part h → Type 0 = λ a. live_count z new.slots + (ledger_of a).frees + (ledger_of before).allocs ≡ live_count z old.slots + (ledger_of before).frees + (ledger_of a).allocs in
            subst P other.1 (balance_still (slots_are ∙ none_gone gone none) refl refl)
      ]

  -- a line of reclaim
  balance_reclaim : (zones : List (CountedZone H Part h)) (old new : Worker H Part h) (w : ℕ) → Reclaims zones Keeping old w new → (z : ℕ) → Balances z old new
  balance_reclaim zones old new w step z before after here there =
      let slots_are : live_count z new.slots ≡ live_count z old.slots = ap (live_count z) step.slots in
      let ledger_is : ledger_of step.after ≡ ledger_of step.before = ap (λ c. c.ledger) step.leaves.counts in
      elim (seat_cases old.seats.items new.seats.items z w step.before step.after before after step.at step.seats here there) [
        | inl same ↦
            let P : CountedSeat H Part h → Type 0 = λ b. live_count z new.slots + (ledger_of after).frees + (ledger_of b).allocs ≡ live_count z old.slots + (ledger_of b).frees + (ledger_of after).allocs in
            let Q : CountedSeat H Part h → Type 0 = λ a. live_count z new.slots + (ledger_of a).frees + (ledger_of step.before).allocs ≡ live_count z old.slots + (ledger_of step.before).frees + (ledger_of a).allocs in
            let frees : (ledger_of step.after).frees ≡ (ledger_of step.before).frees = ap (λ (l : SeatLedger). l.frees) ledger_is in
            let allocs : (ledger_of step.after).allocs ≡ (ledger_of step.before).allocs = ap (λ (l : SeatLedger). l.allocs) ledger_is in
            subst P same.1 (subst Q same.2 (balance_still slots_are frees allocs))
        | inr other ↦
            let P : CountedSeat H Part h → Type 0 = λ a. live_count z new.slots + (ledger_of a).frees + (ledger_of before).allocs ≡ live_count z old.slots + (ledger_of before).frees + (ledger_of a).allocs in
            subst P other.1 (balance_still slots_are refl refl)
      ]

  -- seats and slots stay
  pub balance_holds : (old new : Worker H Part h) → KeepsHolds old new → (z : ℕ) → Balances z old new
  balance_holds old new holds z before after here there =
      let P : List (CountedSeat H Part h) → Type 0 = λ list. slice_get list z ≡ Some after in
      let same : before ≡ after = same_Some before after (sym here ∙ subst P (ap (λ v. v.items) holds.seats) there) in
      let slots_are : live_count z new.slots ≡ live_count z old.slots = ap (live_count z) holds.slots in
      let Q : CountedSeat H Part h → Type 0 = λ a. live_count z new.slots + (ledger_of a).frees + (ledger_of before).allocs ≡ live_count z old.slots + (ledger_of before).frees + (ledger_of a).allocs in
      subst Q same (balance_still slots_are refl refl)

  pub Balances-self : (old new : Worker H Part h) → new ≡ old → (z : ℕ) → Balances z old new
  Balances-self old new is = balance_holds old new (record { seats = ap (λ (w : Worker H Part h). w.seats) is; slots = ap (λ (w : Worker H Part h). w.slots) is })

  -- a line of any kind
  pub balance_step : (zones : List (CountedZone H Part h)) (old new : Worker H Part h) (op : Op) → CanPerform zones old op → Performs zones old op new → (z : ℕ) → Balances z old new
  balance_step zones old new (Alloc w slot arg reserve) can step = balance_alloc zones old new w slot _ can.2 step
  balance_step zones old new (Free slot) can (inl freed) = balance_free zones old new slot freed.0 freed.1
  balance_step zones old new (Free slot) can (inr nothing) = Balances-self old new nothing.1
  balance_step zones old new Enter can (inl step) = balance_holds old new step.holds
  balance_step zones old new Enter can (inr step) = balance_holds old new step.holds
  balance_step zones old new Exit can step = balance_holds old new step.holds
  balance_step zones old new (Prealloc zone items) can step = Balances-self old new step.same
  balance_step zones old new (Bind key value) can step = absurd can
  balance_step zones old new (Unbind key) can step = absurd can
  balance_step zones old new (Look key) can step = absurd can
  balance_step zones old new Away can step = absurd can
  balance_step zones old new Back can step = absurd can
  balance_step zones old new (Trim zone) can step = balance_reclaim zones old new zone (trimmed_keeps zones old new zone step)
  balance_step zones old new (Drain zone) can step = balance_reclaim zones old new zone (drained_keeps zones old new zone step)
  balance_step zones old new (DrainSeat zone) can step = balance_reclaim zones old new zone (emptied_keeps zones old new zone step)

  -- one after another
  pub Balances-chain : (z : ℕ) (first second third : Worker H Part h) → length second.seats.items ≡ length third.seats.items → Balances z first second → Balances z second third → Balances z first third
  Balances-chain z first second third same one other before after here there =
      let below = slice_get_within third.seats.items z after there in
      let between = some_within second.seats.items z (below_as below same) in
      balance_chain (live_count z first.slots) (ledger_of before).frees (ledger_of before).allocs (live_count z second.slots) (ledger_of between.0).frees (ledger_of between.0).allocs
      (live_count z third.slots) (ledger_of after).frees (ledger_of after).allocs (one before between.0 here between.1) (other between.0 after between.1 there)
