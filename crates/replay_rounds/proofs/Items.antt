-- Items, frees and allocs of a zone, of all workers, after a round.
use Rattle.std.proofs.Common.{◌≡◌, ℕ, ◌+◌, ◌≤◌, List, false, Option, None, Some, inl, inr, refl, sym, ap, ◌∙◌, subst, length}
use Rattle.std.proofs.lemmas.Bool.{ne_eqb}
use Rattle.std.proofs.lemmas.List.{length-map}
use Rattle.std.proofs.lemmas.Option.{slice_get_cases, slice_get_within, get_or_from_slice_get}
use Rattle.std.specs.Option.{option_map_or}
use Rattle.std.specs.Prelude.{slice_get, option_map}
use Rattle.smr_clock.specs.declared.clock.Clock.{Clock}
use Rattle.smr_clock.specs.declared.host.Host.{Ghosts}
use Rattle.trace_text.specs.declared.trace.Trace.{Trace}
use Rattle.uma_seat.specs.Seat.{ledger_of}
use Rattle.replay_worker.specs.declared.worker.Held.{Held}
use Rattle.replay_worker.specs.declared.name_calls.NameCalls.{Ghosts as NameGhosts}
use Rattle.replay_worker.specs.declared.worker_run.WorkerRun.{WorkerRun}
use Rattle.replay_worker.specs.declared.worker.Worker.{Worker}
use Rattle.replay_worker.specs.Attendance.{worker_in}
use Rattle.replay_worker.specs.Items.{CountedSeat, CountedZone}
use Rattle.replay_worker.specs.Live.{is_of, live_count}
use Rattle.replay_worker.specs.OwnLines.{lines_before}
use Rattle.replay_worker.specs.Together.{AddsUp, AllStand, crew, all_frees, all_live, ledger_at}
use Rattle.replay_worker.specs.Turn.{Balances}
use Rattle.replay_worker.specs.Worker.{FitsZones}
use Rattle.replay_rounds.proofs.AfterRound.{Turns, member, stand_after}
use Rattle.replay_rounds.proofs.Bounds.{past_end, as_counted, none_counts, never_both, past_as}
use Rattle.replay_rounds.proofs.RoundLists.{count-none, sums_balance, sums_still}

module _ {H Part : Type 0} {h : Ghosts H Part} where
  abbrev frees_at : ℕ → Worker H Part h → ℕ
  frees_at z w = option_map_or (λ ledger. ledger.frees) (ledger_at z w) 0

  abbrev allocs_at : ℕ → Worker H Part h → ℕ
  allocs_at z w = option_map_or (λ ledger. ledger.allocs) (ledger_at z w) 0

  abbrev lives_at : ℕ → Worker H Part h → ℕ
  lives_at z w = live_count z w.slots

  -- one worker's items, frees and allocs before and after
  abbrev Adds : ℕ → Worker H Part h → Worker H Part h → Type 0
  Adds z was is = lives_at z is + frees_at z is + allocs_at z was ≡ lives_at z was + frees_at z was + allocs_at z is

module _ {H Part : Type 0} {h : Ghosts H Part} (zones : List (CountedZone H Part h)) (clock : Clock H Part) where
  -- no slot holds an item of a zone that there isn't
  not_of : (z slot : ℕ) (w : Worker H Part h) (o : Option Held) → FitsZones zones clock w → length zones ≤ z → slice_get w.slots slot ≡ Some o → is_of z o ≡ false
  not_of z slot w None fits past at = refl
  not_of z slot w (Some it) fits past at =
      let none : Option Held = None in
      let held = fits.slots slot it (get_or_from_slice_get w.slots slot (Some it) none at) in
      ne_eqb it.zone z (λ same. past_end same (slice_get_within zones it.zone held.zone held.at) past)

  none_live : (z : ℕ) (w : Worker H Part h) → FitsZones zones clock w → length zones ≤ z → lives_at z w ≡ 0
  none_live z w fits past = count-none (is_of z) w.slots (λ slot o at. not_of z slot w o fits past at)

  frees_is : (z : ℕ) (w : Worker H Part h) (o : Option (CountedSeat H Part h)) → slice_get w.seats.items z ≡ o → frees_at z w ≡ option_map_or (λ ledger. ledger.frees) (option_map ledger_of o) 0
  frees_is z w o at = ap (λ (x : Option (CountedSeat H Part h)). option_map_or (λ ledger. ledger.frees) (option_map ledger_of x) 0) at

  allocs_is : (z : ℕ) (w : Worker H Part h) (o : Option (CountedSeat H Part h)) → slice_get w.seats.items z ≡ o → allocs_at z w ≡ option_map_or (λ ledger. ledger.allocs) (option_map ledger_of o) 0
  allocs_is z w o at = ap (λ (x : Option (CountedSeat H Part h)). option_map_or (λ ledger. ledger.allocs) (option_map ledger_of x) 0) at

  worker_adds : (z : ℕ) (was is : Worker H Part h) → FitsZones zones clock was → FitsZones zones clock is → Balances z was is → Adds z was is
  worker_adds z was is fits fits' balances =
      elim (slice_get_cases was.seats.items z).1 [
        | inl w ↦ elim (slice_get_cases is.seats.items z).1 [
          | inl v ↦ as_counted (lives_at z was) (lives_at z is) (frees_is z is (Some v.0) v.2) (allocs_is z was (Some w.0) w.2) (frees_is z was (Some w.0) w.2) (allocs_is z is (Some v.0) v.2)
              (balances w.0 v.0 w.2 v.2)
          | inr v ↦ absurd (never_both w.1 v.0 fits.seats.count fits'.seats.count)
        ]
        | inr w ↦ elim (slice_get_cases is.seats.items z).1 [
          | inl v ↦ absurd (never_both v.1 w.0 fits'.seats.count fits.seats.count)
          | inr v ↦ none_counts (none_live z is fits' (past_as fits.seats.count w.0)) (none_live z was fits (past_as fits.seats.count w.0))
              (frees_is z is None v.1) (allocs_is z was None w.1) (frees_is z was None w.1) (allocs_is z is None v.1)
        ]
      ]

module _ {N H C S Part : Type 0} {h : Ghosts H Part} (names : NameGhosts N H C S Part) (cache : C) (t : Trace) (zones : List (CountedZone H Part h)) (clock : Clock H Part) (k : ℕ) (old new : List (WorkerRun N H C S Part h)) (done : Turns names cache t zones clock k old new) where
  each_adds : (z n : ℕ) (was is : Worker H Part h) → AllStand zones clock (lines_before t.rounds k) (crew old) → slice_get (crew old) n ≡ Some was → slice_get (crew new) n ≡ Some is → Adds z was is
  each_adds z n was is all at now =
      let m = member old n was at in
      let v = member new n is now in
      let turn = done.each n m.run v.run m.at v.at in
      let P : Worker H Part h → Type 0 = λ w. Balances z w (worker_in v.run) in
      let Q : Worker H Part h → Type 0 = λ w. Balances z was w in
      worker_adds zones clock z was is (all.fits n was at) ((stand_after names cache t zones clock k old new done).fits n is now) (subst Q v.is (subst P m.is (turn.balances z)))

  pub adds_after : (z : ℕ) → AllStand zones clock (lines_before t.rounds k) (crew old) → AddsUp z (crew old) → AddsUp z (crew new)
  adds_after z all adds =
      let size : length (crew new) ≡ length (crew old) = length-map new worker_in ∙ (done.size ∙ sym (length-map old worker_in)) in
      sums_still (all_live z (crew old)) (all_frees z (crew old)) (all_live z (crew new)) (all_frees z (crew new)) adds
      (sums_balance (lives_at z) (frees_at z) (allocs_at z) (crew old) (crew new) size (λ n was is at now. each_adds z n was is all at now))
