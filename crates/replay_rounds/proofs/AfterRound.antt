-- The workers of a round: each is ready for it, and after it all stand for its lines.
use Rattle.std.proofs.Common.{◌≡◌, ℕ, zero, suc, ◌+◌, ◌<◌, ◌≤◌, List, [], ◌∷◌, Some, refl, sym, ap, ◌∙◌, subst, length, get_or}
use Rattle.std.proofs.lemmas.Option.{none-some, same_Some, slice_get-get_or, slice_get-map, slice_get_within, get_or_from_slice_get}
use Rattle.std.specs.Prelude.{All, OnOk, slice_get, option_map}
use Rattle.smr_clock.specs.declared.clock.Clock.{Clock}
use Rattle.smr_clock.specs.declared.host.Host.{Ghosts}
use Rattle.trace_text.specs.declared.trace.Trace.{Trace}
use Rattle.trace_text.specs.Lines.{Line, lines_of}
use Rattle.uma_seat.specs.Seat.{ledger_of}
use Rattle.zone_stats.specs.declared.refusal.Refusal.{Refusal}
use Rattle.zone_stats.specs.declared.refusal.Refusal.TheVariants.{Ctor}
use Rattle.zone_stats.specs.declared.ledger.SeatLedger.{SeatLedger}
use Rattle.replay_worker.specs.declared.name_calls.NameCalls.{Ghosts as NameGhosts}
use Rattle.replay_worker.specs.declared.name_work.NameWork.{NameWork}
use Rattle.replay_worker.specs.declared.worker_run.WorkerRun.{WorkerRun}
use Rattle.replay_worker.specs.declared.worker.Worker.{Worker}
use Rattle.replay_worker.specs.Attendance.{worker_in}
use Rattle.replay_worker.specs.Items.{CountedZone}
use Rattle.replay_worker.specs.LedgerStands.{KeptFits, LedgerStands}
use Rattle.replay_worker.specs.Counting.{looks, binds, unbinds}
use Rattle.replay_worker.specs.NamesStand.{NamesStand}
use Rattle.replay_worker.specs.OwnLines.{lines_before, own_ops, worked}
use Rattle.replay_worker.specs.Stands.{Stands}
use Rattle.replay_worker.specs.Together.{AllAbsent, AllNamed, AllStand, crew}
use Rattle.replay_worker.specs.Turn.{HasWorked, IsReady}
use Rattle.replay_worker.specs.Worker.{FitsZones, phase_of}
use Rattle.replay_worker.proofs.EntrySteps.{entries_as}
use Rattle.replay_worker.proofs.NameSteps.{if_some}
use Rattle.replay_rounds.specs.DoneBy.{done_by}
use Rattle.replay_rounds.specs.Parts.{after_workers}
use Rattle.replay_rounds.specs.Rounds.{AllAsked, AllReady, AllWorked, AreAfter, EachGaveUpAsBefore, GaveUpAsBefore, HasEnded, FitsTrace}
use Rattle.replay_rounds.proofs.Bounds.{few_lines, few_asks, few_given_up, some_more, few_more, one_more, up_by_two, below_as, some_as, sum_as, least_as, most_as, both_as, up_as}
use Rattle.replay_rounds.proofs.RoundLists.{map-same, at_other}
use Rattle.replay_rounds.proofs.RoundLines.{own_of_round, before-few, own-few}
use Rattle.replay_rounds.proofs.SameFor.{SameFor, done_by-few, done_by-worked}

module _ {N H C S Part : Type 0} {h : Ghosts H Part} where
  -- ---- ready for the round

  pub in_crew : (n : ℕ) (workers : List (WorkerRun N H C S Part h)) (r : WorkerRun N H C S Part h) → slice_get workers n ≡ Some r → slice_get (crew workers) n ≡ Some (worker_in r)
  in_crew n workers r at = slice_get-map worker_in workers n ∙ ap (option_map worker_in) at

module _ {N H C S Part : Type 0} {h : Ghosts H Part} (names : NameGhosts N H C S Part) (cache : C) where
  ready_at : (t : Trace) (zones : List (CountedZone H Part h)) (clock : Clock H Part) (k n : ℕ) (workers : List (WorkerRun N H C S Part h)) (r : WorkerRun N H C S Part h) → FitsTrace names cache t zones clock workers → AreAfter names cache zones clock (lines_before t.rounds k) workers
      → k < length t.rounds → slice_get workers n ≡ Some r → IsReady names cache t zones clock k n r
  ready_at t zones clock k n workers r suits after round at =
      let before = lines_before t.rounds k in
      let asked = after.asked n r at in
      let own = own-few t.rounds k n in
      let done : done_by n before ≤ length (lines_of t.rounds) = up_by_two (done_by-few n before) (before-few t.rounds k) in
      record {
        valid = suits.valid;
        served = suits.served;
        round = round;
        worker = below_as (slice_get_within workers n r at) suits.worker_count;
        zone_count = suits.zone_count;
        of_clock = suits.of_clock;
        names_of_clock = suits.names_of_clock;
        few = few_lines (before-few t.rounds k) own suits.few;
        asks = few_asks (done_by n before) (length (own_ops t.rounds k n)) asked.asked_few done own suits.few;
        gave_up = few_given_up asked.gave_up_few done own suits.few;
        fits = after.stand.fits n (worker_in r) (in_crew n workers r at);
        stands = after.stand.stands n (worker_in r) (in_crew n workers r at);
        named = after.named n r at;
        absent = after.absent n r at;
      }

  pub all_ready : (t : Trace) (zones : List (CountedZone H Part h)) (clock : Clock H Part) (k : ℕ) (workers : List (WorkerRun N H C S Part h)) → FitsTrace names cache t zones clock workers → AreAfter names cache zones clock (lines_before t.rounds k) workers
      → k < length t.rounds → AllReady names cache t zones clock k workers
  all_ready t zones clock k workers suits after round n d below =
      ready_at t zones clock k n workers (get_or workers n d) suits after round (slice_get-get_or workers n d below)

  -- ---- what each did

  -- each worker's turn in the round, by its place in both lists
  pub record Turns (t : Trace) (zones : List (CountedZone H Part h)) (clock : Clock H Part) (k : ℕ) (old new : List (WorkerRun N H C S Part h)) : Type 0 where
    pub size : length new ≡ length old
    pub each : (n : ℕ) (was is : WorkerRun N H C S Part h) → slice_get old n ≡ Some was → slice_get new n ≡ Some is → HasWorked names cache t zones clock k n was is

  has_worked : (t : Trace) (zones : List (CountedZone H Part h)) (clock : Clock H Part) (k n : ℕ) (was is : WorkerRun N H C S Part h) → HasEnded is → OnOk is.ended (HasWorked names cache t zones clock k n was is) → HasWorked names cache t zones clock k n was is
  has_worked t zones clock k n was is ended worked =
      let W : Type 0 = HasWorked names cache t zones clock k n was is in
      subst (λ e. OnOk e W) ended worked

  pub turns : (t : Trace) (zones : List (CountedZone H Part h)) (clock : Clock H Part) (k : ℕ) (old new : List (WorkerRun N H C S Part h)) → length new ≡ length old → All HasEnded new → AllWorked names cache t zones clock k old new → Turns t zones clock k old new
  turns t zones clock k old new size ended worked = record {
    size = size;
    each = λ n was is at now.
        let below : n < length old = slice_get_within old n was at in
        let P : WorkerRun N H C S Part h → Type 0 = λ r. HasEnded r in
        let Q : WorkerRun N H C S Part h → Type 0 = λ r. OnOk r.ended (HasWorked names cache t zones clock k n (get_or old n is) r) in
        let R : WorkerRun N H C S Part h → Type 0 = λ r. OnOk is.ended (HasWorked names cache t zones clock k n r is) in
        let found : get_or new n is ≡ is = get_or_from_slice_get new n is is now in
        has_worked t zones clock k n was is (subst P found (ended n is (slice_get_within new n is now)))
        (subst R (get_or_from_slice_get old n was is at) (subst Q found (worked n is below)));
  }

-- ---- all stand for the round's lines

kept_as : (Names : Refusal → Type 0) (n z : ℕ) (a b : List Line) (refusal : Refusal) → SameFor n a b → KeptFits Names n z b refusal → KeptFits Names n z a refusal
kept_as Names n z a b (Ctor code) same kept = (kept.0, some_as (same.codes z code) kept.1)
kept_as Names n z a b refusal same kept = kept

ledger_as : (Names : Refusal → Type 0) (n z : ℕ) (a b : List Line) (ledger : SeatLedger) → SameFor n a b → LedgerStands Names n z b ledger → LedgerStands Names n z a ledger
ledger_as Names n z a b ledger same stands = record {
  requests = stands.requests ∙ sym (same.requests z);
  some_args = sum_as ledger.turned (same.arguments z) stands.some_args;
  all_args = least_as (same.arguments z) stands.all_args;
  frees = most_as (same.frees z) stands.frees;
  kept = λ refusal is. kept_as Names n z a b refusal same (stands.kept refusal is);
}

module _ {H Part : Type 0} {h : Ghosts H Part} where
  stands_as : (zones : List (CountedZone H Part h)) (clock : Clock H Part) (n : ℕ) (a b : List Line) (w : Worker H Part h) → SameFor n a b → Stands zones clock n b w → Stands zones clock n a w
  stands_as zones clock n a b w same stands = record {
    ledgers = λ z zone seat is_zone is_seat. ledger_as _ n z a b (ledger_of seat) same (stands.ledgers z zone seat is_zone is_seat);
    filled = λ slot it holds. same.alike.same_held slot ∙ stands.filled slot it holds;
    few = stands.few;
    outside = λ out. stands.outside (sym same.alike.same_section ∙ out);
    between = stands.between;
    entries = entries_as n a b w.entered w.late (phase_of w) same.sections_same same.looks_same same.alike.same_section stands.entries;
    begun = stands.begun;
    overtaken = stands.overtaken;
  }

module _ {N H C S Part : Type 0} {h : Ghosts H Part} where
  -- who stands in the crew
  pub record Member (workers : List (WorkerRun N H C S Part h)) (n : ℕ) (w : Worker H Part h) : Type 0 where
    pub run : WorkerRun N H C S Part h
    pub at : slice_get workers n ≡ Some run
    pub is : worker_in run ≡ w

  pub member : (workers : List (WorkerRun N H C S Part h)) (n : ℕ) (w : Worker H Part h) → slice_get (crew workers) n ≡ Some w → Member workers n w
  member [] n w at = absurd (none-some w at)
  member (r ∷ workers) zero w at = record { run = r; at = refl; is = same_Some (worker_in r) w at }
  member (r ∷ workers) (suc n) w at = let rest = member workers n w at in record { run = rest.run; at = rest.at; is = rest.is }

-- the lines of names of a worker are as many in both
pub record SameNumbers (n : ℕ) (a b : List Line) : Type 0 where
  pub looks_same : looks n a ≡ looks n b
  pub binds_same : binds n a ≡ binds n b
  pub unbinds_same : unbinds n a ≡ unbinds n b

same_numbers : (n : ℕ) (a b : List Line) → SameFor n a b → SameNumbers n a b
same_numbers n a b same = record { looks_same = same.looks_same; binds_same = same.binds_same; unbinds_same = same.unbinds_same }

module _ {N H C S Part : Type 0} (names : NameGhosts N H C S Part) (cache : C) where
  pub named_as : (n : ℕ) (a b : List Line) (late : ℕ) (name_work : NameWork N H C S Part) → SameNumbers n a b → NamesStand names cache n b late name_work → NamesStand names cache n a late name_work
  named_as n a b late name_work same stands = record {
    seat = stands.seat;
    counts = record {
      looks_add_up = stands.counts.looks_add_up ∙ sym same.looks_same;
      binds_add_up = stands.counts.binds_add_up ∙ sym same.binds_same;
      unbound = up_as same.unbinds_same stands.counts.unbound;
      late_few = stands.counts.late_few;
    };
    ledger = if_some (names.counted name_work.seat) (λ ledger was. record {
      requests = was.requests ∙ sym same.binds_same;
      turned = was.turned;
      fails = was.fails;
      frees = both_as (binds n b) (unbinds n b) same.binds_same same.unbinds_same was.frees;
      kept = was.kept;
    }) stands.ledger;
  }

module _ {N H C S Part : Type 0} {h : Ghosts H Part} (names : NameGhosts N H C S Part) (cache : C) (t : Trace) (zones : List (CountedZone H Part h)) (clock : Clock H Part) (k : ℕ) (old new : List (WorkerRun N H C S Part h)) (done : Turns names cache t zones clock k old new) where
  turn_of : (n : ℕ) (is : WorkerRun N H C S Part h) → slice_get new n ≡ Some is → HasWorked names cache t zones clock k n (get_or old n is) is
  turn_of n is now = done.each n (get_or old n is) is (at_other old new n is done.size now) now

  pub stand_after : AllStand zones clock (after_workers t.rounds k) (crew new)
  stand_after = record {
    fits = λ n w at.
        let m = member new n w at in
        subst (FitsZones zones clock) m.is (turn_of n m.run m.at).fits;
    stands = λ n w at.
        let m = member new n w at in
        subst (Stands zones clock n (after_workers t.rounds k)) m.is
        (stands_as zones clock n (after_workers t.rounds k) (worked n (own_ops t.rounds k n) (lines_before t.rounds k)) (worker_in m.run) (own_of_round t.rounds k n) (turn_of n m.run m.at).stands);
  }

  pub named_after : AllNamed names cache (after_workers t.rounds k) new
  named_after n is now =
      named_as names cache n (after_workers t.rounds k) (worked n (own_ops t.rounds k n) (lines_before t.rounds k)) (worker_in is).late is.name_work (same_numbers n _ _ (own_of_round t.rounds k n)) (turn_of n is now).named

  pub absent_after : AllAbsent (after_workers t.rounds k) new
  absent_after n is now = (turn_of n is now).absent ∙ sym (own_of_round t.rounds k n).alike.same_away

  pub asked_after : AllAsked (lines_before t.rounds k) old → AllAsked (after_workers t.rounds k) new
  asked_after asked n is now =
      let own = own_ops t.rounds k n in
      let before = lines_before t.rounds k in
      let worked_now = turn_of n is now in
      let was = asked n (get_or old n is) (at_other old new n is done.size now) in
      let more : done_by n (after_workers t.rounds k) ≡ length own + done_by n before = (own_of_round t.rounds k n).operations ∙ done_by-worked n own before in
      record {
        asked_some = some_more (length own) more was.asked_some worked_now.asked_some;
        asked_few = few_more (done_by n before) (length own) more was.asked_few worked_now.asked_few;
        gave_up_few = one_more (length own) more was.gave_up_few worked_now.gave_up_few;
      }

module _ {N H C S Part : Type 0} {h : Ghosts H Part} where
  -- ---- a gate that holds nobody

  pub gave_up_same : (old new : List (WorkerRun N H C S Part h)) → length new ≡ length old → EachGaveUpAsBefore old new → GaveUpAsBefore old new
  gave_up_same old new size each = map-same (λ (r : WorkerRun N H C S Part h). r.gave_up) old new size (λ n was is at now.
      ap (λ (r : WorkerRun N H C S Part h). r.gave_up) (sym (get_or_from_slice_get new n is is now)) ∙ (each n is (slice_get_within old n was at) ∙ ap (λ (r : WorkerRun N H C S Part h). r.gave_up) (get_or_from_slice_get old n was is at)))
