-- A worker amid its turn: so many of its operations are done.
use Rattle.std.proofs.Common.{◌≡◌, ℕ, ◌+◌, ◌*◌, ◌^◌, ◌<◌, ◌≤◌, List, [], Option, None, Some, refl, sym, ap, ◌∙◌, subst, le_trans, le_of_eq, le_of_lt, le_refl, zero-le, length, map, take, get_or}
use Rattle.std.proofs.lemmas.List.{length-take-le}
use Rattle.std.proofs.lemmas.Option.{get_or_from_slice_get, slice_get_within, slice_get-get_or, none-some}
use Rattle.std.specs.Prelude.{All, is_some, slice_get}
use Rattle.std.specs.Option.{option_map_or}
use Rattle.smr_clock.specs.declared.clock.Clock.{Clock}
use Rattle.smr_clock.specs.declared.host.Host.{Ghosts}
use Rattle.trace_text.specs.declared.trace.Op.{Op}
use Rattle.trace_text.specs.declared.trace.Op.TheVariants.{Alloc, Free, Enter, Exit, Prealloc, Bind, Unbind, Look, Trim, Drain, DrainSeat, Away, Back}
use Rattle.trace_text.specs.declared.trace.Head.{Head}
use Rattle.trace_text.specs.declared.trace.Round.{Round}
use Rattle.trace_text.specs.declared.trace.Trace.{Trace}
use Rattle.trace_text.specs.Lines.{Line, Does}
use Rattle.trace_text.specs.Reading.{is_away, away_after}
use Rattle.trace_text.specs.Valid.{IsValid, LinesFit, OpFits, RoundFits, SlotFits, comes_back}
use Rattle.replay_worker.specs.declared.gate.Attendance.{Attendance}
use Rattle.replay_worker.specs.declared.worker.Held.{Held}
use Rattle.replay_worker.specs.declared.name_calls.NameCalls.{Ghosts as NameGhosts}
use Rattle.replay_worker.specs.declared.name_work.NameWork.{NameWork}
use Rattle.replay_worker.specs.declared.worker_run.WorkerRun.{WorkerRun}
use Rattle.replay_worker.specs.declared.worker.Worker.{Worker}
use Rattle.replay_worker.specs.Asking.{CanWait, KeepsWork}
use Rattle.replay_worker.specs.Attendance.{is_out, worker_at, worker_in}
use Rattle.replay_worker.specs.Items.{CountedZone}
use Rattle.replay_worker.specs.NameLines.{CanDo, CanGoOn, CanTurn, LineState, DoesAll, DoesLine, HasNameRooms, line_state}
use Rattle.replay_worker.specs.NamesStand.{NamesStand}
use Rattle.replay_worker.specs.OwnLines.{worked, lines_before, own_ops}
use Rattle.replay_worker.specs.Slots.{slot_at}
use Rattle.replay_worker.specs.Stands.{Stands}
use Rattle.replay_worker.specs.Together.{IsAbsent}
use Rattle.replay_worker.specs.Turn.{Balances, IsReady, most_asks}
use Rattle.replay_worker.specs.Worker.{FitsZones, HasRooms, seen_of}
use Rattle.replay_worker.proofs.Alike.{own_fit}
use Rattle.replay_worker.proofs.Balance.{Balances-self, Balances-chain}
use Rattle.replay_worker.proofs.Belongs.{some_within}
use Rattle.replay_worker.proofs.DoneLines.{line_step}
use Rattle.replay_worker.proofs.LineCounts.{asked-few, freed-few, looks-few, sections-few}
use Rattle.replay_worker.proofs.NameSteps.{name_rooms, named_step}
use Rattle.replay_worker.proofs.Numbers.{below_as, room_for, rooms_for, no_more, up_to_none, none_few, few_so_far, one_more_within, some_more, few_more, one_more, asks_left, gave_up_left}
use Rattle.replay_worker.proofs.Plays.{plays-none, plays-more}
use Rattle.replay_worker.proofs.SlotReading.{is_away-own}
use Rattle.replay_worker.proofs.Worked.{worked-none, worked-more, length-worked, next_fits}

module _ {N H C S Part : Type 0} {h : Ghosts H Part} (names : NameGhosts N H C S Part) (cache : C) where
  pub record Midway (zones : List (CountedZone H Part h)) (clock : Clock H Part) (n : ℕ) (before : List Line) (ops : List Op) (i : ℕ) (old now : WorkerRun N H C S Part h) : Type 0 where
    pub within : i ≤ length ops
    pub fits : FitsZones zones clock (worker_in now)
    pub stands : Stands zones clock n (worked n (take i ops) before) (worker_in now)
    pub named : NamesStand names cache n (worked n (take i ops) before) (worker_in now).late now.name_work
    pub absent : IsAbsent n (worked n (take i ops) before) now
    pub plays : DoesAll names cache zones (line_state old) (take i ops) (line_state now)
    pub balances : (z : ℕ) → Balances z (worker_in old) (worker_in now)
    pub seen : seen_of (worker_in old) ≤ seen_of (worker_in now)
    pub asked_some : old.asked + i ≤ now.asked
    pub asked_few : now.asked ≤ old.asked + most_asks * i
    pub gave_up_few : now.gave_up ≤ old.gave_up + i

-- ---- the list that is the worker's own

pub record Own (t : Trace) (k n : ℕ) : Type 0 where
  pub r : Round
  pub is_round : slice_get t.rounds k ≡ Some r
  pub ops : List Op
  pub is_list : slice_get r.ops n ≡ Some ops
  pub same : own_ops t.rounds k n ≡ ops

own_is : (rounds : List Round) (k n : ℕ) (r : Round) (ops : List Op) → slice_get rounds k ≡ Some r → slice_get r.ops n ≡ Some ops → own_ops rounds k n ≡ ops
own_is rounds k n r ops is_round is_list =
    ap (λ (o : Option Round). option_map_or (λ (r : Round). option_map_or (λ (ops : List Op). ops) (slice_get r.ops n) []) o []) is_round
    ∙ ap (λ (o : Option (List Op)). option_map_or (λ (ops : List Op). ops) o []) is_list

-- each round fits the head
round_fits : (t : Trace) (k : ℕ) (r : Round) → IsValid t → slice_get t.rounds k ≡ Some r → RoundFits t.head r
round_fits t k r valid at =
    let P : Round → Type 0 = RoundFits t.head in
    subst P (get_or_from_slice_get t.rounds k r r at) (valid.rounds k r (slice_get_within t.rounds k r at))

pub own_of : (t : Trace) (k n : ℕ) → IsValid t → k < length t.rounds → n < t.head.workers → Own t k n
own_of t k n valid below is_worker =
    let round = some_within t.rounds k below in
    let fits = round_fits t k round.0 valid round.1 in
    let list = some_within round.0.ops n (below_as is_worker fits.workers) in
    record { r = round.0; is_round = round.1; ops = list.0; is_list = list.1; same = own_is t.rounds k n round.0 list.0 round.1 list.1 }

-- what a list of lists has of each of its lists
list_of : {X : Type 0} (P : X → Type 0) (lists : List (List X)) (n : ℕ) (xs : List X) → All (All P) lists → slice_get lists n ≡ Some xs → All P xs
list_of {X} P lists n xs all at =
    let Q : List X → Type 0 = All P in
    subst Q (get_or_from_slice_get lists n xs xs at) (all n xs (slice_get_within lists n xs at))

-- ---- what the next line needs

none_from : (o : Option Held) → ((it : Held) → o ≡ Some it → ⊥) → o ≡ None
none_from None never = refl
none_from (Some it) never = absurd (never it refl)

module _ {N H C S Part : Type 0} {h : Ghosts H Part} (names : NameGhosts N H C S Part) where
  can_of : (zones : List (CountedZone H Part h)) (clock : Clock H Part) (head : Head) (n : ℕ) (lines : List Line) (op : Op) (w : Worker H Part h) → names.serves ≡ is_some head.names → OpFits head op → SlotFits lines n op
      → length zones ≡ length head.zones → Stands zones clock n lines w → CanDo names zones w op
  can_of zones clock head n lines (Alloc zone slot arg reserve) w serves fits line count stands = (
    below_as fits.0 count,
    fits.2,
    none_from (slot_at w.slots slot) (λ it is. absurd (none-some it.zone (sym line ∙ stands.filled slot it is))),
    fits.1,
  )
  can_of zones clock head n lines (Free slot) w serves fits line count stands = tt
  can_of zones clock head n lines Enter w serves fits line count stands = stands.outside line
  can_of zones clock head n lines Exit w serves fits line count stands = stands.between
  can_of zones clock head n lines (Prealloc zone items) w serves fits line count stands = (below_as fits.0 count, fits.1)
  can_of zones clock head n lines (Bind key value) w serves fits line count stands = serves ∙ fits.0
  can_of zones clock head n lines (Unbind key) w serves fits line count stands = serves ∙ fits.0
  can_of zones clock head n lines (Look key) w serves fits line count stands = (serves ∙ fits.0, stands.between)
  can_of zones clock head n lines (Trim zone) w serves fits line count stands = below_as fits count
  can_of zones clock head n lines (Drain zone) w serves fits line count stands = below_as fits count
  can_of zones clock head n lines (DrainSeat zone) w serves fits line count stands = below_as fits count
  can_of zones clock head n lines Away w serves fits line count stands = stands.outside line
  can_of zones clock head n lines Back w serves fits line count stands = tt

module _ {H Part : Type 0} {h : Ghosts H Part} where
  -- each ledger can count one more, and so can the counts of sections
  rooms_of : (zones : List (CountedZone H Part h)) (clock : Clock H Part) (n : ℕ) (lines : List Line) (w : Worker H Part h) → length lines < 2 ^ 32 → FitsZones zones clock w → Stands zones clock n lines w → HasRooms w
  rooms_of zones clock n lines w few fits stands = record {
    ledgers = λ z d below.
        let zone = some_within zones z (below_as below (sym fits.seats.count)) in
        let stand = stands.ledgers z zone.0 (get_or w.seats.items z d) zone.1 (slice_get-get_or w.seats.items z d below) in
        record { requests = room_for few (le_trans (le_of_eq stand.requests) (asked-few n z lines)); frees = room_for few (le_trans stand.frees (freed-few n z lines)) };
    entered = (rooms_for few stands.entries.most (sections-few n lines) (looks-few n lines)).0;
    late = (rooms_for few stands.entries.most (sections-few n lines) (looks-few n lines)).1;
  }

module _ {N H C S Part : Type 0} {h : Ghosts H Part} (names : NameGhosts N H C S Part) (cache : C) where
  -- ---- the turn

  pub Midway-new : (t : Trace) (zones : List (CountedZone H Part h)) (clock : Clock H Part) (k n : ℕ) (ops : List Op) (r : WorkerRun N H C S Part h) → IsReady names cache t zones clock k n r
      → Midway names cache zones clock n (lines_before t.rounds k) ops 0 r r
  Midway-new t zones clock k n ops r ready =
      let P : List Line → Type 0 = λ lines. Stands zones clock n lines (worker_in r) in
      record {
        within = zero-le;
        fits = ready.fits;
        stands = subst P (sym (worked-none n ops (lines_before t.rounds k))) ready.stands;
        named = let Q : List Line → Type 0 = λ lines. NamesStand names cache n lines (worker_in r).late r.name_work in subst Q (sym (worked-none n ops (lines_before t.rounds k))) ready.named;
        absent = let A : List Line → Type 0 = λ lines. IsAbsent n lines r in subst A (sym (worked-none n ops (lines_before t.rounds k))) ready.absent;
        plays = plays-none names cache zones ops (line_state r);
        balances = Balances-self (worker_in r) (worker_in r) refl;
        seen = le_refl (seen_of (worker_in r));
        asked_some = no_more r.asked;
        asked_few = none_few most_asks r.asked;
        gave_up_few = up_to_none r.gave_up;
      }

  -- the next line fits the lines so far
  fits_so_far : (t : Trace) (zones : List (CountedZone H Part h)) (clock : Clock H Part) (k n i : ℕ) (ops : List Op) (d : Op) (old : WorkerRun N H C S Part h) → IsReady names cache t zones clock k n old
      → ops ≡ own_ops t.rounds k n → i < length ops
      → OpFits t.head (get_or ops i d) × SlotFits (worked n (take i ops) (lines_before t.rounds k)) n (get_or ops i d) × (is_away (worked n (take i ops) (lines_before t.rounds k)) n ≡ comes_back (get_or ops i d))
  fits_so_far t zones clock k n i ops d old ready is below =
      let own = own_of t k n ready.valid ready.round ready.worker in
      let same : ops ≡ own.ops = is ∙ own.same in
      let before = lines_before t.rounds k in
      let fits = round_fits t k own.r ready.valid own.is_round in
      let P : List Op → Type 0 = λ list. All (OpFits t.head) list in
      let R : List Op → Type 0 = λ list. LinesFit before (map (Does n) list) in
      let op_fits : All (OpFits t.head) ops = subst P (sym same) (list_of (OpFits t.head) own.r.ops n own.ops fits.ops own.is_list) in
      let lines_fit : LinesFit before (map (Does n) ops) = subst R (sym same) (own_fit t.rounds k n own.r own.ops own.is_round own.is_list ready.valid.lines) in
      let line = next_fits n i ops d before below lines_fit in
      (op_fits i d below, line.0, line.1)

  pub Midway-can : (t : Trace) (zones : List (CountedZone H Part h)) (clock : Clock H Part) (k n i : ℕ) (ops : List Op) (d : Op) (old now : WorkerRun N H C S Part h) → IsReady names cache t zones clock k n old
      → ops ≡ own_ops t.rounds k n → i < length ops → Midway names cache zones clock n (lines_before t.rounds k) ops i old now → CanDo names zones (worker_in now) (get_or ops i d)
  Midway-can t zones clock k n i ops d old now ready is below midway =
      let fit = fits_so_far t zones clock k n i ops d old ready is below in
      can_of names zones clock t.head n (worked n (take i ops) (lines_before t.rounds k)) (get_or ops i d) (worker_in now) ready.served fit.0 fit.1 ready.zone_count midway.stands

  -- only a worker that is away comes back
  pub Midway-there : (t : Trace) (zones : List (CountedZone H Part h)) (clock : Clock H Part) (k n i : ℕ) (ops : List Op) (d : Op) (old now waited : WorkerRun N H C S Part h) → IsReady names cache t zones clock k n old
      → ops ≡ own_ops t.rounds k n → i < length ops → Midway names cache zones clock n (lines_before t.rounds k) ops i old now → waited.attendance ≡ now.attendance → is_out waited.attendance ≡ comes_back (get_or ops i d)
  Midway-there t zones clock k n i ops d old now waited ready is below midway same =
      ap is_out same ∙ (midway.absent ∙ (fits_so_far t zones clock k n i ops d old ready is below).2)

  -- the lines so far are few
  few_lines : (t : Trace) (zones : List (CountedZone H Part h)) (clock : Clock H Part) (k n i : ℕ) (ops : List Op) (old : WorkerRun N H C S Part h) → IsReady names cache t zones clock k n old
      → ops ≡ own_ops t.rounds k n → i < length ops → length (worked n (take i ops) (lines_before t.rounds k)) < 2 ^ 32
  few_lines t zones clock k n i ops old ready is below =
      let size = length-worked n (take i ops) (lines_before t.rounds k) in
      let taken : length (take i ops) ≡ i = length-take-le i ops (le_of_lt below) in
      let all : length ops ≡ length (own_ops t.rounds k n) = ap length is in
      few_so_far (length (lines_before t.rounds k)) below all taken size ready.few

  pub Midway-rooms : (t : Trace) (zones : List (CountedZone H Part h)) (clock : Clock H Part) (k n i : ℕ) (ops : List Op) (old now : WorkerRun N H C S Part h) → IsReady names cache t zones clock k n old
      → ops ≡ own_ops t.rounds k n → i < length ops → Midway names cache zones clock n (lines_before t.rounds k) ops i old now → HasRooms (worker_in now) × HasNameRooms names now.name_work
  Midway-rooms t zones clock k n i ops old now ready is below midway =
      let lines = worked n (take i ops) (lines_before t.rounds k) in
      let few = few_lines t zones clock k n i ops old ready is below in
      (rooms_of zones clock n lines (worker_in now) few midway.fits midway.stands, name_rooms names cache n lines (worker_in now).late now.name_work few midway.named)

  -- what a worker has for its next line, once the gate was asked, which leaves it as it is
  pub Midway-waits : (t : Trace) (zones : List (CountedZone H Part h)) (clock : Clock H Part) (k n i : ℕ) (ops : List Op) (old now waited : WorkerRun N H C S Part h) → IsReady names cache t zones clock k n old
      → ops ≡ own_ops t.rounds k n → i < length ops → Midway names cache zones clock n (lines_before t.rounds k) ops i old now → KeepsWork now waited → CanGoOn names cache zones clock (worker_in waited) waited.name_work
  Midway-waits t zones clock k n i ops old now waited ready is below midway keeps =
      let rooms = Midway-rooms t zones clock k n i ops old now ready is below midway in
      let F : Worker H Part h → Type 0 = λ w. FitsZones zones clock w in
      let I : NameWork N H C S Part → Type 0 = λ x. names.IsSeat cache x.seat in
      record {
        clock = ready.of_clock;
        of_clock = ready.names_of_clock;
        fits = subst F (sym (ap worker_at keeps.attendance)) midway.fits;
        seat = subst I (sym keeps.name_work) midway.named.seat;
        rooms = subst HasRooms (sym (ap worker_at keeps.attendance)) rooms.0;
        name_rooms = subst (HasNameRooms names) (sym keeps.name_work) rooms.1;
      }

  pub Midway-turn : (t : Trace) (zones : List (CountedZone H Part h)) (clock : Clock H Part) (k n i : ℕ) (ops : List Op) (d : Op) (old now waited : WorkerRun N H C S Part h) → IsReady names cache t zones clock k n old
      → ops ≡ own_ops t.rounds k n → i < length ops → Midway names cache zones clock n (lines_before t.rounds k) ops i old now → waited.attendance ≡ now.attendance → CanTurn names zones waited (get_or ops i d)
  Midway-turn t zones clock k n i ops d old now waited ready is below midway same =
      let P : Worker H Part h → Type 0 = λ w. CanDo names zones w (get_or ops i d) in
      record {
        can = subst P (sym (ap worker_at same)) (Midway-can t zones clock k n i ops d old now ready is below midway);
        there = Midway-there t zones clock k n i ops d old now waited ready is below midway same;
      }

  same_line_state : (a b : WorkerRun N H C S Part h) → a.attendance ≡ b.attendance → a.name_work ≡ b.name_work → line_state a ≡ line_state b
  same_line_state a b attendance name_work =
      let with_attendance : Attendance H Part h → LineState N H C S Part h = λ x. record { worker = worker_at x; name_work = a.name_work; out = is_out x } in
      let with_name_work : NameWork N H C S Part → LineState N H C S Part h = λ x. record { worker = worker_in b; name_work = x; out = is_out b.attendance } in
      ap with_attendance attendance ∙ ap with_name_work name_work

  -- The gate was asked, and the next operation is done.
  pub Midway-more : (zones : List (CountedZone H Part h)) (clock : Clock H Part) (n i : ℕ) (before : List Line) (ops : List Op) (d : Op) (old now waited next : WorkerRun N H C S Part h) → i < length ops
      → Midway names cache zones clock n before ops i old now → waited.attendance ≡ now.attendance → waited.name_work ≡ now.name_work → CanDo names zones (worker_in now) (get_or ops i d)
      → DoesLine names cache zones (line_state waited) (get_or ops i d) (line_state next) → FitsZones zones clock (worker_in next) → names.IsSeat cache next.name_work.seat
      → now.asked + 1 ≤ next.asked → next.asked ≤ now.asked + most_asks → next.gave_up ≤ now.gave_up + 1
      → Midway names cache zones clock n before ops (i + 1) old next
  Midway-more zones clock n i before ops d old now waited next below midway same same_name_work can does fits seat some few gave_up =
      let op : Op = get_or ops i d in
      let lines : List Line = worked n (take i ops) before in
      let P : List Line → Type 0 = λ lines. Stands zones clock n lines (worker_in next) in
      let Q : LineState N H C S Part h → Type 0 = λ d. DoesLine names cache zones d op (line_state next) in
      let L : List Line → Type 0 = λ lines. NamesStand names cache n lines (worker_in next).late next.name_work in
      let A : List Line → Type 0 = λ lines. IsAbsent n lines next in
      let step : DoesLine names cache zones (line_state now) op (line_state next) = subst Q (same_line_state waited now same same_name_work) does in
      let leaves = line_step names cache zones clock n op lines (line_state now) (line_state next) midway.fits.pass can step.changes midway.stands in
      record {
        within = one_more_within below;
        fits = fits;
        stands = subst P (sym (worked-more n i ops d before below)) leaves.stands;
        named = subst L (sym (worked-more n i ops d before below)) (named_step names cache zones n op lines (line_state now) (line_state next) step.changes seat midway.named);
        absent = subst A (sym (worked-more n i ops d before below)) (step.is ∙ (ap (away_after op) midway.absent ∙ sym (is_away-own lines n op)));
        plays = plays-more names cache zones i ops d (line_state old) (line_state now) (line_state next) below midway.plays step;
        balances = λ z. Balances-chain z (worker_in old) (worker_in now) (worker_in next) (midway.fits.seats.count ∙ sym fits.seats.count) (midway.balances z) (leaves.balances z);
        seen = le_trans midway.seen leaves.seen;
        asked_some = some_more old.asked i midway.asked_some some;
        asked_few = few_more old.asked i midway.asked_few few;
        gave_up_few = one_more old.gave_up i midway.gave_up_few gave_up;
      }

  pub Midway-step : (t : Trace) (zones : List (CountedZone H Part h)) (clock : Clock H Part) (k n i : ℕ) (ops : List Op) (d : Op) (old now waited next : WorkerRun N H C S Part h) → IsReady names cache t zones clock k n old
      → ops ≡ own_ops t.rounds k n → i < length ops → Midway names cache zones clock n (lines_before t.rounds k) ops i old now → waited.attendance ≡ now.attendance → waited.name_work ≡ now.name_work
      → DoesLine names cache zones (line_state waited) (get_or ops i d) (line_state next) → FitsZones zones clock (worker_in next) → names.IsSeat cache next.name_work.seat
      → now.asked + 1 ≤ next.asked → next.asked ≤ now.asked + most_asks → next.gave_up ≤ now.gave_up + 1 → Midway names cache zones clock n (lines_before t.rounds k) ops (i + 1) old next
  Midway-step t zones clock k n i ops d old now waited next ready is below midway same same_name_work does fits seat some few gave_up =
      Midway-more zones clock n i (lines_before t.rounds k) ops d old now waited next below midway same same_name_work (Midway-can t zones clock k n i ops d old now ready is below midway) does fits seat some few gave_up

  -- the counts of the gate have room for the next operation
  pub Midway-asks : (t : Trace) (zones : List (CountedZone H Part h)) (clock : Clock H Part) (k n i : ℕ) (ops : List Op) (old now : WorkerRun N H C S Part h) → IsReady names cache t zones clock k n old
      → ops ≡ own_ops t.rounds k n → i < length ops → Midway names cache zones clock n (lines_before t.rounds k) ops i old now → CanWait now
  Midway-asks t zones clock k n i ops old now ready is below midway =
      let within : i < length (own_ops t.rounds k n) = below_as below (sym (ap length is)) in
      record { asks = asks_left old.asked within ready.asks midway.asked_few; giving_up = gave_up_left old.gave_up within ready.gave_up midway.gave_up_few }
