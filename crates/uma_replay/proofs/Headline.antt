-- The headline, from the hall and its report.
use Rattle.std.proofs.Common.{◌≡◌, ℕ, zero, suc, ◌+◌, ◌<◌, ◌≤◌, Bool, true, List, [], ◌∷◌, ◌++◌, Option, None, Some, length, get_or, map, refl, sym, ap, ◌∙◌, subst, arith}
use Rattle.std.proofs.lemmas.Bool.{false≢true}
use Rattle.std.proofs.lemmas.List.{length-map}
use Rattle.std.proofs.lemmas.List.Elements.{All-head, All-tail, All-weaker}
use Rattle.std.proofs.lemmas.List.Sums.{sum_by-append, sum_by-cons}
use Rattle.std.proofs.lemmas.Option.{none-some, same_Some, slice_get_within, get_or_from_slice_get}
use Rattle.std.specs.Prelude.{◌%◌, All, IfSome, count_by, is_some, slice_get, take}
use Rattle.std.specs.List.{flat_map}
use Rattle.std.specs.Option.{option_map_or}
use Rattle.smr_clock.specs.declared.host.Host.{Ghosts}
use Rattle.trace_text.specs.declared.trace.NamesHead.{NamesHead}
use Rattle.trace_text.specs.declared.trace.ZoneHead.{ZoneHead}
use Rattle.trace_text.specs.declared.trace.Trace.{Trace}
use Rattle.trace_text.specs.Lines.{lines_of}
use Rattle.uma_life.specs.declared.states.Ticket.{Ticket}
use Rattle.uma_life.specs.Cached.{cached_ticket}
use Rattle.uma_seat.specs.Seat.{usable_of, ledger_of, KeepsCounts}
use Rattle.uma_seat.specs.Counts.{ledger_in}
use Rattle.uma_zone.specs.declared.zone.alloc.AllocAsk.{AllocAsk}
use Rattle.uma_zone.specs.declared.zone.alloc.AllocRefused.TheVariants.{Refused}
use Rattle.uma_zone.specs.Alloc.{AllocIsRefused}
use Rattle.uma_zone.specs.SafeReuse.{usable_tickets}
use Rattle.uma_zone.specs.Zone.{zone_smr}
use Rattle.zone_stats.specs.declared.ledger.SeatLedger.{SeatLedger}
use Rattle.zone_stats.specs.declared.refusal.Refusal.{Refusal}
use Rattle.zone_stats.specs.declared.refusal.Refusal.TheVariants.{AtLimit, Reserved, Full, Init, Ctor}
use Rattle.zone_stats.specs.declared.report.Report.{Report}
use Rattle.zone_stats.specs.declared.report.ZoneLine.{ZoneLine}
use Rattle.zone_stats.specs.LedgerSteps.{IsNew}
use Rattle.replay_worker.specs.declared.name_calls.NameCalls.{Ghosts as NameGhosts}
use Rattle.replay_worker.specs.declared.name_work.NameCounts.{NameCounts}
use Rattle.replay_worker.specs.declared.name_work.NameWork.{NameWork}
use Rattle.replay_worker.specs.declared.worker.Worker.{Worker}
use Rattle.replay_worker.specs.declared.worker_run.WorkerRun.{WorkerRun}
use Rattle.replay_worker.specs.Attendance.{worker_in}
use Rattle.replay_worker.specs.Items.{CountedSeat, CountedZone, LiveItem}
use Rattle.replay_worker.specs.NameLines.{line_state}
use Rattle.replay_worker.specs.Requests.{GivesBack, Requests}
use Rattle.replay_worker.specs.Together.{crew}
use Rattle.replay_rounds.specs.Beginners.{IsBeginner}
use Rattle.replay_rounds.proofs.RoundLists.{at_other}
use Rattle.uma_replay.specs.declared.hall.Hall.{Hall}
use Rattle.uma_replay.specs.Counting.{report_zones}
use Rattle.uma_replay.specs.Hall.{HallStands}
use Rattle.uma_replay.specs.Headline.{SeatIn, Comes, Balances, gone, is_refused, WaitForReaders, PassesHooks, AreOnTrail, HasCause, AreForCause, AreTotals, HasTotals, Headline}
use Rattle.uma_replay.specs.Limits.{last_limit}
use Rattle.uma_replay.specs.NameLines.{NameLine, AreNameLines, FindsBound, RefusesEntry, WaitsForReaders}
use Rattle.uma_replay.specs.Names.{AreNameLedgers, IsWhole}
use Rattle.uma_replay.specs.Playing.{HavePlayed, IsFirst}
use Rattle.uma_replay.specs.Report.{IsLineOf, StandsFor, head_title, ledgers_at, line_title}
use Rattle.uma_replay.specs.Reporting.{AreLedgersOf}
use Rattle.uma_replay.specs.SeatLines.{SeatCall, Request, Return, Flush, Empty, Nothing, SeatLine, AreLines, IsLine, HasDone, got_none}
use Rattle.uma_replay.specs.Steps.{AreAmong, steps_of}
use Rattle.uma_replay.proofs.NameStory as name_story
use Rattle.uma_replay.proofs.NameStory.{add_up, after, before, came, from_none, handed, unit}
use Rattle.uma_replay.proofs.PlainStands.{some_at}
use Rattle.uma_replay.proofs.SeatLines.{Follow, IsGood, from_seat, to_seat}
use Rattle.uma_replay.proofs.Staying.{found_before}
use Rattle.uma_replay.proofs.Steps.{Tells, Walks, walks}
use Rattle.uma_replay.proofs.WorkerRuns.{of_both}

-- ---- on numbers and lists

below_by : (n a b c : ℕ) → n < a → a ≡ c → b ≡ c → n < b
below_by n a b c below e1 e2 = omega arith

below_as : (z a b : ℕ) → z < a → b ≡ a → z < b
below_as z a b below same = omega arith

same_count : (a b : ℕ) → b ≡ a → b ≡ a + 0
same_count a b e = omega arith

both_same : (a b c : ℕ) → b ≡ a → c ≡ b → c ≡ a + 0
both_same a b c e1 e2 = omega arith

get_front : {A : Type 0} (xs ys : List A) (z : ℕ) (x : A) → slice_get xs z ≡ Some x → slice_get (xs ++ ys) z ≡ Some x
get_front [] ys z x at = absurd (none-some x at)
get_front (w ∷ xs) ys zero x at = at
get_front (w ∷ xs) ys (suc z) x at = get_front xs ys z x at

at_length : {A : Type 0} (xs : List A) (y : A) → slice_get (xs ++ y ∷ []) (length xs) ≡ Some y
at_length [] y = refl
at_length (x ∷ xs) y = at_length xs y

get_last : {A : Type 0} (xs : List A) (y : A) (z : ℕ) → z ≡ length xs → slice_get (xs ++ y ∷ []) z ≡ Some y
get_last xs y z is = ap (slice_get (xs ++ y ∷ [])) is ∙ at_length xs y

-- ---- what left a seat is among what was brought to it

abbrev times : (Ticket → Bool) → List Ticket → ℕ
times is items = count_by is items

times-append : (is : Ticket → Bool) (xs ys : List Ticket) → times is (xs ++ ys) ≡ times is xs + times is ys
times-append is xs ys = sum_by-append (λ (item : Ticket). unit (is item)) xs ys

-- usable before and after one line, what it brought and what left by it, and what came and left later
with_later : (left later usable usable' came more from all all_came : ℕ) → all ≡ left + later → all_came ≡ came + more → usable' + left ≡ usable + came → usable ≡ from → later ≤ usable' + more → all ≤ from + all_came
with_later left later usable usable' came more from all all_came e1 e2 e3 e4 few = omega arith

from_no_item : (all came : ℕ) → all ≤ 0 + came → all ≤ came
from_no_item all came few = omega arith

module _ {L S : Type 0} (old new : L → S) (usable : S → List Ticket) (gone brought : L → List Ticket) where
  abbrev Even : L → Type 0
  Even line = usable (new line) ++ gone line ≡ usable (old line) ++ brought line

  counted : (is : Ticket → Bool) (line : L) → Even line → times is (usable (new line)) + times is (gone line) ≡ times is (usable (old line)) + times is (brought line)
  counted is line balance = sym (times-append is (usable (new line)) (gone line)) ∙ (ap (times is) balance ∙ times-append is (usable (old line)) (brought line))

  flows : (count : ℕ) (is : Ticket → Bool) (lines : List L) (from to : S) → All Even lines → Follow old new from lines to
      → times is (flat_map gone (take count lines)) ≤ times is (usable from) + times is (flat_map brought (take count lines))
  flows zero is [] from to balance follow = omega arith
  flows zero is (line ∷ lines) from to balance follow = omega arith
  flows (suc count) is [] from to balance follow = omega arith
  flows (suc count) is (line ∷ lines) from to balance follow =
      with_later (times is (gone line)) (times is (flat_map gone (take count lines))) (times is (usable (old line))) (times is (usable (new line))) (times is (brought line)) (times is (flat_map brought (take count lines))) (times is (usable from)) _ _
      (times-append is (gone line) (flat_map gone (take count lines))) (times-append is (brought line) (flat_map brought (take count lines)))
      (counted is line (All-head Even line lines balance)) (ap (λ (s : S). times is (usable s)) follow.0)
      (flows count is lines (new line) to (All-tail Even line lines balance) follow.1)

  pub among : (lines : List L) (from to : S) → All Even lines → Follow old new from lines to → usable from ≡ [] → AreAmong gone brought lines
  among lines from to balance follow empty count is =
      let left = times is (flat_map gone (take count lines)) in
      let came = times is (flat_map brought (take count lines)) in
      let P : List Ticket → Type 0 = λ l. left ≤ times is l + came in
      from_no_item left came (subst P empty (flows count is lines from to balance follow))

module _ {H Part : Type 0} {h : Ghosts H Part} where
  -- ---- hooks

  passes : (zone : CountedZone H Part h) (old : CountedSeat H Part h) (call : SeatCall) (new : CountedSeat H Part h) → HasDone zone old call new → PassesHooks zone call
  passes zone old (Request ask None) new did = tt
  passes zone old (Request ask (Some item)) new did = let b = did.ends.0.built in (did.ends.0.item, b.ticket, b.passed)
  passes zone old (Return item) new did = λ plain. let f = did.released.plain plain in (f.item, f.ticket, f.passed)
  passes zone old Flush new did = tt
  passes zone old Empty new did = tt
  passes zone old Nothing new did = tt

  on_trail : (w : Worker H Part h) → AreOnTrail w
  on_trail w = record {
    live = λ slot it at. it.item.at;
    usable = λ z seat at k d below. (get_or (usable_of seat) k d).at;
  }

  -- ---- refusals

  abbrev fails_of : CountedSeat H Part h → ℕ
  fails_of seat = (ledger_of seat).fails

  counts_fails : (old new : CountedSeat H Part h) → KeepsCounts old new → fails_of new ≡ fails_of old
  counts_fails old new same = ap (λ c. (ledger_in c).fails) same

  refusal_fails : (zone : CountedZone H Part h) (ask : AllocAsk) (old new : CountedSeat H Part h) (refusal : Refusal) → AllocIsRefused zone ask old new (Refused refusal) → fails_of new ≡ fails_of old + 1
  refusal_fails zone ask old new (AtLimit out limit) why = why.counted.fails
  refusal_fails zone ask old new (Reserved free reserve) why = why.counted.fails
  refusal_fails zone ask old new (Full slabs made) why = why.counted.fails
  refusal_fails zone ask old new (Init code) why = why.counted.fails
  refusal_fails zone ask old new (Ctor code) why = why.counted.fails

  return_fails : (zone : CountedZone H Part h) (old : CountedSeat H Part h) (item : LiveItem) (new : CountedSeat H Part h) → GivesBack zone old item new → fails_of new ≡ fails_of old + 0
  return_fails zone old item new g = both_same (fails_of old) (fails_of g.ready) (fails_of new) (counts_fails old g.ready g.made.counts) g.released.counted.fails

  line_fails : (zone : CountedZone H Part h) (old : CountedSeat H Part h) (call : SeatCall) (new : CountedSeat H Part h) → HasDone zone old call new → fails_of new ≡ fails_of old + unit (got_none call)
  line_fails zone old (Request ask None) new did = refusal_fails zone ask old new did.ends.0 did.ends.1
  line_fails zone old (Request ask (Some item)) new did = same_count (fails_of old) (fails_of new) did.ends.0.counted.fails
  line_fails zone old (Return item) new did = return_fails zone old item new did
  line_fails zone old Flush new did = same_count (fails_of old) (fails_of new) (counts_fails old new did.keeps.counts)
  line_fails zone old Empty new did = same_count (fails_of old) (fails_of new) (counts_fails old new did.keeps.counts)
  line_fails zone old Nothing new did = same_count (fails_of old) (fails_of new) (ap fails_of did)

module _ {N H C S Part : Type 0} {h : Ghosts H Part} where
  -- ---- safe reuse

  abbrev brought_by : SeatLine N H C S Part h → List Ticket
  brought_by line = line.brought

  waits : (zone : CountedZone H Part h) (z : ℕ) (lines : List (SeatLine N H C S Part h)) (from to : CountedSeat H Part h) → zone_smr zone ≡ true → All (IsGood zone z) lines → Follow from_seat to_seat from lines to → usable_of from ≡ []
      → AreAmong gone brought_by lines
  waits zone z lines from to smr good follow empty =
      among from_seat to_seat usable_tickets gone brought_by lines from to (All-weaker (IsGood zone z) Balances (λ line g. (g.waits smr).1) lines good) follow (ap (map cached_ticket) empty)

  -- ---- refusals

  has_cause : (zone : CountedZone H Part h) (z : ℕ) (line : SeatLine N H C S Part h) → IsGood zone z line → HasCause zone line
  has_cause zone z line good ask is =
      let r : Requests zone ask line.old None line.new = subst (λ (c : SeatCall). HasDone zone line.old c line.new) is good.is.done in
      r.ends

  all_fails : (zone : CountedZone H Part h) (z : ℕ) (lines : List (SeatLine N H C S Part h)) (from to : CountedSeat H Part h) → All (IsGood zone z) lines → Follow from_seat to_seat from lines to → fails_of to ≡ fails_of from + count_by is_refused lines
  all_fails zone z [] from to good follow = same_count (fails_of from) (fails_of to) (ap fails_of follow)
  all_fails zone z (line ∷ lines) from to good follow =
      let one = line_fails zone line.old line.call line.new (All-head (IsGood zone z) line lines good).is.done in
      let rest = all_fails zone z lines line.new to (All-tail (IsGood zone z) line lines good) follow.1 in
      let first : fails_of line.new ≡ fails_of from + unit (is_refused line) = one ∙ ap (λ (s : CountedSeat H Part h). fails_of s + unit (is_refused line)) follow.0 in
      add_up (fails_of from) (fails_of line.new) (fails_of to) (unit (is_refused line)) (count_by is_refused lines) first rest
      ∙ ap (λ (m : ℕ). fails_of from + m) (sym (sum_by-cons (λ (line : SeatLine N H C S Part h). unit (is_refused line)) line lines))

-- ---- totals

totals_of : (limit : ℕ) (head : ZoneHead) (ledgers : List SeatLedger) (line : ZoneLine) → IsLineOf limit head ledgers line → AreTotals ledgers line
totals_of limit head ledgers line is = record {
  used = ap (λ (l : ZoneLine). l.used) is.3;
  req = ap (λ (l : ZoneLine). l.req) is.3;
  fail = ap (λ (l : ZoneLine). l.fail) is.3;
  xdomain = ap (λ (l : ZoneLine). l.xdomain) is.3;
}

some_of : {A : Type 0} (o : Option A) → is_some o ≡ true → (a : A) × (o ≡ Some a)
some_of None is = absurd (false≢true is)
some_of (Some a) is = (a, refl)

-- the fails of a ledger that is there
if_fails : (o : Option SeatLedger) (n : ℕ) → option_map_or (λ (l : SeatLedger). l.fails) o 0 ≡ n → IfSome o (λ ledger. ledger.fails ≡ n)
if_fails None n is = tt
if_fails (Some ledger) n is = is

none_failed : (o : Option SeatLedger) → IfSome o IsNew → option_map_or (λ (l : SeatLedger). l.fails) o 0 ≡ 0
none_failed None new = refl
none_failed (Some ledger) new = new.fails

module _ {N H C S Part : Type 0} {h : Ghosts H Part} (names : NameGhosts N H C S Part) (t : Trace) (report : Report) (hall : Hall N H C S Part h) (stands : StandsFor t report) (has : HallStands names t report hall) where
  -- ---- the lines of a worker's seats

  name_work_of : (n : ℕ) (w : Worker H Part h) → slice_get hall.workers n ≡ Some w → (name_work : NameWork N H C S Part) × (slice_get hall.name_works n ≡ Some name_work)
  name_work_of n w at = some_at hall.name_works n (below_by n (length hall.workers) (length hall.name_works) t.head.workers (slice_get_within hall.workers n w at) has.done.worker_count has.named.name_work_count)

  played : HavePlayed names hall.names t hall.zones hall.clock hall.workers hall.name_works
  played = has.named.together

  all : Walks names hall.names hall.zones t.rounds played.begun played.ended
  all = walks names hall.names hall.zones t.rounds played.begun played.ended played.rounds

  -- who began as worker `n`, and did its rounds
  record Ran (n : ℕ) (w : Worker H Part h) (name_work : NameWork N H C S Part) : Type 0 where
    begin : WorkerRun N H C S Part h
    is_new : IsBeginner hall.zones hall.clock (n % t.head.domains) (worker_in begin)
    is_first : IsFirst names hall.names (n % t.head.domains) begin
    end : WorkerRun N H C S Part h
    tells : Tells names hall.names hall.zones (steps_of n all.steps) (line_state begin) (line_state end)
    seats : w.seats ≡ (worker_in end).seats
    name_works : name_work ≡ end.name_work

  ran : (n : ℕ) (w : Worker H Part h) (name_work : NameWork N H C S Part) → slice_get hall.workers n ≡ Some w → slice_get hall.name_works n ≡ Some name_work → Ran n w name_work
  ran n w name_work at at_name_work =
      let back = found_before played.back hall.workers n w played.stay.count at in
      let old = found_before (crew played.ended) played.back n back.0 played.comes.count back.1 in
      let both = of_both played.ended n old.0 name_work old.1 (ap (λ (list : List (NameWork N H C S Part)). slice_get list n) (sym played.name_works_are) ∙ at_name_work) in
      let begin = get_or played.begun n both.run in
      let at_begin = at_other played.begun played.ended n both.run all.count both.at in
      let new = played.are_new n begin at_begin in
      record {
        begin = begin;
        is_new = new.0;
        is_first = new.1;
        end = both.run;
        tells = all.each n begin both.run at_begin both.at;
        seats = (played.stay.each n back.0 w back.1 at).seats ∙ ((played.comes.each n old.0 back.0 old.1 back.1).keeps.seats ∙ ap (λ (v : Worker H Part h). v.seats) (sym both.is_worker));
        name_works = sym both.is_name_work;
      }

  -- what a seat's lines come to
  record SeatStory (s : SeatIn hall) : Type 0 where
    lines : List (SeatLine N H C S Part h)
    are : AreLines s.zone s.place (steps_of s.number all.steps) lines
    safe : zone_smr s.zone ≡ true → WaitForReaders s.zone lines
    hooks : All (λ (line : SeatLine N H C S Part h). PassesHooks s.zone line.call) lines
    refusals : AreForCause s.zone lines s.seat

  seat_story : (s : SeatIn hall) → SeatStory s
  seat_story s =
      let z = s.place in
      let zone = s.zone in
      let Good : SeatLine N H C S Part h → Type 0 = IsGood zone z in
      let name_work = name_work_of s.number s.worker s.is_worker in
      let r = ran s.number s.worker name_work.0 s.is_worker name_work.1 in
      let first = some_at (worker_in r.begin).seats.items z (below_as z (length hall.zones) (length (worker_in r.begin).seats.items) (slice_get_within hall.zones z zone s.is_zone) r.is_new.fits.seats.count) in
      let unused = r.is_new.seats z first.0 first.1 in
      let t = r.tells.seats z zone first.0 s.is_zone first.1 in
      let same : t.to ≡ s.seat = same_Some t.to s.seat (sym t.at ∙ (ap (λ x. slice_get x.items z) (sym r.seats) ∙ s.is_seat)) in
      let follow = subst (λ (x : CountedSeat H Part h). Follow from_seat to_seat first.0 t.lines x) same t.follow in
      record {
        lines = t.lines;
        are = record { are = t.are; each = All-weaker Good (IsLine zone z) (λ line g. g.is) t.lines t.good };
        safe = λ smr. record {
          come = All-weaker Good (Comes zone) (λ line g. (g.waits smr).0) t.lines t.good;
          balance = All-weaker Good Balances (λ line g. (g.waits smr).1) t.lines t.good;
          among = waits zone z t.lines first.0 s.seat smr t.good follow unused.usable;
        };
        hooks = All-weaker Good (λ (line : SeatLine N H C S Part h). PassesHooks zone line.call) (λ line g. passes zone line.old line.call line.new g.is.done) t.lines t.good;
        refusals = record {
          causes = All-weaker Good (HasCause zone) (λ line g. has_cause zone z line g) t.lines t.good;
          fails = from_none (fails_of first.0) (fails_of s.seat) (count_by is_refused t.lines) unused.ledger.fails (all_fails zone z t.lines first.0 s.seat t.good follow);
        };
      }

  -- ---- totals

  front_of : (o : Option NamesHead) → IsWhole names hall.names o hall.name_works has.first report → (z : ℕ) (own : List SeatLedger) → slice_get has.first.ledgers z ≡ Some own → ledgers_at report z ≡ own
  front_of None whole z own at = ap (λ (r : Report). ledgers_at r z) whole ∙ get_or_from_slice_get has.first.ledgers z own [] at
  front_of (Some line) whole z own at =
      ap (λ (r : Report). ledgers_at r z) whole.whole ∙ get_or_from_slice_get (has.first.ledgers ++ whole.part.ledgers ∷ []) z own [] (get_front has.first.ledgers (whole.part.ledgers ∷ []) z own at)

  totals_at : (z : ℕ) → z < length t.head.zones → HasTotals report z (λ (ledgers : List SeatLedger). AreLedgersOf z hall.workers ledgers)
  totals_at z below =
      let own = some_at has.first.ledgers z (below_as z (length t.head.zones) (length has.first.ledgers) below has.made_of.ledgers.count) in
      let head = some_at t.head.zones z below in
      let is_head : slice_get (report_zones t.head) z ≡ Some head.0 = get_front t.head.zones _ z head.0 head.1 in
      let size : length report.lines ≡ length (report_zones t.head) = sym (length-map report.lines line_title) ∙ (ap length stands.zones ∙ length-map (report_zones t.head) head_title) in
      let line = some_at report.lines z (below_as z (length (report_zones t.head)) (length report.lines) (slice_get_within (report_zones t.head) z head.0 is_head) size) in
      let limit = last_limit (lines_of t.rounds) z head.0 in
      let P : Option ZoneHead → Type 0 = λ o. IfSome o (λ head. IfSome (slice_get report.lines z) (IsLineOf (last_limit (lines_of t.rounds) z head) head (ledgers_at report z))) in
      let Q : Option ZoneLine → Type 0 = λ o. IfSome o (IsLineOf limit head.0 (ledgers_at report z)) in
      let R : List SeatLedger → Type 0 = λ ledgers. AreTotals ledgers line.0 in
      let is = subst Q line.1 (subst P is_head (stands.lines z)) in
      (line.0, line.1, (own.0, has.made_of.ledgers.each z own.0 own.1, subst R (front_of t.head.names has.whole z own.0 own.1) (totals_of limit head.0 (ledgers_at report z) line.0 is)))

  name_totals_by : (o : Option NamesHead) → IsWhole names hall.names o hall.name_works has.first report → (n : NamesHead) → o ≡ Some n
      → HasTotals report (length t.head.zones) (λ (ledgers : List SeatLedger). AreNameLedgers names hall.name_works ledgers)
  name_totals_by None whole n is = absurd (none-some n is)
  name_totals_by (Some m) whole n is =
      let part = whole.part in
      let last : slice_get (has.first.lines ++ part.line ∷ []) (length t.head.zones) ≡ Some part.line = get_last has.first.lines part.line (length t.head.zones) (sym has.made_of.lines.count) in
      let own : AreTotals part.ledgers part.line = record {
        used = ap (λ (l : ZoneLine). l.used) whole.is_part.of_zone;
        req = ap (λ (l : ZoneLine). l.req) whole.is_part.of_zone;
        fail = ap (λ (l : ZoneLine). l.fail) whole.is_part.of_zone;
        xdomain = ap (λ (l : ZoneLine). l.xdomain) whole.is_part.of_zone;
      } in
      (part.line, ap (λ (r : Report). slice_get r.lines (length t.head.zones)) whole.whole ∙ last, (part.ledgers, whole.is_part.of_seats, own))

  -- ---- names

  names_at : (n : ℕ) (name_work : NameWork N H C S Part) → slice_get hall.name_works n ≡ Some name_work → (lines : List (NameLine N H C S Part h)) × AreNameLines names hall.names (steps_of n all.steps) lines name_work
  names_at n name_work at =
      let w = some_at hall.workers n (below_by n (length hall.name_works) (length hall.workers) t.head.workers (slice_get_within hall.name_works n name_work at) has.named.name_work_count has.done.worker_count) in
      let r = ran n w.0 name_work w.1 at in
      let s = r.tells.name_lines in
      let failed : WorkerRun N H C S Part h → ℕ = λ run. option_map_or (λ (l : SeatLedger). l.fails) (names.counted run.name_work.seat) 0 in
      let hits = from_none r.begin.name_work.counts.hits r.end.name_work.counts.hits (count_by name_story.has_found s.lines) (ap (λ (c : NameCounts). c.hits) r.is_first.counts) s.hits in
      let fails = from_none (failed r.begin) (failed r.end) (count_by name_story.has_refused s.lines) (none_failed (names.counted r.begin.name_work.seat) r.is_first.fresh) s.fails in
      let Fine : NameLine N H C S Part h → Type 0 = name_story.IsFine names hall.names in
      let follow = subst (λ (from : List Ticket). Follow (before names hall.names) (after names hall.names) from s.lines (names.usable r.end.name_work.seat)) r.is_first.unused s.follow in (
        s.lines,
        record {
          are = s.are;
          looked = All-weaker Fine (λ (line : NameLine N H C S Part h). IfSome line.found (FindsBound names hall.names line)) (λ line fine. fine.looked) s.lines s.fine;
          hits = ap (λ (g : NameWork N H C S Part). g.counts.hits) r.name_works ∙ hits;
          bound = All-weaker Fine (λ (line : NameLine N H C S Part h). IfSome line.refused (RefusesEntry names hall.names line)) (λ line fine. fine.bound) s.lines s.fine;
          waits = All-weaker Fine (WaitsForReaders names hall.names) (λ line fine. fine.waits) s.lines s.fine;
          among =
              (let Even : NameLine N H C S Part h → Type 0 = λ line. after names hall.names line ++ line.handed ≡ before names hall.names line ++ line.brought in
              among (before names hall.names) (after names hall.names) (λ items. items) handed came s.lines [] (names.usable r.end.name_work.seat) (All-weaker Fine Even (λ line fine. fine.waits.balance) s.lines s.fine) follow refl);
          fails = if_fails (names.counted name_work.seat) (count_by name_story.has_refused s.lines) (ap (λ (g : NameWork N H C S Part). option_map_or (λ (l : SeatLedger). l.fails) (names.counted g.seat) 0) r.name_works ∙ fails);
        },
      )

  pub headline_of : Headline names t report hall
  headline_of = record {
    zones = has.done.zones_made;
    workers = has.done.worker_count;
    played = played;
    rounds = all.steps;
    steps = all.are;
    lines = λ s. (seat_story s).lines;
    are_lines = λ s. (seat_story s).are;
    safe = λ s. (seat_story s).safe;
    hooks = λ s. (seat_story s).hooks;
    trails = λ n w at. on_trail w;
    refusals = λ s. (seat_story s).refusals;
    totals = totals_at;
    name_totals = λ named. let n = some_of t.head.names named in name_totals_by t.head.names has.whole n.0 n.1;
    lookups = names_at;
  }
