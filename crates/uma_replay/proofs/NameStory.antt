-- The lines of a worker as its lines of names go, from what the worker did.
use Rattle.std.proofs.Common.{◌≡◌, ℕ, ◌+◌, Bool, true, false, List, [], ◌∷◌, ◌++◌, Option, None, Some, cond, map, inl, inr, refl, sym, ap, ◌∙◌, subst, arith}
use Rattle.std.proofs.lemmas.Bool.{eqb-true}
use Rattle.std.proofs.lemmas.List.{map-append}
use Rattle.std.proofs.lemmas.List.Elements.{All-nil, All-cons, All-append}
use Rattle.std.proofs.lemmas.List.Sums.{sum_by-append, sum_by-cons}
use Rattle.std.proofs.lemmas.Option.{none-some, same_Some}
use Rattle.std.specs.Prelude.{◌==◌, ◌%◌, All, IfSome, count_by, is_some}
use Rattle.std.specs.Option.{option_map_or}
use Rattle.smr_clock.specs.declared.host.Host.{Ghosts}
use Rattle.trace_text.specs.declared.trace.Op.{Op}
use Rattle.trace_text.specs.declared.trace.Op.TheVariants.{Alloc, Free, Enter, Exit, Bind, Unbind, Look, Trim, Drain, DrainSeat, Prealloc, Away, Back}
use Rattle.uma_life.specs.declared.states.Ticket.{Ticket}
use Rattle.zone_stats.specs.declared.ledger.SeatLedger.{SeatLedger}
use Rattle.zone_stats.specs.declared.refusal.Refusal.{Refusal}
use Rattle.replay_worker.specs.declared.name_calls.NameCalls.{Ghosts as NameGhosts}
use Rattle.replay_worker.specs.declared.name_work.NameCounts.{NameCounts}
use Rattle.replay_worker.specs.declared.name_work.NameWork.{NameWork}
use Rattle.replay_worker.specs.Items.{CountedZone}
use Rattle.replay_worker.specs.Knowing.{Loads, Told, bound_to}
use Rattle.replay_worker.specs.NameCalls.{OnBoth}
use Rattle.replay_worker.specs.NameLedger.{BindCounts, UnbindCounts, MayCountFree}
use Rattle.replay_worker.specs.NameLines.{Changes, LineState}
use Rattle.replay_worker.specs.NameWork.{CountsAnswer, CountsBind, CountsUnbind}
use Rattle.uma_replay.specs.NameLines.{NameLine, FindsBound, RefusesEntry, WaitsForReaders}
use Rattle.uma_replay.specs.Steps.{Step, seen}
use Rattle.uma_replay.proofs.SeatLines.{Follow, step_by}

-- ---- on numbers

abbrev pub unit : Bool → ℕ
unit b = cond b 1 0

abbrev fails_in : Option SeatLedger → ℕ
fails_in o = option_map_or (λ (ledger : SeatLedger). ledger.fails) o 0

as_before : (a b : ℕ) → b ≡ a → b ≡ a + 0
as_before a b e = omega arith

three_same : (a b c : ℕ) → b ≡ a → c ≡ b → c ≡ a + 0
three_same a b c e1 e2 = omega arith

pub add_up : (a b c m n : ℕ) → b ≡ a + m → c ≡ b + n → c ≡ a + (m + n)
add_up a b c m n e1 e2 = omega arith

pub from_none : (a b n : ℕ) → a ≡ 0 → b ≡ a + n → b ≡ n
from_none a b n e1 e2 = omega arith

-- ---- one line's ledger

-- what a bind was refused, and what that did to the fails
record Ends (IsFound : Refusal → Type 0) (old new : Option SeatLedger) : Type 0 where
  refused : Option Refusal
  found : IfSome refused IsFound
  fails : fails_in new ≡ fails_in old + unit (is_some refused)

may_free : (between new : SeatLedger) → MayCountFree between new → new.fails ≡ between.fails
may_free between new may = elim may [
  | inl same ↦ ap (λ (l : SeatLedger). l.fails) same
  | inr one ↦ one.1.fails
]

bind_ends : (slabs : ℕ) (IsFound : Refusal → Type 0) (Cause : Type 0) (done : Bool) (old new : Option SeatLedger) → OnBoth (BindCounts slabs IsFound Cause done) old new → Ends IsFound old new
bind_ends slabs IsFound Cause done None None counts = record { refused = None; found = tt; fails = refl }
bind_ends slabs IsFound Cause done None (Some new) counts = absurd counts
bind_ends slabs IsFound Cause done (Some old) None counts = absurd counts
bind_ends slabs IsFound Cause true (Some old) (Some new) counts = record {
  refused = None;
  found = tt;
  fails = three_same old.fails counts.between.fails new.fails counts.alloc.fails (may_free counts.between new counts.evicts);
}
bind_ends slabs IsFound Cause false (Some old) (Some new) counts = elim counts [
  | inl turned ↦ record { refused = Some turned.refusal; found = turned.found; fails = turned.turned.fails }
  | inr back ↦ record { refused = None; found = tt; fails = three_same old.fails back.between.fails new.fails back.alloc.fails back.back.1.fails }
]

unbind_ends : (slabs : ℕ) (done : Bool) (old new : Option SeatLedger) → OnBoth (UnbindCounts done) old new → fails_in new ≡ fails_in old + 0
unbind_ends slabs done None None counts = refl
unbind_ends slabs done None (Some new) counts = absurd counts
unbind_ends slabs done (Some old) None counts = absurd counts
unbind_ends slabs true (Some old) (Some new) counts = as_before old.fails new.fails counts.1.fails
unbind_ends slabs false (Some old) (Some new) counts = as_before old.fails new.fails (ap (λ (l : SeatLedger). l.fails) counts)

if_found : {P Q : Refusal → Type 0} (o : Option Refusal) → ((refusal : Refusal) → P refusal → Q refusal) → IfSome o P → IfSome o Q
if_found None f p = tt
if_found (Some refusal) f p = f refusal p

-- ---- one line's hits

answer_hits : (found : Option ℕ) (old new : NameCounts) → CountsAnswer found old new → new.hits ≡ old.hits + unit (is_some found)
answer_hits None old new counts = as_before old.hits new.hits (ap (λ (c : NameCounts). c.hits) counts)
answer_hits (Some value) old new counts = ap (λ (c : NameCounts). c.hits) counts

bind_hits : (done : Bool) (old new : NameCounts) → CountsBind done old new → new.hits ≡ old.hits + 0
bind_hits true old new counts = as_before old.hits new.hits (ap (λ (c : NameCounts). c.hits) counts)
bind_hits false old new counts = as_before old.hits new.hits (ap (λ (c : NameCounts). c.hits) counts)

unbind_hits : (done : Bool) (old new : NameCounts) → CountsUnbind done old new → new.hits ≡ old.hits + 0
unbind_hits true old new counts = as_before old.hits new.hits (ap (λ (c : NameCounts). c.hits) counts)
unbind_hits false old new counts = as_before old.hits new.hits (ap (λ (c : NameCounts). c.hits) counts)

-- a record that binds the key to a value
same_key : (key value : ℕ) (bound : ℕ × ℕ) (b : Bool) → (b ≡ true → bound.0 ≡ key) → Some value ≡ cond b (Some bound.1) None → ◌≡◌ {A = Option (ℕ × ℕ)} (Some bound) (Some (key, value))
same_key key value bound true is answer =
    let second : bound.1 ≡ value = sym (same_Some value bound.1 answer) in
    λ i. Some (is refl i, second i)
same_key key value bound false is answer = absurd (none-some value (sym answer))

binds_key : (key value : ℕ) (content : Option (ℕ × ℕ)) → Some value ≡ bound_to key content → content ≡ Some (key, value)
binds_key key value None answer = absurd (none-some value (sym answer))
binds_key key value (Some bound) answer = same_key key value bound (bound.0 == key) (λ is. eqb-true bound.0 key is) answer

module _ {N H C S Part : Type 0} {h : Ghosts H Part} where
  abbrev pub has_found : NameLine N H C S Part h → Bool
  has_found line = is_some line.found

  abbrev pub has_refused : NameLine N H C S Part h → Bool
  has_refused line = is_some line.refused

  -- the entries of a line
  abbrev pub came : NameLine N H C S Part h → List Ticket
  came line = line.brought

  abbrev pub handed : NameLine N H C S Part h → List Ticket
  handed line = line.handed

  -- a line that neither brings nor hands out an entry
  abbrev quiet : Op → LineState N H C S Part h → LineState N H C S Part h → Option ℕ → NameLine N H C S Part h
  quiet op old new found = record { step = step_by op old new; found = found; refused = None; brought = []; handed = [] }

module _ {N H C S Part : Type 0} {h : Ghosts H Part} (names : NameGhosts N H C S Part) (cache : C) where
  abbrev usable_by : LineState N H C S Part h → List Ticket
  usable_by d = names.usable d.name_work.seat

  abbrev pub before : NameLine N H C S Part h → List Ticket
  before line = names.usable line.step.old.name_work.seat

  abbrev pub after : NameLine N H C S Part h → List Ticket
  after line = names.usable line.step.new.name_work.seat

  abbrev fails_by : LineState N H C S Part h → ℕ
  fails_by d = fails_in (names.counted d.name_work.seat)

  found_bound : (key : ℕ) (old new : LineState N H C S Part h) (found : Option ℕ) → Loads names.knows names.told (names.sizes_of cache).rows key (seen old) found (seen new) → IfSome found (FindsBound names cache (quiet (Look key) old new found))
  found_bound key old new None loads = tt
  found_bound key old new (Some value) loads =
      let row = key % (names.sizes_of cache).rows in
      let content = binds_key key value loads.content loads.answer in
      let front : Option (ℕ × ℕ) → List Told = λ bound. (row, loads.version, bound) ∷ names.told (seen old) in
      record { key = key; looks = refl; version = loads.version; loaded = loads.loaded ∙ ap front content; newest = loads.met }

  entry_refused : (line : NameLine N H C S Part h) (key value : ℕ) → line.step.op ≡ Bind key value → IfSome line.refused (names.IsFound cache) → IfSome line.refused (RefusesEntry names cache line)
  entry_refused line key value is found = if_found line.refused (λ refusal so. record { key = key; value = value; binds = is; found = so }) found

  -- ---- one line

  pub record IsFine (line : NameLine N H C S Part h) : Type 0 where
    pub looked : IfSome line.found (FindsBound names cache line)
    pub bound : IfSome line.refused (RefusesEntry names cache line)
    pub waits : WaitsForReaders names cache line

  record IsNext (op : Op) (old new : LineState N H C S Part h) : Type 0 where
    line : NameLine N H C S Part h
    is_step : line.step ≡ step_by op old new
    fine : IsFine line
    hits : new.name_work.counts.hits ≡ old.name_work.counts.hits + unit (is_some line.found)
    fails : fails_by new ≡ fails_by old + unit (is_some line.refused)

  -- ---- one line after another

  pub record Story (steps : List (Step N H C S Part h)) (old new : NameWork N H C S Part) : Type 0 where
    pub lines : List (NameLine N H C S Part h)
    pub are : map (λ (line : NameLine N H C S Part h). line.step) lines ≡ steps
    pub fine : All IsFine lines
    pub hits : new.counts.hits ≡ old.counts.hits + count_by has_found lines
    pub fails : fails_in (names.counted new.seat) ≡ fails_in (names.counted old.seat) + count_by has_refused lines
    pub follow : Follow before after (names.usable old.seat) lines (names.usable new.seat)

  pub story-none : (old new : NameWork N H C S Part) → new ≡ old → Story [] old new
  story-none old new same = record {
    lines = [];
    are = refl;
    fine = All-nil IsFine;
    hits = as_before _ _ (ap (λ (n : NameWork N H C S Part). n.counts.hits) same);
    fails = as_before _ _ (ap (λ (n : NameWork N H C S Part). fails_in (names.counted n.seat)) same);
    follow = ap (λ (n : NameWork N H C S Part). names.usable n.seat) same;
  }

  story-next : (op : Op) (steps : List (Step N H C S Part h)) (old mid : LineState N H C S Part h) (new : NameWork N H C S Part) → IsNext op old mid → Story steps mid.name_work new → Story (step_by op old mid ∷ steps) old.name_work new
  story-next op steps old mid new n s = record {
    lines = n.line ∷ s.lines;
    are = λ i. n.is_step i ∷ s.are i;
    fine = All-cons IsFine n.line s.lines n.fine s.fine;
    hits = add_up _ _ _ _ _ n.hits s.hits ∙ ap (λ (m : ℕ). old.name_work.counts.hits + m) (sym (sum_by-cons (λ (line : NameLine N H C S Part h). unit (has_found line)) n.line s.lines));
    fails = add_up _ _ _ _ _ n.fails s.fails ∙ ap (λ (m : ℕ). fails_by old + m) (sym (sum_by-cons (λ (line : NameLine N H C S Part h). unit (has_refused line)) n.line s.lines));
    follow = (
      ap (λ (step : Step N H C S Part h). usable_by step.old) n.is_step,
      subst (λ (from : List Ticket). Follow before after from s.lines (names.usable new.seat)) (sym (ap (λ (step : Step N H C S Part h). usable_by step.new) n.is_step)) s.follow,
    );
  }

  joined : (lines more : List (NameLine N H C S Part h)) (from mid to : List Ticket) → Follow before after from lines mid → Follow before after mid more to → Follow before after from (lines ++ more) to
  joined [] more from mid to same rest = subst (λ (at : List Ticket). Follow before after at more to) same rest
  joined (line ∷ lines) more from mid to first rest = (first.0, joined lines more (after line) mid to first.1 rest)

  pub story-append : (steps more : List (Step N H C S Part h)) (old mid new : NameWork N H C S Part) → Story steps old mid → Story more mid new → Story (steps ++ more) old new
  story-append steps more old mid new s t = record {
    lines = s.lines ++ t.lines;
    are = map-append (λ (line : NameLine N H C S Part h). line.step) s.lines t.lines ∙ (λ i. s.are i ++ t.are i);
    fine = All-append IsFine s.lines t.lines s.fine t.fine;
    hits = add_up _ _ _ _ _ s.hits t.hits ∙ ap (λ (m : ℕ). old.counts.hits + m) (sym (sum_by-append (λ (line : NameLine N H C S Part h). unit (has_found line)) s.lines t.lines));
    fails = add_up _ _ _ _ _ s.fails t.fails ∙ ap (λ (m : ℕ). fails_in (names.counted old.seat) + m) (sym (sum_by-append (λ (line : NameLine N H C S Part h). unit (has_refused line)) s.lines t.lines));
    follow = joined s.lines t.lines (names.usable old.seat) (names.usable mid.seat) (names.usable new.seat) s.follow t.follow;
  }

  -- ---- what each line does

  -- the seat's usable entries stay
  quiet_waits : (op : Op) (old new : LineState N H C S Part h) (found : Option ℕ) → usable_by new ≡ usable_by old → WaitsForReaders names cache (quiet op old new found)
  quiet_waits op old new found same = record { balance = ap (λ (l : List Ticket). l ++ []) same; come = inl refl }

  -- it found nothing
  none_found : (op : Op) (old new : LineState N H C S Part h) → usable_by new ≡ usable_by old → new.name_work.counts.hits ≡ old.name_work.counts.hits + 0 → fails_by new ≡ fails_by old + 0 → IsNext op old new
  none_found op old new usable hits fails = record {
    line = quiet op old new None;
    is_step = refl;
    fine = record { looked = tt; bound = tt; waits = quiet_waits op old new None usable };
    hits = hits;
    fails = fails;
  }

  -- it isn't of names
  passes : (op : Op) (old new : LineState N H C S Part h) → new.name_work ≡ old.name_work → IsNext op old new
  passes op old new same = none_found op old new (ap (λ (n : NameWork N H C S Part). names.usable n.seat) same) (as_before _ _ (ap (λ (n : NameWork N H C S Part). n.counts.hits) same))
      (as_before _ _ (ap (λ (n : NameWork N H C S Part). fails_in (names.counted n.seat)) same))

  -- a look that ended so
  looks : (key : ℕ) (old new : LineState N H C S Part h) (found : Option ℕ) → Loads names.knows names.told (names.sizes_of cache).rows key (seen old) found (seen new) → CountsAnswer found old.name_work.counts new.name_work.counts
      → new.name_work.seat ≡ old.name_work.seat → IsNext (Look key) old new
  looks key old new found loads counts seat = record {
    line = quiet (Look key) old new found;
    is_step = refl;
    fine = record { looked = found_bound key old new found loads; bound = tt; waits = quiet_waits (Look key) old new found (ap names.usable seat) };
    hits = answer_hits found old.name_work.counts new.name_work.counts counts;
    fails = as_before _ _ (ap (λ s. fails_in (names.counted s)) seat);
  }

  next : (zones : List (CountedZone H Part h)) (op : Op) (old new : LineState N H C S Part h) → Changes names cache zones old op new → IsNext op old new
  next zones (Bind key value) old new did =
      let ends = bind_ends (names.sizes_of cache).slabs (names.IsFound cache) _ did.done (names.counted old.name_work.seat) (names.counted new.name_work.seat) did.ledger in
      let moves = did.moves in
      let line : NameLine N H C S Part h = record { step = step_by (Bind key value) old new; found = None; refused = ends.refused; brought = moves.brought; handed = moves.handed } in
      record {
        line = line;
        is_step = refl;
        fine = record { looked = tt; bound = entry_refused line key value refl ends.found; waits = record { balance = moves.balance; come = moves.come } };
        hits = bind_hits did.done old.name_work.counts new.name_work.counts did.counts;
        fails = ends.fails;
      }
  next zones (Unbind key) old new did =
      none_found (Unbind key) old new did.usable (unbind_hits did.done old.name_work.counts new.name_work.counts did.counts)
      (unbind_ends (names.sizes_of cache).slabs did.done (names.counted old.name_work.seat) (names.counted new.name_work.seat) did.ledger)
  next zones (Look key) old new did = elim did [
    | inl f ↦ looks key old new f.found f.loads f.counts f.seat
    | inr (inl l) ↦ looks key old new l.found l.loads l.counts l.seat
    | inr (inr l) ↦ none_found (Look key) old new (ap names.usable l.seat) (as_before _ _ (ap (λ (c : NameCounts). c.hits) l.counts)) (as_before _ _ (ap (λ s. fails_in (names.counted s)) l.seat))
  ]
  next zones (Alloc place slot arg reserve) old new did = passes (Alloc place slot arg reserve) old new did.1
  next zones (Free slot) old new did = passes (Free slot) old new did.1
  next zones Enter old new did = passes Enter old new did.1
  next zones Exit old new did = passes Exit old new did.1
  next zones (Trim place) old new did = passes (Trim place) old new did.1
  next zones (Drain place) old new did = passes (Drain place) old new did.1
  next zones (DrainSeat place) old new did = passes (DrainSeat place) old new did.1
  next zones (Prealloc place items) old new did = passes (Prealloc place items) old new did.1
  next zones Away old new did = passes Away old new did.name_work
  next zones Back old new did = passes Back old new did.name_work

  pub story-cons : (zones : List (CountedZone H Part h)) (op : Op) (steps : List (Step N H C S Part h)) (old mid : LineState N H C S Part h) (new : NameWork N H C S Part) → Changes names cache zones old op mid → Story steps mid.name_work new
      → Story (step_by op old mid ∷ steps) old.name_work new
  story-cons zones op steps old mid new did s = story-next op steps old mid new (next zones op old mid did) s
