-- The lines of a worker at its seat of a zone, from what the worker did.
use Rattle.std.proofs.Common.{◌≡◌, ◌≢◌, ◌⊎◌, ℕ, zero, suc, Bool, true, List, [], ◌∷◌, ◌++◌, Option, None, Some, cond, map, inl, inr, refl, sym, ap, ◌∙◌, subst}
use Rattle.std.proofs.lemmas.Bool.{cases_eq}
use Rattle.std.proofs.lemmas.List.{append-nil, map-append}
use Rattle.std.proofs.lemmas.List.Elements.{All-nil, All-cons, All-append}
use Rattle.std.proofs.lemmas.Option.{none-some, same_Some}
use Rattle.std.specs.Prelude.{All, slice_get, slice_set}
use Rattle.smr_clock.specs.declared.host.Host.{Ghosts}
use Rattle.trace_text.specs.declared.trace.Op.{Op}
use Rattle.trace_text.specs.declared.trace.Op.TheVariants.{Alloc, Free, Enter, Exit, Bind, Unbind, Look, Trim, Drain, DrainSeat, Prealloc, Away, Back}
use Rattle.uma_bucket.specs.Bucket.{items_of}
use Rattle.uma_life.specs.declared.states.Ticket.{Ticket}
use Rattle.uma_life.specs.Cached.{cached_ticket}
use Rattle.uma_life.specs.Live.{live_ticket}
use Rattle.uma_seat.specs.Row.{stacks_of}
use Rattle.uma_seat.specs.Seat.{usable_of, KeepsTop, KeepsPlain}
use Rattle.uma_seat.specs.Stack.{stack_at}
use Rattle.uma_zone.specs.declared.zone.alloc.AllocAsk.{AllocAsk}
use Rattle.uma_zone.specs.declared.zone.alloc.AllocRefused.TheVariants.{Refused}
use Rattle.uma_zone.specs.Alloc.{TakesUsable, AllocIsRefused}
use Rattle.uma_zone.specs.SafeReuse.{usable_tickets}
use Rattle.uma_zone.specs.Zone.{zone_smr}
use Rattle.zone_stats.specs.declared.refusal.Refusal.{Refusal}
use Rattle.zone_stats.specs.declared.refusal.Refusal.TheVariants.{AtLimit, Reserved, Full, Init, Ctor}
use Rattle.replay_worker.specs.declared.name_calls.NameCalls.{Ghosts as NameGhosts}
use Rattle.replay_worker.specs.declared.worker.Held.{Held}
use Rattle.replay_worker.specs.declared.worker.Worker.{Worker}
use Rattle.replay_worker.specs.Items.{CachedItem, CountedSeat, CountedZone, LiveItem}
use Rattle.replay_worker.specs.NameLines.{Changes, LineState}
use Rattle.replay_worker.specs.Performs.{ask_of}
use Rattle.replay_worker.specs.Reclaims.{IsDrained, IsFlushed}
use Rattle.replay_worker.specs.Requests.{GivesBack, Requests}
use Rattle.replay_worker.specs.Slots.{slot_at}
use Rattle.replay_worker.proofs.SlotLemmas.{emptied_none}
use Rattle.uma_replay.specs.Headline.{ComeRipe, ComeFromKeg, gone_by}
use Rattle.uma_replay.specs.SeatLines.{SeatCall, Request, Return, Flush, Empty, Nothing, SeatLine, IsCall, IsLine, IsReturn, OnlyOfZone, HasDone}
use Rattle.uma_replay.specs.Steps.{Step}

-- one line after another, each from the state that the one before it left
abbrev pub Follow : {L S : Type 0} → (L → S) → (L → S) → S → List L → S → Type 0
Follow old new from [] to = to ≡ from
Follow old new from (line ∷ lines) to = (old line ≡ from) × Follow old new (new line) lines to

-- ---- a list that was written at one place

set_here : {X : Type 0} (xs : List X) (p : ℕ) (x y : X) → slice_get xs p ≡ Some x → slice_get (slice_set xs p y) p ≡ Some y
set_here [] p x y at = absurd (none-some x at)
set_here (w ∷ xs) zero x y at = refl
set_here (w ∷ xs) (suc p) x y at = set_here xs p x y at

set_apart : {X : Type 0} (xs : List X) (p z : ℕ) (y : X) → p ≢ z → slice_get (slice_set xs p y) z ≡ slice_get xs z
set_apart [] p z y apart = refl
set_apart (w ∷ xs) zero zero y apart = absurd (apart refl)
set_apart (w ∷ xs) zero (suc z) y apart = refl
set_apart (w ∷ xs) (suc p) zero y apart = refl
set_apart (w ∷ xs) (suc p) (suc z) y apart = set_apart xs p z y (λ same. apart (ap suc same))

-- what a `free` line is, by what its slot holds
is_return : (z slot : ℕ) (slots : List (Option Held)) (it : Held) (call : SeatCall) → slot_at slots slot ≡ Some it → OnlyOfZone z it.zone (λ c. c ≡ Return it.item) call → IsReturn z (slot_at slots slot) call
is_return z slot slots it call holds is = subst (λ (o : Option Held). IsReturn z o call) (sym holds) is

is_nothing : (z slot : ℕ) (slots : List (Option Held)) → slot_at slots slot ≡ None → IsReturn z (slot_at slots slot) Nothing
is_nothing z slot slots holds = subst (λ (o : Option Held). IsReturn z o Nothing) (sym holds) refl

-- ---- what one call brought

module _ {H Part : Type 0} {h : Ghosts H Part} where
  -- where the items came from that a call brought to a seat of an SMR zone, and that they, and what was usable, are what is usable after it and what left the seat
  abbrev pub Waits : CountedZone H Part h → SeatCall → CountedSeat H Part h → List Ticket → CountedSeat H Part h → Type 0
  Waits zone call old brought new = zone_smr zone ≡ true
      → ((brought ≡ []) ⊎ ComeRipe zone brought ⊎ ComeFromKeg zone brought new) × (usable_tickets new ++ gone_by call old ≡ usable_tickets old ++ brought)

  record Source (zone : CountedZone H Part h) (call : SeatCall) (old new : CountedSeat H Part h) : Type 0 where
    brought : List Ticket
    waits : Waits zone call old brought new

  -- what is usable depends on these alone
  usable_kept : (old new : CountedSeat H Part h) → new.seating ≡ old.seating → KeepsTop old new → KeepsPlain old new → usable_of new ≡ usable_of old
  usable_kept old new made top plain = λ i. cond (made i).smr [] (stack_at (stacks_of (plain i)) (made i).domain).items ++ items_of (top i)

  -- the same items are usable, and none left the seat
  same_usable : (zone : CountedZone H Part h) (call : SeatCall) (old new : CountedSeat H Part h) → gone_by call old ≡ [] → (zone_smr zone ≡ true → usable_of new ≡ usable_of old) → Source zone call old new
  same_usable zone call old new none same = record {
    brought = [];
    waits = λ smr. (inl refl, λ i. map cached_ticket (same smr i) ++ none i);
  }

  -- where the items come from of which a request takes the last
  taken : (zone : CountedZone H Part h) (reserve : Bool) (call : SeatCall) (old new : CountedSeat H Part h) (item : CachedItem) (left : List CachedItem) → TakesUsable zone reserve old item left new
      → usable_tickets new ++ gone_by call old ≡ map cached_ticket (left ++ item ∷ []) → Source zone call old new
  taken zone reserve call old new item left takes is =
      let all = left ++ item ∷ [] in
      let behind : (l : List CachedItem) → [] ≡ l → map cached_ticket all ≡ map cached_ticket l ++ map cached_ticket all = λ l none. ap (λ (l : List CachedItem). map cached_ticket l ++ map cached_ticket all) none in
      elim takes [
        | inl own ↦ record { brought = []; waits = λ smr. (inl refl, is ∙ (sym (ap (map cached_ticket) own.last) ∙ sym (append-nil (usable_tickets old)))) }
        | inr (inl listed) ↦ record {
          brought = map cached_ticket all;
          waits = λ smr. (inr (inl (record { items = all; are = refl; reused = listed.reused smr })), is ∙ behind (usable_of old) (sym listed.empty));
        }
        | inr (inr fetched) ↦ record {
          brought = map cached_ticket all;
          waits = λ smr. (inr (inr (record { items = all; are = refl; right = reserve; one = fetched.one })), is ∙ behind (usable_of old) (sym fetched.empty));
        }
      ]

  -- no item was usable before or is after
  still_nothing : (zone : CountedZone H Part h) (call : SeatCall) (old new : CountedSeat H Part h) → gone_by call old ≡ [] → usable_of old ≡ [] → usable_of new ≡ [] → Source zone call old new
  still_nothing zone call old new none was is = same_usable zone call old new none (λ smr. is ∙ sym was)

  refused : (zone : CountedZone H Part h) (ask : AllocAsk) (old new : CountedSeat H Part h) (refusal : Refusal) → AllocIsRefused zone ask old new (Refused refusal) → Source zone (Request ask None) old new
  refused zone ask old new (AtLimit out limit) why = still_nothing zone (Request ask None) old new refl why.empty why.still
  refused zone ask old new (Reserved free reserve) why = still_nothing zone (Request ask None) old new refl why.empty why.still
  refused zone ask old new (Full slabs made) why = still_nothing zone (Request ask None) old new refl why.empty why.still
  refused zone ask old new (Init code) why = still_nothing zone (Request ask None) old new refl why.empty why.still
  refused zone ask old new (Ctor code) why = taken zone ask.reserve (Request ask None) old new why.item why.left why.takes (append-nil (usable_tickets new) ∙ ap (map cached_ticket) why.back)

  asked : (zone : CountedZone H Part h) (ask : AllocAsk) (old : CountedSeat H Part h) (got : Option LiveItem) (new : CountedSeat H Part h) → Requests zone ask old got new → Source zone (Request ask got) old new
  asked zone ask old (Some live) new r =
      let serves = r.ends.0 in
      let item = serves.item in
      let one : usable_tickets new ++ live_ticket live ∷ [] ≡ usable_tickets new ++ cached_ticket item ∷ [] = ap (λ (t : Ticket). usable_tickets new ++ t ∷ []) serves.built.ticket in
      taken zone ask.reserve (Request ask (Some live)) old new item (usable_of new) serves.takes (one ∙ sym (map-append cached_ticket (usable_of new) (item ∷ [])))
  asked zone ask old None new r = refused zone ask old new r.ends.0 r.ends.1

  returned : (zone : CountedZone H Part h) (item : LiveItem) (old new : CountedSeat H Part h) → GivesBack zone old item new → Source zone (Return item) old new
  returned zone item old new g =
      same_usable zone (Return item) old new refl (λ smr. (g.released.smr smr).usable ∙ usable_kept old g.ready g.made.same.0 g.made.top g.made.plain)

  flushed : (zone : CountedZone H Part h) (old new : CountedSeat H Part h) → IsFlushed old new → Source zone Flush old new
  flushed zone old new f = same_usable zone Flush old new refl (λ smr. usable_kept old new f.keeps.same.0 f.top f.plain)

  emptied : (zone : CountedZone H Part h) (old new : CountedSeat H Part h) → IsDrained old new → Source zone Empty old new
  emptied zone old new d = record {
    brought = [];
    waits = λ smr. (inl refl, ap (λ (l : List CachedItem). map cached_ticket l ++ usable_tickets old) d.no_usable ∙ sym (append-nil (usable_tickets old)));
  }

module _ {N H C S Part : Type 0} {h : Ghosts H Part} where
  -- ---- one line

  abbrev pub step_by : Op → LineState N H C S Part h → LineState N H C S Part h → Step N H C S Part h
  step_by op old new = record { op = op; old = old; new = new }

  pub record IsGood (zone : CountedZone H Part h) (z : ℕ) (line : SeatLine N H C S Part h) : Type 0 where
    pub is : IsLine zone z line
    pub waits : Waits zone line.call line.old line.brought line.new

  record IsNext (zone : CountedZone H Part h) (z : ℕ) (op : Op) (by new : LineState N H C S Part h) (old : CountedSeat H Part h) : Type 0 where
    line : SeatLine N H C S Part h
    is_step : line.step ≡ step_by op by new
    from : line.old ≡ old
    good : IsGood zone z line
    at : slice_get new.worker.seats.items z ≡ Some line.new

  -- what an operation is at the seat, and does to the slots
  abbrev Is : ℕ → Op → LineState N H C S Part h → LineState N H C S Part h → SeatCall → Type 0
  Is z op old new call = IsCall z op old.worker.slots new.worker.slots call

  next_by : (zone : CountedZone H Part h) (z : ℕ) (op : Op) (call : SeatCall) (by now : LineState N H C S Part h) (old new : CountedSeat H Part h) → slice_get by.worker.seats.items z ≡ Some old → Is z op by now call
      → HasDone zone old call new → Source zone call old new → slice_get now.worker.seats.items z ≡ Some new → IsNext zone z op by now old
  next_by zone z op call by now old new has is did source at = record {
    line = record { step = step_by op by now; call = call; old = old; brought = source.brought; new = new };
    is_step = refl;
    from = refl;
    good = record { is = record { before = has; after = at; call = is; done = did }; waits = source.waits };
    at = at;
  }

  stays : (zone : CountedZone H Part h) (z : ℕ) (op : Op) (by now : LineState N H C S Part h) (old : CountedSeat H Part h) → slice_get by.worker.seats.items z ≡ Some old → Is z op by now Nothing → slice_get now.worker.seats.items z ≡ Some old
      → IsNext zone z op by now old
  stays zone z op by now old has is at = next_by zone z op Nothing by now old old has is refl (same_usable zone Nothing old old refl (λ smr. refl)) at

  module _ (zones : List (CountedZone H Part h)) (z : ℕ) (zone : CountedZone H Part h) (at_zone : slice_get zones z ≡ Some zone) where
    -- a line of the zone at some place, by the worker's seat there
    at_place : (op : Op) (call : SeatCall) (by now : LineState N H C S Part h) (place : ℕ) (of : CountedZone H Part h) (before after seat : CountedSeat H Part h) → slice_get zones place ≡ Some of → slice_get by.worker.seats.items place ≡ Some before
        → now.worker.seats.items ≡ slice_set by.worker.seats.items place after → slice_get by.worker.seats.items z ≡ Some seat → HasDone of before call after → Source of call before after → (place ≡ z → Is z op by now call) → (place ≢ z → Is z op by now Nothing)
        → IsNext zone z op by now seat
    at_place op call by now place of before after seat is_zone at_before set at did source is isnt =
        let old = by.worker.seats.items in
        elim (cases_eq place z) [
          | inl same ↦
              let of_zone : of ≡ zone = same_Some of zone (sym is_zone ∙ (ap (slice_get zones) same ∙ at_zone)) in
              let is_seat : before ≡ seat = same_Some before seat (sym at_before ∙ (ap (slice_get old) same ∙ at)) in
              let there : slice_get now.worker.seats.items z ≡ Some after = ap (λ (l : List (CountedSeat H Part h)). slice_get l z) set ∙ (ap (λ (i : ℕ). slice_get (slice_set old i after) z) same ∙ set_here old z seat after at) in
              let has : slice_get old z ≡ Some before = at ∙ (λ i. Some (sym is_seat i)) in
              let here : IsNext of z op by now before = next_by of z op call by now before after has (is same) did source there in
              subst (λ (s : CountedSeat H Part h). IsNext zone z op by now s) is_seat (subst (λ (x : CountedZone H Part h). IsNext x z op by now before) of_zone here)
          | inr apart ↦ stays zone z op by now seat at (isnt apart) (ap (λ (l : List (CountedSeat H Part h)). slice_get l z) set ∙ (set_apart old place z after apart ∙ at))
        ]

    -- the seats stay
    same_seats : (op : Op) (old new : LineState N H C S Part h) (seat : CountedSeat H Part h) → Is z op old new Nothing → new.worker.seats ≡ old.worker.seats → slice_get old.worker.seats.items z ≡ Some seat → IsNext zone z op old new seat
    same_seats op old new seat is same at = stays zone z op old new seat at is (ap (λ s. slice_get s.items z) same ∙ at)

  module _ (names : NameGhosts N H C S Part) (cache : C) (zones : List (CountedZone H Part h)) (z : ℕ) (zone : CountedZone H Part h) (at_zone : slice_get zones z ≡ Some zone) where
    next : (op : Op) (old new : LineState N H C S Part h) (seat : CountedSeat H Part h) → slice_get old.worker.seats.items z ≡ Some seat → Changes names cache zones old op new → IsNext zone z op old new seat
    next (Alloc place slot arg reserve) old new seat at did =
        let a = did.0 in
        let op = Alloc place slot arg reserve in
        let call = Request (ask_of arg reserve) a.got in
        at_place zones z zone at_zone op call old new place a.of a.before a.after seat a.is_zone a.at a.seats at a.requests (asked a.of (ask_of arg reserve) a.before a.got a.after a.requests)
        (λ same. inl (same, (a.got, refl, a.slots))) (λ apart. inr (apart, refl))
    next (Free slot) old new seat at did = elim did.0 [
      | inl some ↦
          let it = some.0 in
          let f = some.1 in
          at_place zones z zone at_zone (Free slot) (Return it.item) old new it.zone f.of f.before f.after seat f.is_zone f.at f.seats at f.gives_back (returned f.of it.item f.before f.after f.gives_back)
          (λ same. (is_return z slot old.worker.slots it (Return it.item) f.holds (inl (same, refl)), f.slots)) (λ apart. (is_return z slot old.worker.slots it Nothing f.holds (inr (apart, refl)), f.slots))
      | inr none ↦
          let slots = ap (λ (w : Worker H Part h). w.slots) none.1 ∙ sym (emptied_none old.worker.slots slot none.0) in
          stays zone z (Free slot) old new seat at (is_nothing z slot old.worker.slots none.0, slots) (ap (λ (w : Worker H Part h). slice_get w.seats.items z) none.1 ∙ at)
    ]
    next Enter old new seat at did = elim did.0 [
      | inl e ↦ same_seats zones z zone at_zone Enter old new seat (refl, e.holds.slots) e.holds.seats at
      | inr e ↦ same_seats zones z zone at_zone Enter old new seat (refl, e.holds.slots) e.holds.seats at
    ]
    next Exit old new seat at did = same_seats zones z zone at_zone Exit old new seat (refl, did.0.holds.slots) did.0.holds.seats at
    next (Bind key value) old new seat at did = same_seats zones z zone at_zone (Bind key value) old new seat (refl, did.holds.slots) did.holds.seats at
    next (Unbind key) old new seat at did = same_seats zones z zone at_zone (Unbind key) old new seat (refl, did.holds.slots) did.holds.seats at
    next (Look key) old new seat at did = elim did [
      | inl f ↦ same_seats zones z zone at_zone (Look key) old new seat (refl, f.holds.slots) f.holds.seats at
      | inr (inl l) ↦ same_seats zones z zone at_zone (Look key) old new seat (refl, l.holds.slots) l.holds.seats at
      | inr (inr l) ↦ same_seats zones z zone at_zone (Look key) old new seat (refl, l.holds.slots) l.holds.seats at
    ]
    next (Trim place) old new seat at did =
        let r = did.0 in
        at_place zones z zone at_zone (Trim place) Flush old new place r.of r.before r.after seat r.is_zone r.at r.seats at r.leaves.seat (flushed r.of r.before r.after r.leaves.seat)
        (λ same. (inl (same, refl), r.slots)) (λ apart. (inr (apart, refl), r.slots))
    next (Drain place) old new seat at did =
        let r = did.0 in
        at_place zones z zone at_zone (Drain place) Flush old new place r.of r.before r.after seat r.is_zone r.at r.seats at r.leaves.seat (flushed r.of r.before r.after r.leaves.seat)
        (λ same. (inl (same, refl), r.slots)) (λ apart. (inr (apart, refl), r.slots))
    next (DrainSeat place) old new seat at did =
        let r = did.0 in
        at_place zones z zone at_zone (DrainSeat place) Empty old new place r.of r.before r.after seat r.is_zone r.at r.seats at r.leaves.seat (emptied r.of r.before r.after r.leaves.seat)
        (λ same. (inl (same, refl), r.slots)) (λ apart. (inr (apart, refl), r.slots))
    next (Prealloc place items) old new seat at did =
        stays zone z (Prealloc place items) old new seat at (refl, ap (λ (w : Worker H Part h). w.slots) did.0.same) (ap (λ (w : Worker H Part h). slice_get w.seats.items z) did.0.same ∙ at)
    next Away old new seat at did = same_seats zones z zone at_zone Away old new seat (refl, did.keeps.slots) did.keeps.seats at
    next Back old new seat at did = same_seats zones z zone at_zone Back old new seat (refl, did.keeps.slots) did.keeps.seats at

  -- ---- one line after another

  abbrev pub from_seat : SeatLine N H C S Part h → CountedSeat H Part h
  from_seat line = line.old

  abbrev pub to_seat : SeatLine N H C S Part h → CountedSeat H Part h
  to_seat line = line.new

  -- all lines of these steps, from a seat to the one that stands at place `z` of these
  pub record Story (zone : CountedZone H Part h) (z : ℕ) (steps : List (Step N H C S Part h)) (from : CountedSeat H Part h) (seats : List (CountedSeat H Part h)) : Type 0 where
    pub lines : List (SeatLine N H C S Part h)
    pub are : map (λ (line : SeatLine N H C S Part h). line.step) lines ≡ steps
    pub good : All (IsGood zone z) lines
    pub to : CountedSeat H Part h
    pub follow : Follow from_seat to_seat from lines to
    pub at : slice_get seats z ≡ Some to

  story-none : (zone : CountedZone H Part h) (z : ℕ) (from : CountedSeat H Part h) (seats : List (CountedSeat H Part h)) → slice_get seats z ≡ Some from → Story zone z [] from seats
  story-none zone z from seats at = record { lines = []; are = refl; good = All-nil (IsGood zone z); to = from; follow = refl; at = at }

  story-cons : (zone : CountedZone H Part h) (z : ℕ) (op : Op) (steps : List (Step N H C S Part h)) (old mid : LineState N H C S Part h) (from : CountedSeat H Part h) (new : List (CountedSeat H Part h)) (n : IsNext zone z op old mid from)
      → Story zone z steps n.line.new new → Story zone z (step_by op old mid ∷ steps) from new
  story-cons zone z op steps old mid from new n s = record {
    lines = n.line ∷ s.lines;
    are = λ i. n.is_step i ∷ s.are i;
    good = All-cons (IsGood zone z) n.line s.lines n.good s.good;
    to = s.to;
    follow = (n.from, s.follow);
    at = s.at;
  }

  joined : (lines more : List (SeatLine N H C S Part h)) (from mid to : CountedSeat H Part h) → Follow from_seat to_seat from lines mid → Follow from_seat to_seat mid more to → Follow from_seat to_seat from (lines ++ more) to
  joined [] more from mid to same rest = subst (λ (s : CountedSeat H Part h). Follow from_seat to_seat s more to) same rest
  joined (line ∷ lines) more from mid to first rest = (first.0, joined lines more line.new mid to first.1 rest)

  story-append : (zone : CountedZone H Part h) (z : ℕ) (steps more : List (Step N H C S Part h)) (from : CountedSeat H Part h) (mid new : List (CountedSeat H Part h)) (s : Story zone z steps from mid)
      → Story zone z more s.to new → Story zone z (steps ++ more) from new
  story-append zone z steps more from mid new s t = record {
    lines = s.lines ++ t.lines;
    are = map-append (λ (line : SeatLine N H C S Part h). line.step) s.lines t.lines ∙ (λ i. s.are i ++ t.are i);
    good = All-append (IsGood zone z) s.lines t.lines s.good t.good;
    to = t.to;
    follow = joined s.lines t.lines from s.to t.to s.follow t.follow;
    at = t.at;
  }

  -- the same at each seat of a worker
  abbrev pub Stories : List (CountedZone H Part h) → List (Step N H C S Part h) → LineState N H C S Part h → LineState N H C S Part h → Type 0
  Stories zones steps old new = (z : ℕ) (zone : CountedZone H Part h) (seat : CountedSeat H Part h) → slice_get zones z ≡ Some zone → slice_get old.worker.seats.items z ≡ Some seat → Story zone z steps seat new.worker.seats.items

  pub stories-none : (zones : List (CountedZone H Part h)) (old new : LineState N H C S Part h) → new.worker.seats ≡ old.worker.seats → Stories zones [] old new
  stories-none zones old new same z zone seat at_zone at = story-none zone z seat new.worker.seats.items (ap (λ s. slice_get s.items z) same ∙ at)

  pub stories-cons : (names : NameGhosts N H C S Part) (cache : C) (zones : List (CountedZone H Part h)) (op : Op) (steps : List (Step N H C S Part h)) (old mid new : LineState N H C S Part h) → Changes names cache zones old op mid → Stories zones steps mid new
      → Stories zones (step_by op old mid ∷ steps) old new
  stories-cons names cache zones op steps old mid new did rest z zone seat at_zone at =
      let n = next names cache zones z zone at_zone op old mid seat at did in
      story-cons zone z op steps old mid seat new.worker.seats.items n (rest z zone n.line.new at_zone n.at)

  -- between the two the seats stay
  pub stories-append : (zones : List (CountedZone H Part h)) (steps more : List (Step N H C S Part h)) (old mid next new : LineState N H C S Part h) → next.worker.seats ≡ mid.worker.seats → Stories zones steps old mid → Stories zones more next new
      → Stories zones (steps ++ more) old new
  stories-append zones steps more old mid next new same first rest z zone seat at_zone at =
      let s = first z zone seat at_zone at in
      let there : slice_get next.worker.seats.items z ≡ Some s.to = ap (λ s. slice_get s.items z) same ∙ s.at in
      story-append zone z steps more seat mid.worker.seats.items new.worker.seats.items s (rest z zone s.to at_zone there)
