-- What each kind of line does to its worker (own).
use Rattle.std.specs.Prelude.{◌≡◌, ◌<◌, ◌≤◌, ◌+◌, ◌⊎◌, ℕ, Bool, List, length, Option, Some, None, option_map, slice_get, slice_set}
use Rattle.smr_clock.specs.declared.clock.Clock.{Clock}
use Rattle.smr_clock.specs.declared.host.Host.{Ghosts}
use Rattle.smr_core.specs.declared.holder.Phase.TheVariants.{Outside, Inside}
use Rattle.smr_clock.specs.declared.polls.Overtaken.{Overtaken}
use Rattle.smr_clock.specs.declared.view.View.{View}
use Rattle.smr_clock.specs.Belongs.{IsPassOf, view}
use Rattle.smr_clock.specs.Sections.{Enters, Misses}
use Rattle.smr_clock.specs.Steps.{clearing}
use Rattle.trace_text.specs.declared.trace.Op.{Op}
use Rattle.trace_text.specs.Limits.{last_slot}
use Rattle.trace_text.specs.declared.trace.Op.TheVariants.{Alloc, Free, Enter, Exit, Prealloc, Trim, Drain, DrainSeat}
use Rattle.uma_seat.specs.Seat.{seat_domain}
use Rattle.uma_zone.specs.declared.zone.alloc.AllocAsk.{AllocAsk}
use Rattle.replay_worker.specs.declared.worker.Held.{Held}
use Rattle.replay_worker.specs.declared.worker.Worker.{Worker}
use Rattle.replay_worker.specs.Items.{CountedSeat, CountedZone, LiveItem}
use Rattle.replay_worker.specs.Reclaims.{HasDrained, HasDrainedSeat, HasTrimmed}
use Rattle.replay_worker.specs.Requests.{BringsItems, GivesBack, HasFreed, Reaches, Requests}
use Rattle.replay_worker.specs.Slots.{slot_at, filled, emptied}
use Rattle.replay_worker.specs.Live.{holding}
use Rattle.replay_worker.specs.Worker.{phase_of, seen_of}

module _ {H P : Type 0} {h : Ghosts H P} where
  -- neither its section nor its counts of sections change, and its pass forgets nothing
  pub record KeepsSection (old new : Worker H P h) : Type 0 where
    pub phase : phase_of new ≡ phase_of old
    pub seen : seen_of old ≤ seen_of new
    pub entered : new.entered ≡ old.entered
    pub late : new.late ≡ old.late

  -- Its pass knows what it knew and stands where it stood with its section, and nothing else of it changes.
  pub record KeepsAll (old new : Worker H P h) : Type 0 where
    pub known : view new.pass ≡ view old.pass
    pub seats : new.seats ≡ old.seats
    pub slots : new.slots ≡ old.slots
    pub entered : new.entered ≡ old.entered
    pub late : new.late ≡ old.late

  -- the same, and its pass is of this clock
  pub record StaysWhole (by : Clock H P) (old new : Worker H P h) : Type 0 where
    pub pass : IsPassOf by new.pass
    pub keeps : KeepsAll old new

  -- the pass is of this clock, and outside a section
  pub record IsOutside (by : Clock H P) (w : Worker H P h) : Type 0 where
    pub pass : IsPassOf by w.pass
    pub outside : phase_of w ≡ Outside

  -- an `alloc` line: one request by the worker's seat of its zone, whose item, if there is one, its slot holds
  pub record Allocs (zones : List (CountedZone H P h)) (old : Worker H P h) (zone slot : ℕ) (ask : AllocAsk) (new : Worker H P h) : Type 0 where
    pub of : CountedZone H P h
    pub is_zone : slice_get zones zone ≡ Some of
    pub before : CountedSeat H P h
    pub at : slice_get old.seats.items zone ≡ Some before
    pub after : CountedSeat H P h
    pub got : Option LiveItem
    pub requests : Requests of ask before got after
    pub reaches : Reaches of (view old.pass) before after (view new.pass)
    pub seats : new.seats.items ≡ slice_set old.seats.items zone after
    pub slots : new.slots ≡ filled old.slots slot (option_map (holding zone) got)
    pub section : KeepsSection old new

  -- the free of what a slot holds, by the worker's seat of its zone
  pub record Frees (zones : List (CountedZone H P h)) (old : Worker H P h) (slot : ℕ) (it : Held) (new : Worker H P h) : Type 0 where
    pub holds : slot_at old.slots slot ≡ Some it
    pub of : CountedZone H P h
    pub is_zone : slice_get zones it.zone ≡ Some of
    pub before : CountedSeat H P h
    pub at : slice_get old.seats.items it.zone ≡ Some before
    pub after : CountedSeat H P h
    pub gives_back : GivesBack of before it.item after
    pub freed : HasFreed of (view old.pass) before gives_back.ready it.item after (view new.pass)
    pub seats : new.seats.items ≡ slice_set old.seats.items it.zone after
    pub slots : new.slots ≡ emptied old.slots slot
    pub section : KeepsSection old new

  -- a `free` line; of a slot whose request was refused it does nothing and counts nothing
  abbrev pub FreesSlot : List (CountedZone H P h) → Worker H P h → ℕ → Worker H P h → Type 0
  FreesSlot zones old slot new = ((it : Held) × Frees zones old slot it new) ⊎ ((slot_at old.slots slot ≡ None) × (new ≡ old))

  -- the seats and the slots stay
  pub record KeepsHolds (old new : Worker H P h) : Type 0 where
    pub seats : new.seats ≡ old.seats
    pub slots : new.slots ≡ old.slots

  -- the pass is in a section now, which is counted as entered
  pub record EntersInTime (old new : Worker H P h) : Type 0 where
    pub enters : Enters (view old.pass) (view new.pass)
    pub phase : phase_of new ≡ Inside
    pub seen : seen_of old ≤ seen_of new
    pub entered : new.entered ≡ old.entered + 1
    pub late : new.late ≡ old.late
    pub holds : KeepsHolds old new

  -- the enter was overtaken, which is counted as late
  pub record EntersLate (old new : Worker H P h) : Type 0 where
    pub overtaken : Overtaken
    pub misses : Misses (view old.pass) overtaken (view new.pass)
    pub phase : phase_of new ≡ Outside
    pub seen : seen_of old ≤ seen_of new
    pub entered : new.entered ≡ old.entered
    pub late : new.late ≡ old.late + 1
    pub holds : KeepsHolds old new

  -- an `exit` line; after an enter that was late it does nothing
  pub record Leaves (old new : Worker H P h) : Type 0 where
    pub left : phase_of old ≡ Inside → view new.pass ≡ clearing (view old.pass)
    pub nothing : phase_of old ≡ Outside → new.pass ≡ old.pass
    pub phase : phase_of new ≡ Outside
    pub seen : seen_of old ≤ seen_of new
    pub entered : new.entered ≡ old.entered
    pub late : new.late ≡ old.late
    pub holds : KeepsHolds old new

  -- a line of reclaim: its call, by the worker's pass, gave this back and left this of the worker's seat of its zone
  pub record Reclaims (zones : List (CountedZone H P h)) (Leaves : CountedZone H P h → View P → CountedSeat H P h → CountedSeat H P h → Type 0) (old : Worker H P h) (zone : ℕ) (new : Worker H P h) : Type 0 where
    pub of : CountedZone H P h
    pub is_zone : slice_get zones zone ≡ Some of
    pub before : CountedSeat H P h
    pub at : slice_get old.seats.items zone ≡ Some before
    pub after : CountedSeat H P h
    pub leaves : Leaves of (view old.pass) before after
    pub seats : new.seats.items ≡ slice_set old.seats.items zone after
    pub slots : new.slots ≡ old.slots
    pub section : KeepsSection old new

module _ {H P : Type 0} {h : Ghosts H P} where
  -- a `prealloc` line: slabs of its zone came in for its items, of the domain of the worker's seat there, up to a refusal; the worker stays as it is
  pub record BringsIn (zones : List (CountedZone H P h)) (old : Worker H P h) (zone items : ℕ) (new : Worker H P h) : Type 0 where
    pub of : CountedZone H P h
    pub is_zone : slice_get zones zone ≡ Some of
    pub seat : CountedSeat H P h
    pub at : slice_get old.seats.items zone ≡ Some seat
    pub brings : BringsItems of items (seat_domain seat)
    pub same : new ≡ old

-- what a request asks
abbrev pub ask_of : ℕ → Bool → AllocAsk
ask_of arg reserve = record { arg = arg; reserve = reserve }

module _ {H P : Type 0} {h : Ghosts H P} where
  -- a worker's pass is outside a section or in one, between two lines
  abbrev pub IsBetween : Worker H P h → Type 0
  IsBetween w = (phase_of w ≡ Outside) ⊎ (phase_of w ≡ Inside)

  -- What a line needs that isn't of names.
  abbrev pub CanPerform : List (CountedZone H P h) → Worker H P h → Op → Type 0
  CanPerform zones w (Alloc zone slot arg reserve) = (zone < length zones) × (arg ≤ 254) × (slot_at w.slots slot ≡ None) × (slot ≤ last_slot)
  CanPerform zones w (Free slot) = Unit {0}
  CanPerform zones w Enter = phase_of w ≡ Outside
  CanPerform zones w Exit = IsBetween w
  CanPerform zones w (Prealloc zone items) = (zone < length zones) × (items ≤ 262144)
  CanPerform zones w (Trim zone) = zone < length zones
  CanPerform zones w (Drain zone) = zone < length zones
  CanPerform zones w (DrainSeat zone) = zone < length zones
  CanPerform zones w op = ⊥

  -- what it does
  abbrev pub Performs : List (CountedZone H P h) → Worker H P h → Op → Worker H P h → Type 0
  Performs zones old (Alloc zone slot arg reserve) new = Allocs zones old zone slot (ask_of arg reserve) new
  Performs zones old (Free slot) new = FreesSlot zones old slot new
  Performs zones old Enter new = EntersInTime old new ⊎ EntersLate old new
  Performs zones old Exit new = Leaves old new
  Performs zones old (Prealloc zone items) new = BringsIn zones old zone items new
  Performs zones old (Trim zone) new = Reclaims zones HasTrimmed old zone new
  Performs zones old (Drain zone) new = Reclaims zones HasDrained old zone new
  Performs zones old (DrainSeat zone) new = Reclaims zones HasDrainedSeat old zone new
  Performs zones old op new = ⊥
