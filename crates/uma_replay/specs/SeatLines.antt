-- The steps of a worker as calls of its seat of a zone (own).
use Rattle.std.specs.Prelude.{◌≡◌, ◌≢◌, ◌⊎◌, ℕ, All, Bool, true, false, List, Option, Some, None, map, option_map, slice_get}
use Rattle.smr_clock.specs.declared.host.Host.{Ghosts}
use Rattle.trace_text.specs.declared.trace.Op.{Op}
use Rattle.trace_text.specs.declared.trace.Op.TheVariants.{Alloc, Free, Trim, Drain, DrainSeat}
use Rattle.uma_life.specs.declared.states.Ticket.{Ticket}
use Rattle.uma_zone.specs.declared.zone.alloc.AllocAsk.{AllocAsk}
use Rattle.replay_worker.specs.declared.worker.Held.{Held}
use Rattle.replay_worker.specs.Items.{CountedSeat, CountedZone, LiveItem}
use Rattle.replay_worker.specs.Live.{holding}
use Rattle.replay_worker.specs.Performs.{ask_of}
use Rattle.replay_worker.specs.Reclaims.{IsDrained, IsFlushed}
use Rattle.replay_worker.specs.Requests.{GivesBack, Requests}
use Rattle.replay_worker.specs.Slots.{slot_at, filled, emptied}
use Rattle.uma_replay.specs.Steps.{Step}

-- A request, which got this item or none; the free of this item; what a `trim` or `drain` line does to the seat, or a `drainseat` line; or nothing.
pub data SeatCall : Type 0 where
  Request : AllocAsk → Option LiveItem → SeatCall
  Return : LiveItem → SeatCall
  Flush : SeatCall
  Empty : SeatCall
  Nothing : SeatCall

-- a request that got no item
abbrev pub got_none : SeatCall → Bool
got_none (Request ask None) = true
got_none call = false

-- what a line of the zone at place `zone` is at the seat of the zone at place `z`
abbrev pub OnlyOfZone : ℕ → ℕ → (SeatCall → Type 0) → SeatCall → Type 0
OnlyOfZone z zone Is call = ((zone ≡ z) × Is call) ⊎ ((zone ≢ z) × (call ≡ Nothing))

-- a `free` line is of the zone whose item its slot holds, and the free of that item; of an empty slot it does nothing
abbrev pub IsReturn : ℕ → Option Held → SeatCall → Type 0
IsReturn z None call = call ≡ Nothing
IsReturn z (Some it) call = OnlyOfZone z it.zone (λ c. c ≡ Return it.item) call

-- What an operation is at its worker's seat of the zone at place `z`, and what it does to the slots, which were so before and after it: what a request got lies in its slot, and nothing in one that was freed.
abbrev pub IsCall : ℕ → Op → List (Option Held) → List (Option Held) → SeatCall → Type 0
IsCall z (Alloc zone slot arg reserve) old new call = OnlyOfZone z zone (λ c. (got : Option LiveItem) × (c ≡ Request (ask_of arg reserve) got) × (new ≡ filled old slot (option_map (holding zone) got))) call
IsCall z (Free slot) old new call = IsReturn z (slot_at old slot) call × (new ≡ emptied old slot)
IsCall z (Trim zone) old new call = OnlyOfZone z zone (λ c. c ≡ Flush) call × (new ≡ old)
IsCall z (Drain zone) old new call = OnlyOfZone z zone (λ c. c ≡ Flush) call × (new ≡ old)
IsCall z (DrainSeat zone) old new call = OnlyOfZone z zone (λ c. c ≡ Empty) call × (new ≡ old)
IsCall z op old new call = (call ≡ Nothing) × (new ≡ old)

-- a step at the seat of a zone: what it is there, the seat before and after it, and the items, by their tickets, that it brought to the seat
pub record SeatLine (N H C S P : Type 0) (h : Ghosts H P) : Type 0 where
  pub step : Step N H C S P h
  pub call : SeatCall
  pub old : CountedSeat H P h
  pub brought : List Ticket
  pub new : CountedSeat H P h

module _ {H P : Type 0} {h : Ghosts H P} where
  -- the call did to the seat what its contract says
  abbrev pub HasDone : CountedZone H P h → CountedSeat H P h → SeatCall → CountedSeat H P h → Type 0
  HasDone zone old (Request ask got) new = Requests zone ask old got new
  HasDone zone old (Return item) new = GivesBack zone old item new
  HasDone zone old Flush new = IsFlushed old new
  HasDone zone old Empty new = IsDrained old new
  HasDone zone old Nothing new = new ≡ old

module _ {N H C S P : Type 0} {h : Ghosts H P} where
  -- the seats are those that the step's worker has there before and after it
  pub record IsLine (zone : CountedZone H P h) (z : ℕ) (line : SeatLine N H C S P h) : Type 0 where
    pub before : slice_get line.step.old.worker.seats.items z ≡ Some line.old
    pub after : slice_get line.step.new.worker.seats.items z ≡ Some line.new
    pub call : IsCall z line.step.op line.step.old.worker.slots line.step.new.worker.slots line.call
    pub done : HasDone zone line.old line.call line.new

  -- these are the worker's steps at its seat of the zone at place `z`
  pub record AreLines (zone : CountedZone H P h) (z : ℕ) (steps : List (Step N H C S P h)) (lines : List (SeatLine N H C S P h)) : Type 0 where
    pub are : map (λ (line : SeatLine N H C S P h). line.step) lines ≡ steps
    pub each : All (IsLine zone z) lines
