-- The moments of a clock's table, and the steps that lead from one to the next. A call of a clock takes steps of these kinds alone, one after another: each load, store, exchange, split and join that it makes is one.
use Rattle.std.specs.Prelude.{◌≡◌, ◌≢◌, ℕ, ◌<◌, ◌≤◌, ◌⊎◌, List, [], ◌∷◌, ◌++◌, slice_index, slice_set, Some, IsSome}
use mathlib.Core.Option.{some}
use lib.ListN.{get_elem?}
use Rattle.smr_core.specs.declared.clock_core.ClockConfig.{ClockConfig}
use Rattle.smr_core.specs.declared.holder.Holder.{Holder}
use Rattle.smr_core.specs.declared.holder.Phase.TheVariants as phase
use Rattle.smr_core.specs.declared.holder.Task.TheVariants as task
use Rattle.smr_core.specs.ClockState.{write_place, read_place, seat_place, presence_place, place_after_seats, write_hand, read_hand}
use Rattle.smr_core.specs.ClockStep.{same, stored, exchanged, without, with_seat, entry_word, goal_of}
use Rattle.smr_clock.specs.declared.clock.Setup.{Setup}
use Rattle.smr_clock.specs.declared.view.View.{View}
use Rattle.smr_clock.specs.Views.{spent_view}
use Rattle.smr_clock.specs.Clocked.{Clocked}
use Rattle.smr_clock.specs.Steps as step
use Rattle.smr_clock.specs.HostSteps.{IsHand, with_host, looked}

-- the words and the views of a clock's table at a moment
abbrev pub Moment : Type 0 → Type 0
Moment P = List ℕ × List (View P)

-- ---- the clock's own steps on a word

-- which step it is; a store names its seat, and so do leave and come
pub data Kind : Type 0 where
  WriteLook : Kind
  ReadLook : Kind
  EnterLoad : Kind
  EnterStore : ℕ → Kind
  EnterCheck : Kind
  Clear : ℕ → Kind
  Leave : ℕ → Kind
  Come : ℕ → Kind
  AdvanceRead : Kind
  AdvanceLoad : Kind
  AdvanceSwap : Kind
  PollRead : Kind
  PollLoad : Kind
  PollPresent : Kind
  PollScan : Kind
  PollSwap : Kind

-- what the step needs of the seat that takes it
abbrev pub Needs : {P : Type 0} → Kind → View P → Type 0
Needs WriteLook v = Unit {0}
Needs ReadLook v = Unit {0}
Needs EnterLoad v = v.holder.phase ≡ phase.Outside
Needs (EnterStore s) v = (v.holder.seat ≡ Some s) × (v.holder.phase ≡ phase.Loaded)
Needs EnterCheck v = v.holder.phase ≡ phase.Stored
Needs (Clear s) v = (v.holder.seat ≡ Some s) × ((v.holder.phase ≡ phase.Inside) ⊎ (v.holder.phase ≡ phase.Late))
Needs (Leave s) v = (v.holder.seat ≡ Some s) × (v.holder.phase ≡ phase.Outside) × (v.holder.task ≡ task.Idle)
Needs (Come s) v = (v.holder.seat ≡ Some s) × (v.holder.phase ≡ phase.Vacant)
Needs AdvanceRead v = IsSome v.holder.seat × (v.holder.phase ≢ phase.Vacant)
Needs AdvanceLoad v = v.holder.task ≡ task.AdvRead
Needs AdvanceSwap v = v.holder.task ≡ task.AdvLoaded
Needs PollRead v = v.holder.phase ≢ phase.Vacant
Needs PollLoad v = v.holder.task ≡ task.PollRead
Needs PollPresent v = v.holder.task ≡ task.PollLoaded
Needs PollScan v = (v.holder.task ≡ task.Scanning) × (v.holder.scanned < v.setup.config.seats)
Needs PollSwap v = (v.holder.task ≡ task.Scanning) × (v.holder.scanned ≡ v.setup.config.seats)

-- the place of the word that it acts on
abbrev pub place : Kind → ClockConfig → Holder → ℕ
place WriteLook a h = write_place
place ReadLook a h = read_place
place EnterLoad a h = write_place
place (EnterStore s) a h = seat_place s
place EnterCheck a h = write_place
place (Clear s) a h = seat_place s
place (Leave s) a h = presence_place a
place (Come s) a h = presence_place a
place AdvanceRead a h = read_place
place AdvanceLoad a h = write_place
place AdvanceSwap a h = write_place
place PollRead a h = read_place
place PollLoad a h = write_place
place PollPresent a h = presence_place a
place PollScan a h = seat_place h.scanned
place PollSwap a h = read_place

-- what it leaves in that word, of what it finds there
abbrev pub leaves : Kind → Holder → ℕ → ℕ
leaves WriteLook h = same
leaves ReadLook h = same
leaves EnterLoad h = same
leaves (EnterStore s) h = stored (entry_word h)
leaves EnterCheck h = same
leaves (Clear s) h = stored 0
leaves (Leave s) h = without s
leaves (Come s) h = with_seat s
leaves AdvanceRead h = same
leaves AdvanceLoad h = same
leaves AdvanceSwap h = exchanged h.write (goal_of h)
leaves PollRead h = same
leaves PollLoad h = same
leaves PollPresent h = same
leaves PollScan h = same
leaves PollSwap h = exchanged h.read h.least

-- the view of the seat after it, of what it finds
abbrev pub view_after : {P : Type 0} → Kind → View P → ℕ → View P
view_after WriteLook v found = step.write_looking v found
view_after ReadLook v found = step.read_looking v found
view_after EnterLoad v found = step.enter_loading v found
view_after (EnterStore s) v found = step.enter_storing v
view_after EnterCheck v found = step.enter_checking v found
view_after (Clear s) v found = step.clearing v
view_after (Leave s) v found = step.leaving v
view_after (Come s) v found = step.coming v
view_after AdvanceRead v found = step.advance_reading v found
view_after AdvanceLoad v found = step.advance_loading v found
view_after AdvanceSwap v found = step.advance_swapping v found
view_after PollRead v found = step.poll_reading v found
view_after PollLoad v found = step.poll_loading v found
view_after PollPresent v found = step.poll_presenting v found
view_after PollScan v found = step.poll_scanning v found
view_after PollSwap v found = step.poll_swapping v found

-- The seat id takes a step of this kind.
pub record Acts {P : Type 0} (a : Setup) (now next : Moment P) : Type 0 where
  pub id : ℕ
  pub v : View P
  pub kind : Kind
  pub there : get_elem? now.1 id ≡ some v
  pub own : v.setup ≡ a
  pub needs : Needs kind v
  pub after :
      let word = place kind v.setup.config v.holder in
      let found = slice_index now.0 word in
      next ≡ (slice_set now.0 word (leaves kind v.holder found), slice_set now.1 id (view_after kind v found))

-- ---- a host's steps on a word

-- The seat id steps on a word of the host's, whatever the step leaves there, and whatever becomes of the host part.
pub record HostActs {P : Type 0} (a : Setup) (now next : Moment P) : Type 0 where
  pub id : ℕ
  pub v : View P
  pub word : ℕ
  pub left : ℕ
  pub part : P
  pub there : get_elem? now.1 id ≡ some v
  pub own : v.setup ≡ a
  pub of_host : place_after_seats a.config ≤ word
  pub after : next ≡ (slice_set now.0 word left, slice_set now.1 id (with_host v part))

-- The host's seat id loads a hand, whatever becomes of the host part.
pub record HandLoads {P : Type 0} (a : Setup) (now next : Moment P) : Type 0 where
  pub id : ℕ
  pub v : View P
  pub word : ℕ
  pub part : P
  pub there : get_elem? now.1 id ≡ some v
  pub own : v.setup ≡ a
  pub of_hand : IsHand word
  pub after : next ≡ (slice_set now.0 word (slice_index now.0 word), slice_set now.1 id (with_host (looked v word (slice_index now.0 word)) part))

-- ---- splits and joins, whatever becomes of host parts

-- A note, or a host's seat, is split off.
pub record SplitsOff {P : Type 0} (a : Setup) (now next : Moment P) : Type 0 where
  pub id : ℕ
  pub v : View P
  pub part : P
  pub copied : P → P
  pub there : get_elem? now.1 id ≡ some v
  pub own : v.setup ≡ a
  pub after : next ≡ (now.0, slice_set now.1 id (with_host v part) ++ step.note_view copied v ∷ [])

-- The worker of the next seat is split off the first view, which makes them.
pub record MakesWorker {P : Type 0} (a : Setup) (now next : Moment P) : Type 0 where
  pub v : View P
  pub count : ℕ
  pub copied : P → P
  pub there : get_elem? now.1 0 ≡ some v
  pub own : v.setup ≡ a
  pub made : v.made ≡ Some count
  pub below : count < a.config.seats
  pub after : next ≡ (now.0, slice_set now.1 0 (step.one_more_made v) ++ step.worker_view copied v ∷ [])

-- A note, or a host's seat, is taken in, and is spent.
pub record TakesIn {P : Type 0} (a : Setup) (now next : Moment P) : Type 0 where
  pub id : ℕ
  pub v : View P
  pub at : ℕ
  pub note : View P
  pub merged : P → P → P
  pub blank : P
  pub there : get_elem? now.1 id ≡ some v
  pub note_there : get_elem? now.1 at ≡ some note
  pub apart : at ≡ id → ⊥
  pub own : v.setup ≡ a
  pub is_note : note.holder.phase ≡ phase.Note
  pub after : next ≡ (now.0, slice_set (slice_set now.1 id (step.joined_view merged v note)) at (spent_view blank))

-- ---- steps and runs

-- one step leads from the one moment to the next
pub data IsStep {P : Type 0} (a : Setup) (now next : Moment P) : Type 0 where
  acts : Acts a now next → IsStep a now next
  host_acts : HostActs a now next → IsStep a now next
  hand_loads : HandLoads a now next → IsStep a now next
  splits_off : SplitsOff a now next → IsStep a now next
  makes_worker : MakesWorker a now next → IsStep a now next
  takes_in : TakesIn a now next → IsStep a now next

-- from one moment on, these follow one after another, by a step each
abbrev pub Run : {P : Type 0} → Setup → Moment P → List (Moment P) → Type 0
Run a now [] = Unit {0}
Run a now (next ∷ rest) = IsStep a now next × Run a next rest

-- the clock's law holds at the next moment, and neither hand is lower
pub record NoLower {P : Type 0} (a : Setup) (now next : Moment P) : Type 0 where
  pub law : Clocked a next.0 next.1
  pub write_not_lower : write_hand now.0 ≤ write_hand next.0
  pub read_not_lower : read_hand now.0 ≤ read_hand next.0

-- Each step from a moment at which the clock's law holds leads to such a one, and neither hand falls.
abbrev pub StepsLowerNoHand : Type 0 → Setup → Type 0
StepsLowerNoHand P a = (now next : Moment P) → Clocked a now.0 now.1 → IsStep a now next → NoLower a now next
