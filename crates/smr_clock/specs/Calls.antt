-- What a clock's calls ask of a pass, a note or a seat, and what they leave of it.
use Rattle.std.specs.Prelude.{◌≡◌, ◌≢◌, ◌≤◌, ◌<◌, ◌-◌, ◌+◌, ◌^◌, ◌⊎◌, ℕ, max, IsSome, Bool, true, false, List, [], Result, IfOk, IfErr, OnOk}
use Rattle.atomic_table.specs.declared.shared.Seat.{Seat}
use Rattle.smr_core.specs.declared.turns.FoundWord.{FoundWord}
use Rattle.smr_core.specs.declared.holder.Holder.{Holder}
use Rattle.smr_core.specs.declared.holder.Phase.{Phase}
use Rattle.smr_core.specs.declared.holder.Phase.TheVariants as phase
use Rattle.smr_core.specs.declared.holder.Task.{Task}
use Rattle.smr_core.specs.declared.holder.Task.TheVariants as task
use Rattle.smr_core.specs.ClockState.{IsSeatWord, next_present}
use Rattle.smr_clock.specs.declared.clock.Setup.{Setup}
use Rattle.smr_clock.specs.declared.view.View.{View}
use Rattle.smr_clock.specs.declared.host.Host.{Ghosts}
use Rattle.smr_clock.specs.declared.host.HostAct.{HostAct}
use Rattle.smr_clock.specs.declared.host.HostSeat.{HostSeat}
use Rattle.smr_clock.specs.declared.clock.Clock.{Clock}
use Rattle.smr_clock.specs.declared.pass.Goal.{Goal}
use Rattle.smr_clock.specs.declared.pass.Note.{Note}
use Rattle.smr_clock.specs.declared.pass.Pass.{Pass}
use Rattle.smr_clock.specs.declared.polls.AdvanceRefused.{AdvanceRefused}
use Rattle.smr_clock.specs.declared.polls.Overtaken.{Overtaken}
use Rattle.smr_clock.specs.declared.pass.Vacancy.{Vacancy}
use Rattle.smr_clock.specs.Advances.{Advances, AdvanceIsRefused, SameWorker}
use Rattle.smr_clock.specs.Belongs.{TableId, IsPassOf, holder, knows, seat_clock}
use Rattle.smr_clock.specs.Goals.{number_of, tag_of}
use Rattle.smr_clock.specs.HostSteps.{Change, HostStepped, SeatStepped, HostSplits}
use Rattle.smr_clock.specs.Notes.{IsNoteOf, IsSeatOf, note_knows, note_holder, note_table, seat_knows, seat_table}
use Rattle.smr_clock.specs.Polls.{scanned_view, OneWordEach, Polls, SaysNo}
use Rattle.smr_clock.specs.Sections.{Checks, IsOvertaken, Enters, Misses}
use Rattle.smr_clock.specs.Steps.{IsReadFound, IsWriteFound, write_looking, read_looking, enter_loading, advance_loading, poll_presenting, poll_scanning}
use Rattle.smr_clock.specs.Vacancies.{IsVacancyOf, vacancy_knows}

-- ---- one step of a seat of the clock's table

module _ {P : Type 0} where
  -- the seat is of this clock, and in the midst of this
  pub record IsInTask (clock : TableId × Setup) (doing : Task) (seat : Seat (Unit {0}) (View P)) : Type 0 where
    pub here : seat_clock seat ≡ clock
    pub task : (knows seat).holder.task ≡ doing

  -- the write sequence was found so, and this is what the seat knows now
  pub record FindsWrite (clock : TableId × Setup) (was : Holder) (write : ℕ) (after : View P) (seat : Seat (Unit {0}) (View P)) : Type 0 where
    pub here : seat_clock seat ≡ clock
    pub found : IsWriteFound was write
    pub view : knows seat ≡ after

  -- likewise the read sequence
  pub record FindsRead (clock : TableId × Setup) (was : Holder) (read : ℕ) (after : View P) (seat : Seat (Unit {0}) (View P)) : Type 0 where
    pub here : seat_clock seat ≡ clock
    pub found : IsReadFound was read
    pub view : knows seat ≡ after

  -- a look at the write sequence, which is never below the read sequence
  pub record LooksAtWrite (clock : TableId × Setup) (was : View P) (write : ℕ) (seat : Seat (Unit {0}) (View P)) : Type 0 where
    pub here : seat_clock seat ≡ clock
    pub found : IsWriteFound was.holder write
    pub above_read : was.holder.floor ≤ write
    pub view : knows seat ≡ write_looking was write

  -- ---- of an advance

  -- the seat is of this clock, and has a worker
  pub record IsWorkerOf (clock : TableId × Setup) (seat : Seat (Unit {0}) (View P)) : Type 0 where
    pub here : seat_clock seat ≡ clock
    pub worker : IsSome (knows seat).holder.seat × ((knows seat).holder.phase ≢ phase.Vacant)

  pub record LoadsWrite (clock : TableId × Setup) (was : View P) (write : ℕ) (seat : Seat (Unit {0}) (View P)) : Type 0 where
    pub here : seat_clock seat ≡ clock
    pub found : IsWriteFound was.holder write
    pub kept : SameWorker was.holder (knows seat).holder
    pub view : knows seat ≡ advance_loading was write

  -- the advance has loaded this write sequence, above which there is room
  pub record MayExchangeWrite (clock : TableId × Setup) (hand : ℕ) (seat : Seat (Unit {0}) (View P)) : Type 0 where
    pub here : seat_clock seat ≡ clock
    pub loaded : (knows seat).holder.task ≡ task.AdvLoaded
    pub write : (hand ≡ (knows seat).holder.write) × (hand + 2 < 2 ^ 63)

  -- ---- of a poll

  -- the poll has loaded both sequences
  pub record MayMoveRead (clock : TableId × Setup) (read write : ℕ) (seat : Seat (Unit {0}) (View P)) : Type 0 where
    pub here : seat_clock seat ≡ clock
    pub loaded : (knows seat).holder.task ≡ task.PollLoaded
    pub hands : ((knows seat).holder.read ≡ read) × ((knows seat).holder.write ≡ write)

  pub record FindsPresent (clock : TableId × Setup) (was : View P) (present : ℕ) (seat : Seat (Unit {0}) (View P)) : Type 0 where
    pub here : seat_clock seat ≡ clock
    pub found : present < 2 ^ clock.1.config.seats
    pub view : knows seat ≡ poll_presenting was present

  -- it has loaded the presence word too, and no word of a seat yet
  pub record MayScan (clock : TableId × Setup) (read write present : ℕ) (seat : Seat (Unit {0}) (View P)) : Type 0 where
    pub here : seat_clock seat ≡ clock
    pub scanning : (knows seat).holder.task ≡ task.Scanning
    pub hands : ((knows seat).holder.read ≡ read) × ((knows seat).holder.write ≡ write)
    pub set : (knows seat).holder.present ≡ present
    pub fresh : knows seat ≡ scanned_view (knows seat) [] (next_present clock.1.config present 0)

  -- it has loaded the word of each seat in that set
  pub record Scans (clock : TableId × Setup) (was : View P) (present answer : ℕ) (seat : Seat (Unit {0}) (View P)) : Type 0 where
    pub here : seat_clock seat ≡ clock
    pub scanned : (words : List FoundWord) × OneWordEach clock.1.config.seats present words × (knows seat ≡ scanned_view was words clock.1.config.seats)
    pub least : answer ≡ (knows seat).holder.least

  -- the word of this seat is the next
  pub record MayLoadWord (clock : TableId × Setup) (number : ℕ) (seat : Seat (Unit {0}) (View P)) : Type 0 where
    pub here : seat_clock seat ≡ clock
    pub scanning : (knows seat).holder.task ≡ task.Scanning
    pub next : (knows seat).holder.scanned ≡ number
    pub known : number < clock.1.config.seats

  pub record FindsWord (clock : TableId × Setup) (was : View P) (found : ℕ) (seat : Seat (Unit {0}) (View P)) : Type 0 where
    pub here : seat_clock seat ≡ clock
    pub word : IsSeatWord found
    pub view : knows seat ≡ poll_scanning was found

  -- all words are loaded, and this is the least mark
  pub record MayExchangeRead (clock : TableId × Setup) (read least : ℕ) (seat : Seat (Unit {0}) (View P)) : Type 0 where
    pub here : seat_clock seat ≡ clock
    pub scanning : (knows seat).holder.task ≡ task.Scanning
    pub scanned : (knows seat).holder.scanned ≡ clock.1.config.seats
    pub hands : ((knows seat).holder.read ≡ read) × ((knows seat).holder.least ≡ least)

module _ {H P : Type 0} {g : Ghosts H P} where
  -- ---- passes

  -- the pass is of this clock, and stands so with its section
  pub record IsInPhase (clock : Clock H P) (at : Phase) (pass : Pass H P g) : Type 0 where
    pub here : IsPassOf clock pass
    pub phase : (holder pass).phase ≡ at

  -- the pass is of this clock, and in a section, or too late for one
  pub record IsInOrLate (clock : Clock H P) (pass : Pass H P g) : Type 0 where
    pub here : IsPassOf clock pass
    pub in_or_late : ((holder pass).phase ≡ phase.Inside) ⊎ ((holder pass).phase ≡ phase.Late)

  -- the pass is of this clock still, and this is what it knows now
  pub record Becomes (clock : Clock H P) (after : View P) (pass : Pass H P g) : Type 0 where
    pub here : IsPassOf clock pass
    pub view : knows pass.seat ≡ after

  -- so is the vacancy that a pass became
  pub record BecomesVacancy (clock : Clock H P) (after : View P) (vacancy : Vacancy H P g) : Type 0 where
    pub here : IsVacancyOf clock vacancy
    pub view : vacancy_knows vacancy ≡ after

  -- the pass has loaded the write sequence for an enter
  pub record LoadsEnter (clock : Clock H P) (old new : Pass H P g) : Type 0 where
    pub here : IsPassOf clock new
    pub loaded : IsWriteFound (holder old) (holder new).loaded
    pub view : knows new.seat ≡ enter_loading (knows old.seat) (holder new).loaded

  -- The third step of an enter: the pass is in a section, or came too late.
  pub record ChecksEnter (clock : Clock H P) (old : Pass H P g) (answer : Result (Unit {0}) Overtaken) (new : Pass H P g) : Type 0 where
    pub here : IsPassOf clock new
    pub entered : OnOk answer (Checks (knows old.seat) (knows new.seat))
    pub overtaken : IfErr answer (λ why. IsOvertaken (knows old.seat) why (knows new.seat))

  -- so it is after all three
  pub record TakesEnter (clock : Clock H P) (old : Pass H P g) (answer : Result (Unit {0}) Overtaken) (new : Pass H P g) : Type 0 where
    pub here : IsPassOf clock new
    pub entered : OnOk answer (Enters (knows old.seat) (knows new.seat))
    pub overtaken : IfErr answer (λ why. Misses (knows old.seat) why (knows new.seat))

  -- The pass answers a goal, or is refused. It stands with its section as it did.
  pub record TakesAdvance (clock : Clock H P) (old : Pass H P g) (answer : Result Goal AdvanceRefused) (new : Pass H P g) : Type 0 where
    pub here : IsPassOf clock new
    pub phase : (holder new).phase ≡ (holder old).phase
    pub advanced : IfOk answer (λ goal. Advances (knows old.seat) (number_of goal) (knows new.seat))
    pub refused : IfErr answer (λ why. AdvanceIsRefused (knows old.seat) why (knows new.seat))

  -- both sequences were found so, the read sequence first
  pub record FindsHands (clock : Clock H P) (old : Pass H P g) (found : ℕ × ℕ) (new : Pass H P g) : Type 0 where
    pub here : IsPassOf clock new
    pub read : IsReadFound (holder old) found.0
    pub write : IsWriteFound (read_looking (knows old.seat) found.0).holder found.1
    pub in_order : found.0 ≤ found.1
    pub seen : (holder new).seen ≡ found.1
    pub floor : (holder new).floor ≡ max found.0 (found.1 - (knows old.seat).setup.config.window)
    pub view : knows new.seat ≡ write_looking (read_looking (knows old.seat) found.0) found.1

  -- ---- notes

  -- both are of this clock
  pub record AreOf (clock : Clock H P) (pass : Pass H P g) (note : Note H P g) : Type 0 where
    pub here : IsPassOf clock pass
    pub note_here : IsNoteOf clock note

  -- the note is of this clock, and has seen the goal
  pub record MayPoll (clock : Clock H P) (goal : Goal) (note : Note H P g) : Type 0 where
    pub here : IsNoteOf clock note
    pub seen : number_of goal ≤ (note_holder note).seen

  -- A poll of the goal: from a yes the note knows that the goal is expired, a no says why, and either says what the poll did.
  pub record TakesPoll (clock : Clock H P) (old : Note H P g) (goal : Goal) (answer : Bool) (new : Note H P g) : Type 0 where
    pub here : IsNoteOf clock new
    pub yes : answer ≡ true → number_of goal ≤ (note_holder new).floor
    pub no : answer ≡ false → SaysNo (note_knows old) (tag_of goal) (note_knows new)
    pub polls : Polls (note_knows old) (tag_of goal) answer (note_knows new)

  -- ---- seats of the host's own

  -- the same seat of the table, as a seat of the host's
  pub record IsHostSeatOf (note : Note H P g) (seat : HostSeat H P g) : Type 0 where
    pub view : seat_knows seat ≡ note_knows note
    pub table : seat_table seat ≡ note_table note

  -- and as a note
  pub record IsNoteOfSeat (seat : HostSeat H P g) (note : Note H P g) : Type 0 where
    pub view : note_knows note ≡ seat_knows seat
    pub table : note_table note ≡ seat_table seat

  -- the pass is of this clock still, and took this step on a word of the host's
  pub record TakesHostStep (clock : Clock H P) (was : View P) (word : ℕ) (act : HostAct) (changes : Change P) (found : ℕ) (pass : Pass H P g) : Type 0 where
    pub here : IsPassOf clock pass
    pub stepped : HostStepped was word act changes found (knows pass.seat)

  -- so did the host's seat, whose step may also be a load of a hand
  pub record TakesSeatStep (clock : Clock H P) (was : View P) (word : ℕ) (act : HostAct) (changes : Change P) (found : ℕ) (seat : HostSeat H P g) : Type 0 where
    pub here : IsSeatOf clock seat
    pub stepped : SeatStepped was word act changes found (seat_knows seat)

  pub record LooksFromSeat (clock : Clock H P) (old : HostSeat H P g) (write : ℕ) (new : HostSeat H P g) : Type 0 where
    pub here : IsSeatOf clock new
    pub same : new.seat.id ≡ old.seat.id
    pub found : IsWriteFound (seat_knows old).holder write
    pub view : seat_knows new ≡ write_looking (seat_knows old) write

  -- both seats are of this clock, and the one was split off the other
  pub record SplitsSeat (clock : Clock H P) (left right : P → P) (old new other : HostSeat H P g) : Type 0 where
    pub here : IsSeatOf clock new
    pub other_here : IsSeatOf clock other
    pub splits : HostSplits left right (seat_knows old) (seat_knows new) (seat_knows other)

  -- the seat is of this clock still, and this is what it knows now
  pub record BecomesSeat (clock : Clock H P) (after : View P) (seat : HostSeat H P g) : Type 0 where
    pub here : IsSeatOf clock seat
    pub view : seat_knows seat ≡ after

-- a step of the seat on a word of the host's
pub record StepsOnWord {P : Type 0} (table : TableId) (old : Seat (Unit {0}) (View P)) (word : ℕ) (act : HostAct) (changes : Change P) (found : ℕ) (new : Seat (Unit {0}) (View P)) : Type 0 where
  pub here : new.table_id ≡ table
  pub same : (new.id ≡ old.id) × (new.me.1 ≡ old.me.1)
  pub stepped : HostStepped old.me.0 word act changes found new.me.0
