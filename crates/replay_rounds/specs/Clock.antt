-- The clock's hands when all lines are done (own).
use Rattle.std.specs.Prelude.{◌≡◌, ◌≤◌, ◌<◌, ◌+◌, ◌%◌, ℕ, List, Some, length, slice_get, slice_index_or, slice_set}
use Rattle.smr_clock.specs.declared.clock.Clock.{Clock}
use Rattle.smr_clock.specs.declared.pass.Note.{Note}
use Rattle.smr_clock.specs.declared.host.Host.{Ghosts}
use Rattle.smr_clock.specs.Belongs.{IsPassOf, holder, setup_of}
use Rattle.smr_clock.specs.Notes.{IsNoteOf, note_holder}
use Rattle.replay_worker.specs.declared.worker.Worker.{Worker}
use Rattle.replay_worker.specs.Clocks.{KnowsBeginning}
use Rattle.replay_worker.specs.Worker.{phase_of, seen_of}

module _ {H P : Type 0} {h : Ghosts H P} where
  -- where the read sequence stands at least, as a worker's pass knows
  abbrev pub floor_of : Worker H P h → ℕ
  floor_of w = (holder w.pass).floor

  -- each worker's pass is of this clock
  abbrev pub AreHere : Clock H P → List (Worker H P h) → Type 0
  AreHere clock workers = (n : ℕ) (w : Worker H P h) → slice_get workers n ≡ Some w → IsPassOf clock w.pass

  -- There is a worker, each one's pass is of this clock, and the note knows where its sequences began.
  pub record CanGather (clock : Clock H P) (workers : List (Worker H P h)) (note : Note H P h) : Type 0 where
    pub some : 0 < length workers
    pub here : AreHere clock workers
    pub begun : KnowsBeginning clock note

  -- there is a worker `n`, and each one's pass is of this clock
  pub record HasWorker (clock : Clock H P) (n : ℕ) (workers : List (Worker H P h)) : Type 0 where
    pub at : n < length workers
    pub here : AreHere clock workers

  -- a first worker and others whose passes are this clock's, and the clock's window
  pub record CanLookAt (by : Clock H P) (workers : List (Worker H P h)) (gap : ℕ) : Type 0 where
    pub at : 0 < length workers
    pub here : AreHere by workers
    pub window : gap ≡ (setup_of by).config.window

  -- the same, and a note of the clock's beginning
  pub record CanReadHands (by : Clock H P) (workers : List (Worker H P h)) (note : Note H P h) (gap : ℕ) : Type 0 where
    pub some : 0 < length workers
    pub here : AreHere by workers
    pub begun : KnowsBeginning by note
    pub window : gap ≡ (setup_of by).config.window

  -- Worker 0's pass took in what each other worker's knew, and then loaded both sequences: `write` is the write sequence, `read` its floor.
  pub record ReadsHands (clock : Clock H P) (workers : List (Worker H P h)) (read write : ℕ) : Type 0 where
    pub first : (w : Worker H P h) → slice_get workers 0 ≡ Some w → (seen_of w ≡ write) × (floor_of w ≡ read)
    pub greatest_seen : (n : ℕ) (w : Worker H P h) → slice_get workers n ≡ Some w → seen_of w ≤ write
    pub greatest_floor : (n : ℕ) (w : Worker H P h) → slice_get workers n ≡ Some w → floor_of w ≤ read
    pub read_odd : read % 2 ≡ 1
    pub write_odd : write % 2 ≡ 1
    pub start : (setup_of clock).config.start ≤ read
    pub in_order : read ≤ write
    pub within : write ≤ read + (setup_of clock).config.window

  -- A worker learned of the sequences: its pass is still of the clock and stands where it stood with its section, and forgot nothing; all else of the worker stays.
  pub record Learns (clock : Clock H P) (old new : Worker H P h) : Type 0 where
    pub seats : new.seats ≡ old.seats
    pub slots : new.slots ≡ old.slots
    pub entered : new.entered ≡ old.entered
    pub late : new.late ≡ old.late
    pub here : IsPassOf clock new.pass
    pub phase : phase_of new ≡ phase_of old
    pub seen : seen_of old ≤ seen_of new
    pub floor : floor_of old ≤ floor_of new

  -- each of the workers did
  pub record AllLearn (clock : Clock H P) (old new : List (Worker H P h)) : Type 0 where
    pub count : length new ≡ length old
    pub each : (n : ℕ) (before after : Worker H P h) → slice_get old n ≡ Some before → slice_get new n ≡ Some after → Learns clock before after

  -- a note that has what the worker's pass knows of the sequences
  pub record Tells (clock : Clock H P) (note : Note H P h) (w : Worker H P h) : Type 0 where
    pub here : IsNoteOf clock note
    pub seen : (note_holder note).seen ≡ seen_of w
    pub floor : (note_holder note).floor ≡ floor_of w

  -- the worker's pass knows what the note has
  pub record Knows (note : Note H P h) (w : Worker H P h) : Type 0 where
    pub seen : (note_holder note).seen ≤ seen_of w
    pub floor : (note_holder note).floor ≤ floor_of w

  -- worker `n` alone learned, and is this one now
  pub record LearnsAt (clock : Clock H P) (n : ℕ) (old new : List (Worker H P h)) (after : Worker H P h) : Type 0 where
    pub before : Worker H P h
    pub at : (d : Worker H P h) → slice_index_or old n d ≡ before
    pub learns : Learns clock before after
    pub set : new ≡ slice_set old n after

  -- the workers whose place is below `upto` told worker 0 what they knew, and it knew where the sequences began
  pub record Gathers (clock : Clock H P) (upto : ℕ) (old new : List (Worker H P h)) : Type 0 where
    pub learn : AllLearn clock old new
    pub seen : (n : ℕ) (first w : Worker H P h) → n < upto → slice_get new 0 ≡ Some first → slice_get new n ≡ Some w → seen_of w ≤ seen_of first
    pub floor : (n : ℕ) (first w : Worker H P h) → n < upto → slice_get new 0 ≡ Some first → slice_get new n ≡ Some w → floor_of w ≤ floor_of first
    pub start : (first : Worker H P h) → slice_get new 0 ≡ Some first → (setup_of clock).config.start ≤ floor_of first

  -- worker `n` made this note
  pub record NotesAt (clock : Clock H P) (n : ℕ) (old : List (Worker H P h)) (note : Note H P h) (new : List (Worker H P h)) : Type 0 where
    pub after : Worker H P h
    pub learns : LearnsAt clock n old new after
    pub tells : Tells clock note after

  -- worker `n` took this note in
  pub record TakesAt (clock : Clock H P) (n : ℕ) (old : List (Worker H P h)) (note : Note H P h) (new : List (Worker H P h)) : Type 0 where
    pub after : Worker H P h
    pub learns : LearnsAt clock n old new after
    pub knows : Knows note after

  -- worker `n` told worker 0 what it knew
  pub record PassesOn (clock : Clock H P) (n : ℕ) (old new : List (Worker H P h)) : Type 0 where
    pub note : Note H P h
    pub between : List (Worker H P h)
    pub gives : NotesAt clock n old note between
    pub takes : TakesAt clock 0 between note new

  -- the worker's pass loaded both sequences
  pub record Looks (clock : Clock H P) (old : Worker H P h) (read write : ℕ) (new : Worker H P h) : Type 0 where
    pub learns : Learns clock old new
    pub seen : seen_of new ≡ write
    pub floor : floor_of new ≡ read
    pub read_odd : read % 2 ≡ 1
    pub write_odd : write % 2 ≡ 1
    pub in_order : read ≤ write
    pub within : write ≤ read + (setup_of clock).config.window

  -- worker 0's did
  pub record LooksAt (clock : Clock H P) (old : List (Worker H P h)) (read write : ℕ) (new : List (Worker H P h)) : Type 0 where
    pub before : Worker H P h
    pub after : Worker H P h
    pub at : (d : Worker H P h) → slice_index_or old 0 d ≡ before
    pub looks : Looks clock before read write after
    pub set : new ≡ slice_set old 0 after
