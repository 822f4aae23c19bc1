-- What a schedule prints (own): the line of each step that is taken, for what the step saw, and at last the sequences. The
-- steps are those of the core, from its opening. A schedule whose step is refused prints nothing.
use Rattle.std.specs.Prelude.{ℕ, ◌≡◌, ◌≢◌, List, [], ◌∷◌, ◌++◌, map, take, slice_get, Bool, true, false, Some, codes}
use Rattle.std.specs.List.{flat_map}
use Rattle.std.specs.Fmt.{decimal}
use Rattle.smr_core.specs.declared.clock_core.ClockConfig.{ClockConfig}
use Rattle.smr_core.specs.declared.turns.Seen.{Seen}
use Rattle.smr_core.specs.declared.turns.Seen.TheVariants.{Hand, Done, Inside, Late, Spent, TooFar, Goal, Yes, No, Word, Present, Holder}
use Rattle.smr_core.specs.declared.turns.StepRefused.{StepRefused}
use Rattle.smr_core.specs.declared.turns.StepRefused.TheVariants as refusals
use Rattle.smr_core.specs.declared.turns.Turn.{Turn}
use Rattle.smr_core.specs.ClockState.{read_hand, write_hand}
use Rattle.smr_core.specs.CoreState.{State, opening}
use Rattle.smr_core.specs.CoreStep.{StepIsRefused}
use Rattle.smr_core.specs.Turns.{IsTurn, TurnRun, first_step}
use Rattle.trace_schedule.specs.declared.schedule.Schedule.{Schedule}
use Rattle.trace_schedule.specs.declared.schedule.TurnLine.{TurnLine}
use Rattle.trace_schedule.specs.declared.schedule.Version.{Version}
use Rattle.trace_schedule.specs.declared.schedule.Version.TheVariants as versions
use Rattle.trace_schedule.specs.declared.schedule.ScheduleRefused.{ScheduleRefused}
use Rattle.trace_schedule.specs.declared.schedule.ScheduleRefused.TheVariants as schedule_refused
use Rattle.trace_lines.specs.CanonicalLine.{line}

-- ---- the lines that are printed

-- whether it was this advance that moved the write sequence to its goal
abbrev pub moved_word : Bool → List ℕ
moved_word true = codes "moved"
moved_word false = codes "kept"

-- the line of an advance's exchange, and that of a seat's word
abbrev pub goal_line : ℕ → Bool → List ℕ
goal_line goal moved = line (codes "goal" ∷ decimal goal ∷ moved_word moved ∷ [])

abbrev pub word_line : ℕ → ℕ → ℕ → List ℕ
word_line seat word least = line (codes "word" ∷ decimal seat ∷ decimal word ∷ codes "least" ∷ decimal least ∷ [])

-- the set of the seats that have a worker, as a number: version 1 knows of no such set
abbrev pub present_line : Version → ℕ → List ℕ
present_line versions.One seats = []
present_line versions.Two seats = line (codes "present" ∷ decimal seats ∷ [])

-- the line of a step that saw this
abbrev pub seen_line : Version → Seen → List ℕ
seen_line version (Hand value) = line (codes "hand" ∷ decimal value ∷ [])
seen_line version Done = line (codes "done" ∷ [])
seen_line version (Inside loaded found) = line (codes "in" ∷ decimal loaded ∷ decimal found ∷ [])
seen_line version (Late loaded found) = line (codes "late" ∷ decimal loaded ∷ decimal found ∷ [])
seen_line version (Spent write) = line (codes "spent" ∷ decimal write ∷ [])
seen_line version (TooFar read write) = line (codes "toofar" ∷ decimal read ∷ decimal write ∷ [])
seen_line version (Goal goal moved) = goal_line goal moved
seen_line version (Yes read) = line (codes "yes" ∷ decimal read ∷ [])
seen_line version (No read) = line (codes "no" ∷ decimal read ∷ [])
seen_line version (Word seat word least) = word_line seat word least
seen_line version (Present seats) = present_line version seats
seen_line version (Holder number) = line (codes "holder" ∷ decimal number ∷ [])

-- the line of `end`: the read sequence and the write sequence
abbrev pub hands_line : State → List ℕ
hands_line s = line (codes "hands" ∷ decimal (read_hand s.words) ∷ decimal (write_hand s.words) ∷ [])

-- ---- what a schedule prints

-- the numbers of its clock
abbrev pub config_of : Schedule → ClockConfig
config_of schedule = record { start = schedule.start; window = schedule.window; seats = schedule.seats }

abbrev pub turns_of : List TurnLine → List Turn
turns_of lines = map (λ (l : TurnLine). l.turn) lines

-- From s the lines of a schedule of this version, one after another, print these bytes, and lead to s'.
pub record Prints (version : Version) (s : State) (lines : List TurnLine) (bytes : List ℕ) (s' : State) : Type 0 where
  pub sees : List (List Seen)
  pub run : TurnRun s (turns_of lines) sees s'
  pub text : bytes ≡ flat_map (λ (saw : List Seen). flat_map (seen_line version) saw) sees

-- The schedule's whole output is these bytes.
pub record IsOutput (schedule : Schedule) (bytes : List ℕ) : Type 0 where
  pub last : State
  pub printed : List ℕ
  pub prints : Prints schedule.version (opening (config_of schedule)) schedule.lines printed last
  pub text : bytes ≡ printed ++ hands_line last

-- ---- the refusal of a step

-- The line l is refused so in the state s.
pub record RefusesLine (s : State) (l : TurnLine) (refused : StepRefused) : Type 0 where
  pub step : StepIsRefused s (first_step l.turn) refused
  pub not_memory : refused ≢ refusals.Memory

-- The line of place n is the first that is refused: the lines before it were taken.
pub record RefusedAt (schedule : Schedule) (n : ℕ) (l : TurnLine) (refused : StepRefused) : Type 0 where
  pub there : slice_get schedule.lines n ≡ Some l
  pub mid : State
  pub printed : List ℕ
  pub before : Prints schedule.version (opening (config_of schedule)) (take n schedule.lines) printed mid
  pub refuses : RefusesLine mid l refused

-- Why a schedule isn't played: a step is refused, the first one, which stands with its line; or memory was wanting.
abbrev pub RefusesSchedule : Schedule → ScheduleRefused → Type 0
RefusesSchedule schedule (schedule_refused.Step at refused) =
    (n : ℕ) × ((l : TurnLine) × (l.line ≡ at) × RefusedAt schedule n l refused)
RefusesSchedule schedule schedule_refused.Memory = Unit {0}

-- ---- one line; no public clause cites these

-- the refusal of a step at this line
abbrev pub refused_at : ℕ → StepRefused → ScheduleRefused
refused_at at refusals.Memory = schedule_refused.Memory
refused_at at refused = schedule_refused.Step at refused

-- The line was taken, and what it prints was appended.
pub record PrintsLine (version : Version) (s : State) (l : TurnLine) (before bytes : List ℕ) (s' : State) : Type 0 where
  pub saw : List Seen
  pub turn : IsTurn s l.turn saw s'
  pub text : bytes ≡ before ++ flat_map (seen_line version) saw

abbrev pub RefusesTurnLine : State → TurnLine → ScheduleRefused → Type 0
RefusesTurnLine s l (schedule_refused.Step at refused) = (l.line ≡ at) × RefusesLine s l refused
RefusesTurnLine s l schedule_refused.Memory = Unit {0}
