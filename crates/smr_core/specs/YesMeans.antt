-- What a poll's yes means, for one step and over every run of the core, and the other laws over runs. The rule is that of the comment on FreeBSD's subr_smr.c; the form is own.
use Rattle.std.specs.Prelude.{◌≡◌, ℕ, ◌-◌, ◌^◌, ◌≤◌, ◌⊎◌, Bool, List, Contains}
use Rattle.smr_seq.specs.Reading.{low, IsReading}
use Rattle.smr_core.specs.declared.clock_core.ClockConfig.{ClockConfig}
use Rattle.smr_core.specs.declared.steps.Actor.{Actor}
use Rattle.smr_core.specs.declared.holder.Task.TheVariants as task
use Rattle.smr_core.specs.declared.turns.Step.{Step}
use Rattle.smr_core.specs.declared.turns.Step.TheVariants.{EnterCheck, Clear, AdvanceSwap, PollRead, PollLoad, PollSwap}
use Rattle.smr_core.specs.declared.turns.Seen.{Seen}
use Rattle.smr_core.specs.declared.turns.Seen.TheVariants as seen
use Rattle.smr_core.specs.ClockState.{IsInRange, write_hand, read_hand, IsInSection, IsBefore, IsExpired}
use Rattle.smr_core.specs.ClockLaw.{HandsFit}
use Rattle.smr_core.specs.CoreState.{State, IsActor, opening}
use Rattle.smr_core.specs.CoreStep.{IsStep, Run}

-- ---- one step

-- A poll of this tag that loaded the write sequence l says yes, where it last found the read sequence v: the tag has no reading near l, or one that v has come to.
abbrev pub SaysYes : ℕ → ℕ → ℕ → Type 0
SaysYes tag l v = (x : ℕ) → IsReading tag l x → x ≤ v

-- Then a holder that knows of the read sequence what both loads of the poll taught it, knows that each number up to l with this low half is expired. The number is the reading, or it lies more than the window below l.
abbrev pub YesIsKnown : Type 0
YesIsKnown =
    (window tag l v floor g : ℕ) → window ≤ 2 ^ 30 → v ≤ floor → l - window ≤ floor → SaysYes tag l v → g ≤ l → low g ≡ tag → g ≤ floor

-- Then each number up to l with this low half is expired.
abbrev pub YesMeansExpired : Type 0
YesMeansExpired =
    (a : ClockConfig) (ws : List ℕ) → IsInRange a → HandsFit a ws
    → (tag l v g : ℕ) → l ≤ write_hand ws → v ≤ read_hand ws → SaysYes tag l v → g ≤ l → low g ≡ tag → IsExpired ws g

-- ---- runs

-- the state is one that a new core comes to
pub record IsReached (s : State) : Type 0 where
  pub config : ClockConfig
  pub in_range : IsInRange config
  pub steps : List Step
  pub saw : List Seen
  pub run : Run (opening config) steps saw s

-- the one state, and then the other, or the same
pub record LeadsTo (s later : State) : Type 0 where
  pub steps : List Step
  pub saw : List Seen
  pub run : Run s steps saw later

-- no section is open whose entry mark is below the goal
abbrev pub NoSectionBefore : State → ℕ → Type 0
NoSectionBefore s g = (n : ℕ) (actor : Actor) (w : ℕ) → IsActor s n actor → IsInSection actor.holder w → IsBefore w g → ⊥

-- the goal is expired, and no section is before it
abbrev pub IsOver : State → ℕ → Type 0
IsOver s g = IsExpired s.words g × NoSectionBefore s g

-- the holder n is in a poll of this tag, whose next step loads the write sequence
pub record IsPolling (s : State) (n tag : ℕ) : Type 0 where
  pub actor : Actor
  pub there : IsActor s n actor
  pub in_poll : actor.holder.task ≡ task.PollRead
  pub of_tag : actor.tag ≡ tag

-- the holder n begins no poll in these steps
abbrev pub NoNewPoll : ℕ → List Step → Type 0
NoNewPoll n steps = (tag : ℕ) → Contains steps (PollRead n tag) → ⊥

-- The poll goes on after its load of the write sequence, and answers yes at its exchange.
pub record YesAtSwap (s : State) (n : ℕ) (after : State) : Type 0 where
  pub hand : ℕ
  pub loaded : State
  pub load : IsStep s (PollLoad n) (seen.Hand hand) loaded
  pub steps : List Step
  pub saw : List Seen
  pub scanned : State
  pub scan : Run loaded steps saw scanned
  pub same_poll : NoNewPoll n steps
  pub read : ℕ
  pub swap : IsStep scanned (PollSwap n) (seen.Yes read) after

-- It answers yes at its load.
abbrev pub YesAtLoad : State → ℕ → State → Type 0
YesAtLoad s n after = (read : ℕ) × IsStep s (PollLoad n) (seen.Yes read) after

-- From s, where its poll loads the write sequence, the holder n comes to the answer yes, right after which the state is `after`.
abbrev pub AnswersYes : State → ℕ → State → Type 0
AnswersYes s n after = YesAtLoad s n after ⊎ YesAtSwap s n after

-- Let a poll's load find the write sequence as it is in s, and let that poll, of this tag, answer yes.
-- Each number up to that hand with this low half is over right after the answer, and for ever. Of a greater number, and by a no, nothing is said.
abbrev pub YesIsExpired : Type 0
YesIsExpired =
    (s after later : State) (n tag g : ℕ) → IsReached s → IsPolling s n tag → AnswersYes s n after → LeadsTo after later
    → g ≤ write_hand s.words → low g ≡ tag → IsOver later g

-- In particular so is each goal with this low half that an advance answered before that load.
abbrev pub GoalIsExpired : Type 0
GoalIsExpired =
    (s0 s1 s after later : State) (m n g : ℕ) (moved : Bool) → IsReached s0 → IsStep s0 (AdvanceSwap m) (seen.Goal g moved) s1 → LeadsTo s1 s
    → IsPolling s n (low g) → AnswersYes s n after → LeadsTo after later → IsOver later g

-- The tag of a poll is the one that it began with.
abbrev pub PollKeepsItsTag : Type 0
PollKeepsItsTag =
    (s0 s1 s : State) (n tag : ℕ) (saw : Seen) (steps : List Step) (sees : List Seen) → IsStep s0 (PollRead n tag) saw s1 → Run s1 steps sees s
    → NoNewPoll n steps → (actor : Actor) → IsActor s n actor → actor.holder.task ≡ task.PollRead → actor.tag ≡ tag

-- Neither hand ever falls.
abbrev pub HandsNeverFall : Type 0
HandsNeverFall = (s later : State) → IsReached s → LeadsTo s later → (read_hand s.words ≤ read_hand later.words) × (write_hand s.words ≤ write_hand later.words)

-- The write sequence is never above the read sequence by more than the window.
abbrev pub WindowIsKept : Type 0
WindowIsKept = (s : State) → IsReached s → (read_hand s.words ≤ write_hand s.words) × (write_hand s.words - read_hand s.words ≤ s.config.window)

-- Each open section's entry mark is at least the read sequence.
abbrev pub MarksAreKept : Type 0
MarksAreKept = (s : State) (n : ℕ) (actor : Actor) (w : ℕ) → IsReached s → IsActor s n actor → IsInSection actor.holder w → read_hand s.words ≤ w

-- A section's entry mark is the write sequence that its third step found, until its worker leaves it.
abbrev pub EntryIsTheThirdStep : Type 0
EntryIsTheThirdStep =
    (s after later : State) (n loaded found : ℕ) (steps : List Step) (saw : List Seen) → IsReached s → IsStep s (EnterCheck n) (seen.Inside loaded found) after
    → Run after steps saw later → (Contains steps (Clear n) → ⊥)
    → (found ≡ write_hand s.words) × ((actor : Actor) × IsActor later n actor × IsInSection actor.holder found × (actor.holder.loaded ≡ loaded))

-- ---- all of these

-- what a yes says from its poll on, for ever
pub record YesOverRuns : Type 0 where
  pub expired : YesIsExpired
  pub goals : GoalIsExpired
  pub tag : PollKeepsItsTag

-- how hands and marks stand over every run
pub record HandsAndMarksOverRuns : Type 0 where
  pub hands : HandsNeverFall
  pub window : WindowIsKept
  pub marks : MarksAreKept
  pub entry : EntryIsTheThirdStep
