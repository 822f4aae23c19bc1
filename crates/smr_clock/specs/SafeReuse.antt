-- What a yes means for who reuses memory: from then on no open section is before the goal. The rule is that of the comment on FreeBSD's subr_smr.c; the form is own.
use Rattle.std.specs.Prelude.{◌≡◌, ℕ, ◌≤◌, List, [], ◌∷◌}
use mathlib.Core.Option.{some}
use lib.ListN.{get_elem?}
use Rattle.smr_core.specs.ClockState.{read_hand, IsInSection, IsBefore, IsExpired}
use Rattle.smr_clock.specs.declared.clock.Setup.{Setup}
use Rattle.smr_clock.specs.declared.view.View.{View}
use Rattle.smr_clock.specs.Clocked.{Clocked}
use Rattle.smr_clock.specs.Moments.{Moment, Run}

-- from one moment on, these follow one after another: the clock's law holds at each, and the read sequence never falls
abbrev pub Follow : {P : Type 0} → Setup → Moment P → List (Moment P) → Type 0
Follow a now [] = Clocked a now.0 now.1
Follow a now (next ∷ rest) = Clocked a now.0 now.1 × (read_hand now.0 ≤ read_hand next.0) × Follow a next rest

-- So do those that a run of steps comes to, from any moment at which the law holds.
abbrev pub RunsFollow : Type 0 → Setup → Type 0
RunsFollow P a = (now : Moment P) (following : List (Moment P)) → Clocked a now.0 now.1 → Run a now following → Follow a now following

-- no section is open whose entry mark is below the goal
abbrev pub NoSectionBefore : {P : Type 0} → Moment P → ℕ → Type 0
NoSectionBefore {P} now goal = (id : ℕ) (v : View P) (mark : ℕ) → get_elem? now.1 id ≡ some v → IsInSection v.holder mark → IsBefore mark goal → ⊥

-- the goal is expired at this moment and at each that follows, and no section is before it
abbrev pub StaysOver : {P : Type 0} → Moment P → List (Moment P) → ℕ → Type 0
StaysOver now [] goal = IsExpired now.0 goal × NoSectionBefore now goal
StaysOver now (next ∷ rest) goal = IsExpired now.0 goal × NoSectionBefore now goal × StaysOver next rest goal

-- So it is from the moment on at which some seat knows a floor that is at least the goal, as the note of a poll does that said yes.
abbrev pub KnownIsOver : (P : Type 0) → Setup → Type 0
KnownIsOver P a =
    (now : Moment P) (following : List (Moment P)) (id : ℕ) (v : View P) (goal : ℕ)
    → Follow a now following → get_elem? now.1 id ≡ some v → goal ≤ v.holder.floor → StaysOver now following goal

-- It is so over every run of steps from that moment, at which the clock's law holds; nothing else is assumed of the later moments.
abbrev pub KnownStaysOver : (P : Type 0) → Setup → Type 0
KnownStaysOver P a =
    (now : Moment P) (following : List (Moment P)) (id : ℕ) (v : View P) (goal : ℕ)
    → Clocked a now.0 now.1 → Run a now following → get_elem? now.1 id ≡ some v → goal ≤ v.holder.floor → StaysOver now following goal
