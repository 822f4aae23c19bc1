-- What a goal means for the sections of a clock. The rule is that of the comment on FreeBSD's subr_smr.c; the form is own.
use Rattle.std.specs.Prelude.{◌≡◌, ℕ, List}
use mathlib.Core.Option.{some}
use lib.ListN.{get_elem?}
use Rattle.smr_core.specs.ClockState.{write_hand, IsInSection, IsBefore}
use Rattle.smr_clock.specs.declared.clock.Setup.{Setup}
use Rattle.smr_clock.specs.declared.view.View.{View}
use Rattle.smr_clock.specs.Clocked.{Clocked}
use Rattle.smr_clock.specs.Moments.{Moment, Run}
use Rattle.smr_clock.specs.SafeReuse.{StaysOver}

-- At each moment at which the write sequence is this one, as it is when a load finds it, each open section is before the goal.
abbrev pub CoversOpen : (P : Type 0) → Setup → ℕ → ℕ → Type 0
CoversOpen P a write goal =
    (now : Moment P) (id : ℕ) (v : View P) (mark : ℕ)
    → Clocked a now.0 now.1 → write_hand now.0 ≡ write → get_elem? now.1 id ≡ some v → IsInSection v.holder mark → IsBefore mark goal

-- From each moment on at which some seat of the clock knows this much, over every run of steps, the goal is expired and no open section is before it.
abbrev pub IsOverFrom : {P : Type 0} → View P → ℕ → Type 0
IsOverFrom {P} knows goal =
    (now : Moment P) (following : List (Moment P)) (id : ℕ)
    → Clocked knows.setup now.0 now.1 → Run knows.setup now following → get_elem? now.1 id ≡ some knows → StaysOver now following goal
