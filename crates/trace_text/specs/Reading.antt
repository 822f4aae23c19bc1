-- The reading of a trace's text (own): which slot is filled, who is in a section and who is away, by looking back over the lines.
-- A list of earlier lines has the last one first. Where a request is refused, its slot is filled in the reading all the
-- same: the reading speaks of the text, not of a run.
use Rattle.std.specs.Prelude.{ℕ, List, [], ◌∷◌, Bool, true, false, Option, Some, None, if◌then◌else◌, ◌==◌, ◌&&◌}
use Rattle.trace_text.specs.declared.trace.Op.{Op}
use Rattle.trace_text.specs.declared.trace.Op.TheVariants.{Alloc, Free, Enter, Exit, Away, Back}
use Rattle.trace_text.specs.declared.trace.Between.TheVariants.{Give, SetMax}
use Rattle.trace_text.specs.Lines.{Line, Does, Moves}

-- what the slot holds after an operation of its worker, where it held `before`: the zone whose alloc filled it
abbrev pub held_after : Op → ℕ → Option ℕ → Option ℕ
held_after (Alloc zone at arg reserve) slot before = if at == slot then Some zone else before
held_after (Free at) slot before = if at == slot then None else before
held_after op slot before = before

-- What worker `w`'s slot holds after these lines: the zone whose alloc put it in, there or in a slot from which give
-- lines moved it. The last line that names the slot decides.
abbrev pub held : List Line → ℕ → ℕ → Option ℕ
held [] w slot = None
held (Does v op ∷ earlier) w slot = if v == w then held_after op slot (held earlier w slot) else held earlier w slot
held (Moves (Give giver from taker to) ∷ earlier) w slot =
    if (taker == w) && (to == slot) then held earlier giver from
    else if (giver == w) && (from == slot) then None else held earlier w slot
held (Moves (SetMax zone limit) ∷ earlier) w slot = held earlier w slot

abbrev pub open_after : Op → Bool → Bool
open_after Enter before = true
open_after Exit before = false
open_after op before = before

-- whether worker `w` is in a section after these lines: its last enter or exit is an enter
abbrev pub in_section : List Line → ℕ → Bool
in_section [] w = false
in_section (Does v op ∷ earlier) w = if v == w then open_after op (in_section earlier w) else in_section earlier w
in_section (Moves between ∷ earlier) w = in_section earlier w

abbrev pub away_after : Op → Bool → Bool
away_after Away before = true
away_after Back before = false
away_after op before = before

-- whether worker `w` is away after these lines: its last away or back is an away
abbrev pub is_away : List Line → ℕ → Bool
is_away [] w = false
is_away (Does v op ∷ earlier) w = if v == w then away_after op (is_away earlier w) else is_away earlier w
is_away (Moves between ∷ earlier) w = is_away earlier w
