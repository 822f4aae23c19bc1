-- The running state of a trace's reading (own): a table of all workers' slots, one worker's behind the other's, one of sections, and one of workers that are away.
use Rattle.std.specs.Prelude.{ℕ, ◌<◌, ◌≤◌, ◌+◌, ◌*◌, List, Bool, true, false, ◌&&◌, ◌==◌, if◌then◌else◌, slice_index_or}
use Rattle.trace_text.specs.declared.trace.Between.TheVariants.{Give, SetMax}
use Rattle.trace_text.specs.declared.trace.Op.{Op}
use Rattle.trace_text.specs.declared.trace.Op.TheVariants.{Alloc, Free}
use Rattle.trace_text.specs.declared.trace_reading.fields.Entry.{Entry}
use Rattle.trace_text.specs.declared.trace_reading.fields.Entry.TheVariants as entries
use Rattle.trace_text.specs.declared.trace_reading.parsed_line.ParsedLine.{ParsedLine}
use Rattle.trace_text.specs.declared.trace_reading.parsed_line.ParsedLine.TheVariants as parsed
use Rattle.trace_text.specs.declared.trace_reading.parsed_line.ZoneWork.{ZoneWork}
use Rattle.trace_text.specs.declared.trace_reading.parsed_line.ZoneWork.TheVariants as works
use Rattle.trace_text.specs.Limits.{last_slot, most_workers, slots}
use Rattle.trace_text.specs.Reading.{open_after, away_after}

-- the table says that this worker's slot is filled
abbrev pub slot_at : List Bool → ℕ → ℕ → Bool
slot_at table worker slot = slice_index_or table (worker * slots + slot) false

-- the table of workers marks this one: that of the sections, or that of those who are away
abbrev pub is_marked : List Bool → ℕ → Bool
is_marked table worker = slice_index_or table worker false

-- whether the slot is filled after an operation of its worker, where it was `before`
abbrev pub filled_by : Op → ℕ → Bool → Bool
filled_by (Alloc zone at arg reserve) slot before = if at == slot then true else before
filled_by (Free at) slot before = if at == slot then false else before
filled_by op slot before = before

-- whether a worker's slot is filled after a line, where `is_filled` says it of each slot before it
abbrev pub filled_after : Entry → (ℕ → ℕ → Bool) → ℕ → ℕ → Bool
filled_after (entries.Does v op) is_filled w slot = if v == w then filled_by op slot (is_filled w slot) else is_filled w slot
filled_after (entries.Moves (Give giver from taker to)) is_filled w slot =
    if (taker == w) && (to == slot) then is_filled giver from
    else if (giver == w) && (from == slot) then false else is_filled w slot
filled_after (entries.Moves (SetMax zone limit)) is_filled w slot = is_filled w slot
filled_after entries.Round is_filled w slot = is_filled w slot

-- the same of sections
abbrev pub opened_after : Entry → (ℕ → Bool) → ℕ → Bool
opened_after (entries.Does v op) is_open w = if v == w then open_after op (is_open w) else is_open w
opened_after (entries.Moves between) is_open w = is_open w
opened_after entries.Round is_open w = is_open w

-- the same of workers that are away
abbrev pub left_after : Entry → (ℕ → Bool) → ℕ → Bool
left_after (entries.Does v op) is_away w = if v == w then away_after op (is_away w) else is_away w
left_after (entries.Moves between) is_away w = is_away w
left_after entries.Round is_away w = is_away w

-- the slot that an operation names is one of a worker's
abbrev pub OpSlotFits : Op → Type 0
OpSlotFits (Alloc zone at arg reserve) = at ≤ last_slot
OpSlotFits (Free at) = at ≤ last_slot
OpSlotFits op = Unit {0}

abbrev pub WorkSlotFits : ZoneWork → Type 0
WorkSlotFits (works.Alloc slot arg reserve) = slot ≤ last_slot
WorkSlotFits work = Unit {0}

-- of so many workers, those that a line names are some, and so are the slots that it names of a worker's; and a `workers` line names as many as there may be
abbrev pub NamesFit : ℕ → ParsedLine → Type 0
NamesFit workers (parsed.Workers count) = count ≤ most_workers
NamesFit workers (parsed.Work worker op) = (worker < workers) × OpSlotFits op
NamesFit workers (parsed.InZone worker zone work) = (worker < workers) × WorkSlotFits work
NamesFit workers (parsed.Give giver slot taker slot2) = (giver < workers) × (slot ≤ last_slot) × (taker < workers) × (slot2 ≤ last_slot)
NamesFit workers other = Unit {0}
