-- The grammar of traces (own): `uma 1`, `uma 2` or `uma 3`, the other header lines, then what the workers do, then `end`. The test of a line
-- looks at what the earlier lines said, of which the last one comes first. Limits change from version 2 on, and workers leave and come back in version 3.
use Rattle.std.specs.Prelude.{ℕ, ◌≡◌, List, [], ◌∷◌, ◌++◌, map, length, Bool, true, false, ◌&&◌, ◌||◌, ◌==◌, not, nat_le, if◌then◌else◌, Option, Some, None, Result, Ok, Err, is_some, position, slice_get}
use Rattle.std.specs.List.{flat_map, slice_split, range_with_len}
use Rattle.std.specs.Str.{bytes_eq}
use Rattle.trace_lines.specs.declared.refused.TraceKind.{TraceKind}
use Rattle.trace_lines.specs.declared.refused.TraceKind.TheVariants as kinds
use Rattle.trace_lines.specs.Fields.{◌>>=◌, wrong}
use Rattle.trace_lines.specs.TextLines.{TextLine, is_ended, IsRightText}
use Rattle.trace_text.specs.declared.trace.Between.{Between}
use Rattle.trace_text.specs.declared.trace.Between.TheVariants.{Give, SetMax}
use Rattle.trace_text.specs.declared.trace.ClockHead.{ClockHead}
use Rattle.trace_text.specs.declared.trace.Head.{Head}
use Rattle.trace_text.specs.declared.trace.NamesHead.{NamesHead}
use Rattle.trace_text.specs.declared.trace.ZoneHead.{ZoneHead}
use Rattle.trace_text.specs.declared.trace.ZoneKind.{ZoneKind}
use Rattle.trace_text.specs.declared.trace.ZoneKind.TheVariants.{Plain, Smr}
use Rattle.trace_text.specs.declared.trace.Op.{Op}
use Rattle.trace_text.specs.declared.trace.Op.TheVariants as ops
use Rattle.trace_text.specs.declared.trace.Round.{Round}
use Rattle.trace_text.specs.declared.trace.Trace.{Trace}
use Rattle.trace_text.specs.declared.trace.Version.{Version}
use Rattle.trace_text.specs.declared.trace.Version.TheVariants as versions
use Rattle.trace_text.specs.declared.trace_reading.fields.Entry.{Entry}
use Rattle.trace_text.specs.declared.trace_reading.fields.Entry.TheVariants as entries
use Rattle.trace_text.specs.declared.trace_reading.parsed_line.ParsedLine.{ParsedLine}
use Rattle.trace_text.specs.declared.trace_reading.parsed_line.ParsedLine.TheVariants as parsed
use Rattle.trace_text.specs.declared.trace_reading.parsed_line.SecondHead.{SecondHead}
use Rattle.trace_text.specs.declared.trace_reading.parsed_line.ZoneWork.{ZoneWork}
use Rattle.trace_text.specs.declared.trace_reading.parsed_line.ZoneWork.TheVariants as works
use Rattle.trace_text.specs.declared.trace_reading.reader.Stage.{Stage}
use Rattle.trace_text.specs.declared.trace_reading.reader.Stage.TheVariants as stages
use Rattle.trace_text.specs.Lines.{Line, Does, Moves}
use Rattle.trace_text.specs.Reading.{held, in_section, is_away}
use Rattle.trace_text.specs.TraceLine.{says, version_in}
use Rattle.trace_text.specs.Valid.{sharer_count}

-- ---- what the earlier lines said: the header

abbrev pub stage_of : ParsedLine → Stage
stage_of (parsed.Uma version) = stages.Uma
stage_of (parsed.Workers count) = stages.Workers
stage_of (parsed.Domains count) = stages.Domains
stage_of (parsed.Clock clock) = stages.Clock
stage_of parsed.Detail = stages.Detail
stage_of (parsed.Zone zone) = stages.Zones
stage_of (parsed.Second second) = stages.Zones
stage_of (parsed.Names names) = stages.Names
stage_of (parsed.Work worker op) = stages.Works
stage_of (parsed.InZone worker zone work) = stages.Works
stage_of parsed.Round = stages.Between
stage_of (parsed.Give giver slot taker slot2) = stages.Between
stage_of (parsed.SetMax zone limit) = stages.Between
stage_of parsed.End = stages.End

-- what the last line was
abbrev pub last_stage : List ParsedLine → Stage
last_stage [] = stages.Start
last_stage (last ∷ before) = stage_of last

-- the version
abbrev pub version_after : ParsedLine → Version → Version
version_after (parsed.Uma version) before = version
version_after other before = before

abbrev pub version_of : List ParsedLine → Version
version_of [] = versions.One
version_of (s ∷ before) = version_after s (version_of before)

-- how many workers there are
abbrev pub workers_after : ParsedLine → ℕ → ℕ
workers_after (parsed.Workers count) before = count
workers_after other before = before

abbrev pub workers_of : List ParsedLine → ℕ
workers_of [] = 0
workers_of (s ∷ before) = workers_after s (workers_of before)

abbrev pub domains_after : ParsedLine → ℕ → ℕ
domains_after (parsed.Domains count) before = count
domains_after other before = before

abbrev pub domains_of : List ParsedLine → ℕ
domains_of [] = 0
domains_of (s ∷ before) = domains_after s (domains_of before)

abbrev pub clock_after : ParsedLine → Option ClockHead → Option ClockHead
clock_after (parsed.Clock clock) before = Some clock
clock_after other before = before

abbrev pub clock_of : List ParsedLine → Option ClockHead
clock_of [] = None
clock_of (s ∷ before) = clock_after s (clock_of before)

abbrev pub detail_after : ParsedLine → Bool → Bool
detail_after parsed.Detail before = true
detail_after other before = before

abbrev pub has_detail : List ParsedLine → Bool
has_detail [] = false
has_detail (s ∷ before) = detail_after s (has_detail before)

abbrev pub names_after : ParsedLine → Option NamesHead → Option NamesHead
names_after (parsed.Names names) before = Some names
names_after other before = before

abbrev pub names_of : List ParsedLine → Option NamesHead
names_of [] = None
names_of (s ∷ before) = names_after s (names_of before)

-- the place of the zone of this name
abbrev pub zone_named : List ZoneHead → List ℕ → Option ℕ
zone_named zones name = position (λ (z : ZoneHead). bytes_eq z.name name) zones

-- the place of the primary zone of this name
abbrev pub primary_named : List ZoneHead → List ℕ → Option ℕ
primary_named zones name = position (λ (z : ZoneHead). bytes_eq z.name name && not (is_some z.parent)) zones

-- a secondary zone has the size, the slabs and the reserve of its primary zone
abbrev pub second_over : ℕ → Option ZoneHead → SecondHead → List ZoneHead
second_over place None second = []
second_over place (Some primary) second =
    record { name = second.name; parent = Some place; size = primary.size; slabs = primary.slabs; bucket = second.bucket; limit = second.limit; reserve = primary.reserve; kind = second.kind } ∷ []

abbrev pub second_zone : Option ℕ → List ZoneHead → SecondHead → List ZoneHead
second_zone None zones second = []
second_zone (Some place) zones second = second_over place (slice_get zones place) second

-- the zone that a line names for the first time, behind these
abbrev pub new_zone : List ZoneHead → ParsedLine → List ZoneHead
new_zone zones (parsed.Zone zone) = zone ∷ []
new_zone zones (parsed.Second second) = second_zone (primary_named zones second.of) zones second
new_zone zones other = []

-- the zones in order of naming
abbrev pub zones_of : List ParsedLine → List ZoneHead
zones_of [] = []
zones_of (s ∷ before) = zones_of before ++ new_zone (zones_of before) s

abbrev pub head_of : List ParsedLine → Head
head_of before = record {
  workers = workers_of before;
  domains = domains_of before;
  clock = clock_of before;
  detail = has_detail before;
  zones = zones_of before;
  names = names_of before;
}

-- ---- what the earlier lines said: what the workers do

abbrev pub work_op : ZoneWork → ℕ → Op
work_op (works.Alloc slot arg reserve) zone = ops.Alloc zone slot arg reserve
work_op works.Trim zone = ops.Trim zone
work_op works.Drain zone = ops.Drain zone
work_op works.DrainSeat zone = ops.DrainSeat zone
work_op (works.Prealloc items) zone = ops.Prealloc zone items

abbrev pub entry_in : ℕ → ZoneWork → Option ℕ → List Entry
entry_in worker work None = []
entry_in worker work (Some zone) = entries.Does worker (work_op work zone) ∷ []

abbrev pub limit_in : ℕ → Option ℕ → List Entry
limit_in limit None = []
limit_in limit (Some zone) = entries.Moves (SetMax zone limit) ∷ []

-- what a line adds to those below the header
abbrev pub entry_of : List ZoneHead → ParsedLine → List Entry
entry_of zones (parsed.Work worker op) = entries.Does worker op ∷ []
entry_of zones (parsed.InZone worker zone work) = entry_in worker work (zone_named zones zone)
entry_of zones parsed.Round = entries.Round ∷ []
entry_of zones (parsed.Give giver slot taker slot2) = entries.Moves (Give giver slot taker slot2) ∷ []
entry_of zones (parsed.SetMax zone limit) = limit_in limit (zone_named zones zone)
entry_of zones other = []

-- the lines below the header, in order
abbrev pub entries_of : List ParsedLine → List Entry
entries_of [] = []
entries_of (s ∷ before) = entries_of before ++ entry_of (zones_of before) s

-- those lines that aren't `round` lines
abbrev pub line_of : List Entry → List Line
line_of [] = []
line_of (entries.Does worker op ∷ more) = Does worker op ∷ []
line_of (entries.Moves between ∷ more) = Moves between ∷ []
line_of (entries.Round ∷ more) = []

-- the last one first
abbrev pub done : List ParsedLine → List Line
done [] = []
done (s ∷ before) = line_of (entry_of (zones_of before) s) ++ done before

-- ---- the tests of a line by the earlier ones, in this order

-- an SMR zone, the names, sections, and workers that leave and come back need a clock
abbrev pub is_smr : ZoneKind → Bool
is_smr Plain = false
is_smr Smr = true

abbrev pub needs_clock : ParsedLine → Bool
needs_clock (parsed.Zone zone) = is_smr zone.kind
needs_clock (parsed.Second second) = is_smr second.kind
needs_clock (parsed.Names names) = true
needs_clock (parsed.Work worker ops.Enter) = true
needs_clock (parsed.Work worker ops.Exit) = true
needs_clock (parsed.Work worker ops.Away) = true
needs_clock (parsed.Work worker ops.Back) = true
needs_clock other = false

abbrev pub needs_names : ParsedLine → Bool
needs_names (parsed.Work worker (ops.Bind key value)) = true
needs_names (parsed.Work worker (ops.Unbind key)) = true
needs_names (parsed.Work worker (ops.Look key)) = true
needs_names other = false

-- a name given before
abbrev pub takes_name : List ZoneHead → ParsedLine → Bool
takes_name zones (parsed.Zone zone) = is_some (zone_named zones zone.name)
takes_name zones (parsed.Second second) = is_some (zone_named zones second.name)
takes_name zones (parsed.Names names) = is_some (zone_named zones names.name)
takes_name zones other = false

-- a zone that isn't there, or none of the kind wanted
abbrev pub lacks_zone : List ZoneHead → ParsedLine → Bool
lacks_zone zones (parsed.Second second) = not (is_some (primary_named zones second.of))
lacks_zone zones (parsed.InZone worker zone work) = not (is_some (zone_named zones zone))
lacks_zone zones (parsed.SetMax zone limit) = not (is_some (zone_named zones zone))
lacks_zone zones other = false

-- a keg has eight zones at most
abbrev pub fills_keg : List ZoneHead → Option ℕ → Bool
fills_keg zones None = false
fills_keg zones (Some primary) = nat_le 7 (sharer_count zones primary)

-- a ninth zone of a keg, or a seventeenth zone, that of the names among them
abbrev pub passes_most : List ZoneHead → ParsedLine → Bool
passes_most zones (parsed.Zone zone) = nat_le 16 (length zones)
passes_most zones (parsed.Second second) = nat_le 16 (length zones) || fills_keg zones (primary_named zones second.of)
passes_most zones (parsed.Names names) = nat_le 16 (length zones)
passes_most zones other = false

-- A filled slot is to be filled. A `give` from a slot to itself counts as this.
abbrev pub finds_filled : (ℕ → ℕ → Bool) → ParsedLine → Bool
finds_filled is_filled (parsed.InZone worker zone (works.Alloc slot arg reserve)) = is_filled worker slot
finds_filled is_filled (parsed.Give giver slot taker slot2) = (giver == taker && slot == slot2) || is_filled taker slot2
finds_filled is_filled other = false

-- an empty slot is to be emptied
abbrev pub finds_empty : (ℕ → ℕ → Bool) → ParsedLine → Bool
finds_empty is_filled (parsed.Work worker (ops.Free slot)) = not (is_filled worker slot)
finds_empty is_filled (parsed.Give giver slot taker slot2) = not (is_filled giver slot)
finds_empty is_filled other = false

-- the worker of an `enter` or `away` line is in a section
abbrev pub finds_open : (ℕ → Bool) → ParsedLine → Bool
finds_open is_open (parsed.Work worker ops.Enter) = is_open worker
finds_open is_open (parsed.Work worker ops.Away) = is_open worker
finds_open is_open other = false

abbrev pub finds_closed : (ℕ → Bool) → ParsedLine → Bool
finds_closed is_open (parsed.Work worker ops.Exit) = not (is_open worker)
finds_closed is_open other = false

-- the worker of an operation other than `back` is away
abbrev pub finds_away : (ℕ → Bool) → ParsedLine → Bool
finds_away is_away (parsed.Work worker ops.Back) = false
finds_away is_away (parsed.Work worker op) = is_away worker
finds_away is_away (parsed.InZone worker zone work) = is_away worker
finds_away is_away other = false

-- the worker of a `back` line isn't away
abbrev pub finds_there : (ℕ → Bool) → ParsedLine → Bool
finds_there is_away (parsed.Work worker ops.Back) = not (is_away worker)
finds_there is_away other = false

-- the kind of the first test that is failed
abbrev pub first_failed : List (Bool × TraceKind) → Option TraceKind
first_failed [] = None
first_failed ((failed, kind) ∷ more) = if failed then Some kind else first_failed more

-- the tests of what a line says of a worker: of its slots, of its section, and of whether it is away
abbrev pub worker_tests : (ℕ → ℕ → Bool) → (ℕ → Bool) → (ℕ → Bool) → ParsedLine → List (Bool × TraceKind)
worker_tests is_filled is_open is_away s =
    (finds_filled is_filled s, kinds.SlotBusy)
    ∷ (finds_empty is_filled s, kinds.SlotEmpty)
    ∷ (finds_open is_open s, kinds.SectionOpen)
    ∷ (finds_closed is_open s, kinds.SectionClosed)
    ∷ (finds_away is_away s, kinds.Absent)
    ∷ (finds_there is_away s, kinds.Present)
    ∷ []

-- what is wrong with a line that says this, where there are these zones, slots and sections, and workers that are away
abbrev pub conflict : Bool → Bool → List ZoneHead → (ℕ → ℕ → Bool) → (ℕ → Bool) → (ℕ → Bool) → ParsedLine → Option TraceKind
conflict has_clock has_names zones is_filled is_open is_away s = first_failed (
    (needs_clock s && not has_clock, kinds.NoClock)
    ∷ (needs_names s && not has_names, kinds.NoNames)
    ∷ (takes_name zones s, kinds.DoubleName)
    ∷ (lacks_zone zones s, kinds.NoZone)
    ∷ (passes_most zones s, kinds.Zones)
    ∷ worker_tests is_filled is_open is_away s)

-- whether a slot is filled, whether a worker is in a section, and whether it is away, after what was said
abbrev pub is_filled_by : List ParsedLine → ℕ → ℕ → Bool
is_filled_by before worker slot = is_some (held (done before) worker slot)

abbrev pub is_open_by : List ParsedLine → ℕ → Bool
is_open_by before worker = in_section (done before) worker

abbrev pub is_away_by : List ParsedLine → ℕ → Bool
is_away_by before worker = is_away (done before) worker

abbrev pub conflict_after : List ParsedLine → ParsedLine → Option TraceKind
conflict_after before s =
    conflict (is_some (clock_of before)) (is_some (names_of before)) (zones_of before) (is_filled_by before) (is_open_by before) (is_away_by before) s

-- ---- all lines

-- the version that the first line says
abbrev pub version_or_first : Option Version → Version
version_or_first (Some version) = version
version_or_first None = versions.One

-- what these lines said, the last one first
abbrev pub and_parsed : Result ParsedLine TraceKind → List ParsedLine → List ParsedLine
and_parsed (Ok s) before = s ∷ before
and_parsed (Err why) before = before

abbrev pub parsed_lines : List TextLine → List ParsedLine
parsed_lines [] = []
parsed_lines (line ∷ []) = parsed.Uma (version_or_first (version_in line.fields)) ∷ []
parsed_lines (line ∷ last ∷ before) =
    let earlier = parsed_lines (last ∷ before) in and_parsed (says (version_of earlier) (last_stage earlier) (workers_of earlier) line.fields) earlier

abbrev pub or_conflict : Option TraceKind → ParsedLine → Result ParsedLine TraceKind
or_conflict None s = Ok s
or_conflict (Some kind) s = Err kind

-- what a line with these fields says behind lines that said this, or the first thing that is wrong with it
abbrev pub tells : List ParsedLine → List (List ℕ) → Result ParsedLine TraceKind
tells before fields = do
  s ← says (version_of before) (last_stage before) (workers_of before) fields
  or_conflict (conflict_after before s) s

abbrev pub head_wrong : Bool → Option TraceKind
head_wrong is = if is then None else Some kinds.Head

-- what is wrong with a line that isn't skipped, or nothing
abbrev pub trace_test : List TextLine → TextLine → Option TraceKind
trace_test [] line = head_wrong (is_some (version_in line.fields))
trace_test (last ∷ before) line =
    if is_ended (last ∷ before) then Some kinds.After else
    wrong (tells (parsed_lines (last ∷ before)) line.fields)

-- ---- the rounds

abbrev pub is_round : Entry → Bool
is_round entries.Round = true
is_round other = false

abbrev pub op_by : ℕ → Entry → List Op
op_by worker (entries.Does v op) = if v == worker then (op ∷ []) else []
op_by worker other = []

abbrev pub between_in : Entry → List Between
between_in (entries.Moves between) = between ∷ []
between_in other = []

-- what each of so many workers does in this part, in order
abbrev pub ops_in : ℕ → List Entry → List (List Op)
ops_in workers part = map (λ worker. flat_map (op_by worker) part) (range_with_len 0 workers)

-- The `round` lines cut the lines into parts. A round has the operations of a part, and the lines of the next one that stand between
-- two rounds.
abbrev pub rounds_in : ℕ → List (List Entry) → List Round
rounds_in workers [] = []
rounds_in workers (part ∷ []) = record { ops = ops_in workers part; between = [] } ∷ []
rounds_in workers (part ∷ next ∷ parts) =
    record { ops = ops_in workers part; between = flat_map between_in next } ∷ rounds_in workers (next ∷ parts)

abbrev pub rounds_of : List ParsedLine → List Round
rounds_of before = rounds_in (workers_of before) (slice_split is_round (entries_of before))

abbrev pub trace_of : List ParsedLine → Trace
trace_of before = record { version = version_of before; head = head_of before; rounds = rounds_of before }

-- the bytes are a text of this trace
pub record IsTraceText (bytes : List ℕ) (trace : Trace) : Type 0 where
  pub spoke : List TextLine
  pub right : IsRightText trace_test bytes spoke
  pub trace_is : trace ≡ trace_of (parsed_lines spoke)
