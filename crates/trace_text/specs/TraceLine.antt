-- One line of a trace (own): its word, where the word may stand, and what the fields behind it say. What is wrong with it is told in
-- this order: the word, which the version has, its place, the count of fields, and then each field from left to right by all its own tests.
use Rattle.std.specs.Prelude.{ℕ, List, [], ◌∷◌, length, Bool, true, false, ◌&&◌, nat_le, nat_lt, if◌then◌else◌, Option, Some, None, Result, Ok, Err, codes}
use Rattle.std.specs.List.{list_all}
use Rattle.std.specs.Str.{bytes_eq}
use Rattle.trace_lines.specs.declared.refused.TraceKind.{TraceKind}
use Rattle.trace_lines.specs.declared.refused.TraceKind.TheVariants as kinds
use Rattle.trace_lines.specs.Fields.{◌>>=◌, no_field, one_field, two_fields, three_fields, four_fields, five_fields, number_in, ranged, number_within}
use Rattle.zone_stats.specs.Name.{is_name_character}
use Rattle.trace_text.specs.declared.trace.ClockHead.{ClockHead}
use Rattle.trace_text.specs.declared.trace.NamesHead.{NamesHead}
use Rattle.trace_text.specs.declared.trace.ZoneHead.{ZoneHead}
use Rattle.trace_text.specs.declared.trace.ZoneKind.{ZoneKind}
use Rattle.trace_text.specs.declared.trace.ZoneKind.TheVariants.{Plain, Smr}
use Rattle.trace_text.specs.declared.trace.Op.TheVariants as ops
use Rattle.trace_text.specs.declared.trace_reading.parsed_line.ParsedLine.{ParsedLine}
use Rattle.trace_text.specs.declared.trace_reading.parsed_line.ParsedLine.TheVariants as parsed
use Rattle.trace_text.specs.declared.trace_reading.parsed_line.SecondHead.{SecondHead}
use Rattle.trace_text.specs.declared.trace_reading.parsed_line.ZoneWork.TheVariants as works
use Rattle.trace_text.specs.declared.trace_reading.reader.Stage.{Stage}
use Rattle.trace_text.specs.declared.trace_reading.reader.Stage.TheVariants as stages
use Rattle.trace_text.specs.declared.trace_reading.fields.HeadWord.{HeadWord}
use Rattle.trace_text.specs.declared.trace_reading.fields.HeadWord.TheVariants as heads
use Rattle.trace_text.specs.declared.trace_reading.fields.Word.{Word}
use Rattle.trace_text.specs.declared.trace_reading.fields.Word.TheVariants as words
use Rattle.trace_text.specs.declared.trace_reading.fields.WorkWord.{WorkWord}
use Rattle.trace_text.specs.declared.trace_reading.fields.WorkWord.TheVariants as by_self
use Rattle.trace_text.specs.declared.trace_reading.fields.ZoneWord.{ZoneWord}
use Rattle.trace_text.specs.declared.trace_reading.fields.ZoneWord.TheVariants as in_zone
use Rattle.trace_text.specs.declared.trace.Version.{Version}
use Rattle.trace_text.specs.declared.trace.Version.TheVariants as versions
use Rattle.trace_text.specs.Limits.{last_slot}
use Rattle.trace_text.specs.Valid.{changes_limits, lets_leave}
use Rattle.trace_schedule.specs.ScheduleGrammar.{start_in, window_in}

-- ---- the first line

abbrev pub version_named : List ℕ → Option Version
version_named field =
    if bytes_eq field (codes "1") then Some versions.One else
    if bytes_eq field (codes "2") then Some versions.Two else
    if bytes_eq field (codes "3") then Some versions.Three else
    None

-- the version that a first line with these fields says: `uma 1`, `uma 2` or `uma 3`
abbrev pub version_in : List (List ℕ) → Option Version
version_in (word ∷ version ∷ []) = if bytes_eq word (codes "uma") then version_named version else None
version_in other = None

-- ---- the word

-- the word that a field is
abbrev pub word_named : List ℕ → Option Word
word_named field =
    if bytes_eq field (codes "alloc") then Some (words.Zone in_zone.Alloc) else
    if bytes_eq field (codes "free") then Some (words.Work by_self.Free) else
    if bytes_eq field (codes "enter") then Some (words.Work by_self.Enter) else
    if bytes_eq field (codes "exit") then Some (words.Work by_self.Exit) else
    if bytes_eq field (codes "bind") then Some (words.Work by_self.Bind) else
    if bytes_eq field (codes "unbind") then Some (words.Work by_self.Unbind) else
    if bytes_eq field (codes "look") then Some (words.Work by_self.Look) else
    if bytes_eq field (codes "away") then Some (words.Work by_self.Away) else
    if bytes_eq field (codes "back") then Some (words.Work by_self.Back) else
    if bytes_eq field (codes "trim") then Some (words.Zone in_zone.Trim) else
    if bytes_eq field (codes "drain") then Some (words.Zone in_zone.Drain) else
    if bytes_eq field (codes "drainseat") then Some (words.Zone in_zone.DrainSeat) else
    if bytes_eq field (codes "prealloc") then Some (words.Zone in_zone.Prealloc) else
    if bytes_eq field (codes "round") then Some words.Round else
    if bytes_eq field (codes "give") then Some words.Give else
    if bytes_eq field (codes "setmax") then Some words.SetMax else
    if bytes_eq field (codes "end") then Some words.End else
    if bytes_eq field (codes "uma") then Some (words.Head heads.Uma) else
    if bytes_eq field (codes "workers") then Some (words.Head heads.Workers) else
    if bytes_eq field (codes "domains") then Some (words.Head heads.Domains) else
    if bytes_eq field (codes "clock") then Some (words.Head heads.Clock) else
    if bytes_eq field (codes "detail") then Some (words.Head heads.Detail) else
    if bytes_eq field (codes "zone") then Some (words.Head heads.Zone) else
    if bytes_eq field (codes "second") then Some (words.Head heads.Second) else
    if bytes_eq field (codes "names") then Some (words.Head heads.Names) else
    None

abbrev pub word_or_wrong : Option Word → Result Word TraceKind
word_or_wrong (Some word) = Ok word
word_or_wrong None = Err kinds.Word

-- the version has this word: version 1 has none that changes a limit, and only version 3 has those of workers that leave and come back
abbrev pub is_known : Version → Word → Bool
is_known version words.SetMax = changes_limits version
is_known version (words.Work by_self.Away) = lets_leave version
is_known version (words.Work by_self.Back) = lets_leave version
is_known version word = true

abbrev pub known : Bool → Result Unit TraceKind
known is = if is then Ok tt else Err kinds.Word

-- ---- its place, by what the last line before it was

-- the order of a text
abbrev pub rank : Stage → ℕ
rank stages.Start = 0
rank stages.Uma = 1
rank stages.Workers = 2
rank stages.Domains = 3
rank stages.Clock = 4
rank stages.Detail = 5
rank stages.Zones = 6
rank stages.Names = 7
rank stages.Works = 8
rank stages.Between = 9
rank stages.End = 10

-- the last line is one from this place in the order to that one
abbrev pub is_within : ℕ → ℕ → Stage → Bool
is_within low high stage = nat_le low (rank stage) && nat_le (rank stage) high

-- One `workers` line stands behind the first line and one `domains` line behind that. At most one `clock` line, at most one `detail`
-- line, the zones and at most one `names` line follow in this order, and then what the workers do. A `give` or `setmax` line stands
-- behind a `round` line, with no others than such lines between the two.
abbrev pub may_follow : Stage → Word → Bool
may_follow stage (words.Head heads.Uma) = false
may_follow stage (words.Head heads.Workers) = is_within 1 1 stage
may_follow stage (words.Head heads.Domains) = is_within 2 2 stage
may_follow stage (words.Head heads.Clock) = is_within 3 3 stage
may_follow stage (words.Head heads.Detail) = is_within 3 4 stage
may_follow stage (words.Head heads.Zone) = is_within 3 6 stage
may_follow stage (words.Head heads.Second) = is_within 3 6 stage
may_follow stage (words.Head heads.Names) = is_within 3 6 stage
may_follow stage (words.Work word) = is_within 3 9 stage
may_follow stage (words.Zone word) = is_within 3 9 stage
may_follow stage words.Round = is_within 3 9 stage
may_follow stage words.Give = is_within 9 9 stage
may_follow stage words.SetMax = is_within 9 9 stage
may_follow stage words.End = is_within 3 9 stage

abbrev pub placed : Bool → Result Unit TraceKind
placed fits = if fits then Ok tt else Err kinds.Place

-- ---- one field

-- 1 to 16 characters of a name
abbrev pub is_name : List ℕ → Bool
is_name text = (nat_le 1 (length text) && nat_le (length text) 16) && list_all is_name_character text

abbrev pub name_in : List ℕ → Result (List ℕ) TraceKind
name_in field = if is_name field then Ok field else Err kinds.Name

abbrev pub kind_in : List ℕ → Result ZoneKind TraceKind
kind_in field =
    if bytes_eq field (codes "plain") then Ok Plain else
    if bytes_eq field (codes "smr") then Ok Smr else
    Err kinds.Kind

-- a worker of so many
abbrev pub worker_in : ℕ → List ℕ → Result ℕ TraceKind
worker_in workers field = do
  n ← number_in field
  ranged (nat_lt n workers) n

abbrev pub slot_in : List ℕ → Result ℕ TraceKind
slot_in = number_within 0 last_slot

-- ---- the header lines

-- START WINDOW
abbrev pub clock_in : List (List ℕ) → Result ClockHead TraceKind
clock_in fields = do
  parts ← two_fields fields
  start ← start_in parts.0
  window ← window_in parts.1
  Ok (record { start = start; window = window })

-- two fields, and five more
abbrev pub seven_fields : List (List ℕ) → Result (List ℕ × List ℕ × (List ℕ × List ℕ × List ℕ × List ℕ × List ℕ)) TraceKind
seven_fields (a ∷ b ∷ more) = do
  five ← five_fields more
  Ok (a, b, five)
seven_fields other = Err kinds.Fields

-- NAME SIZE SLABS BUCKET LIMIT RESERVE KIND
abbrev pub zone_in : List (List ℕ) → Result ZoneHead TraceKind
zone_in fields = do
  parts ← seven_fields fields
  name ← name_in parts.0
  size ← number_within 8 4096 parts.1
  let five = parts.2 in do
    slabs ← number_within 1 1024 five.0
    bucket ← number_within 4 64 five.1
    limit ← number_within 0 1000000 five.2
    reserve ← number_within 0 65535 five.3
    kind ← kind_in five.4
    Ok (record { name = name; parent = None; size = size; slabs = slabs; bucket = bucket; limit = limit; reserve = reserve; kind = kind })

-- NAME OF BUCKET LIMIT KIND
abbrev pub second_in : List (List ℕ) → Result SecondHead TraceKind
second_in fields = do
  parts ← five_fields fields
  name ← name_in parts.0
  of ← name_in parts.1
  bucket ← number_within 4 64 parts.2
  limit ← number_within 0 1000000 parts.3
  kind ← kind_in parts.4
  Ok (record { name = name; of = of; bucket = bucket; limit = limit; kind = kind })

-- NAME ROWS SLABS BUCKET
abbrev pub names_in : List (List ℕ) → Result NamesHead TraceKind
names_in fields = do
  parts ← four_fields fields
  name ← name_in parts.0
  rows ← number_within 1 4096 parts.1
  slabs ← number_within 1 1024 parts.2
  bucket ← number_within 4 64 parts.3
  Ok (record { name = name; rows = rows; slabs = slabs; bucket = bucket })

abbrev pub parse_head : HeadWord → List (List ℕ) → Result ParsedLine TraceKind
parse_head heads.Uma fields = Err kinds.Place
parse_head heads.Workers fields = do
  field ← one_field fields
  count ← number_within 1 16 field
  Ok (parsed.Workers count)
parse_head heads.Domains fields = do
  field ← one_field fields
  count ← number_within 1 4 field
  Ok (parsed.Domains count)
parse_head heads.Clock fields = do
  clock ← clock_in fields
  Ok (parsed.Clock clock)
parse_head heads.Detail fields = do
  none ← no_field fields
  Ok parsed.Detail
parse_head heads.Zone fields = do
  zone ← zone_in fields
  Ok (parsed.Zone zone)
parse_head heads.Second fields = do
  second ← second_in fields
  Ok (parsed.Second second)
parse_head heads.Names fields = do
  names ← names_in fields
  Ok (parsed.Names names)

-- ---- what workers do

-- nothing, or `reserve`
abbrev pub reserve_option : List (List ℕ) → Result Bool TraceKind
reserve_option [] = Ok false
reserve_option (word ∷ rest) = if bytes_eq word (codes "reserve") then no_field rest >>= (λ none. Ok true) else Err kinds.Fields

-- the number behind `arg`, and then `reserve` or nothing
abbrev pub arg_option : List (List ℕ) → Result (Option (List ℕ) × Bool) TraceKind
arg_option [] = Err kinds.Fields
arg_option (number ∷ rest) = do
  reserve ← reserve_option rest
  Ok (Some number, reserve)

-- `arg N` or nothing, and then `reserve` or nothing
abbrev pub options : List (List ℕ) → Result (Option (List ℕ) × Bool) TraceKind
options [] = Ok (None, false)
options (word ∷ rest) = if bytes_eq word (codes "arg") then arg_option rest else (do
  reserve ← reserve_option (word ∷ rest)
  Ok (None, reserve))

-- W ZONE SLOT, and the options
abbrev pub alloc_fields : List (List ℕ) → Result ((List ℕ × List ℕ × List ℕ) × (Option (List ℕ) × Bool)) TraceKind
alloc_fields (worker ∷ zone ∷ slot ∷ rest) = do
  more ← options rest
  Ok ((worker, zone, slot), more)
alloc_fields other = Err kinds.Fields

-- the argument: 0 where there is none
abbrev pub arg_in : Option (List ℕ) → Result ℕ TraceKind
arg_in None = Ok 0
arg_in (Some field) = number_within 0 254 field

abbrev pub parse_alloc : ℕ → List (List ℕ) → Result ParsedLine TraceKind
parse_alloc workers fields = do
  parts ← alloc_fields fields
  worker ← worker_in workers parts.0.0
  zone ← name_in parts.0.1
  slot ← slot_in parts.0.2
  arg ← arg_in parts.1.0
  Ok (parsed.InZone worker zone (works.Alloc slot arg parts.1.1))

-- W ZONE
abbrev pub worker_and_zone : ℕ → List (List ℕ) → Result (ℕ × List ℕ) TraceKind
worker_and_zone workers fields = do
  parts ← two_fields fields
  worker ← worker_in workers parts.0
  zone ← name_in parts.1
  Ok (worker, zone)

-- W ZONE N
abbrev pub parse_prealloc : ℕ → List (List ℕ) → Result ParsedLine TraceKind
parse_prealloc workers fields = do
  parts ← three_fields fields
  worker ← worker_in workers parts.0
  zone ← name_in parts.1
  items ← number_within 0 262144 parts.2
  Ok (parsed.InZone worker zone (works.Prealloc items))

abbrev pub parse_zone_work : ℕ → ZoneWord → List (List ℕ) → Result ParsedLine TraceKind
parse_zone_work workers in_zone.Alloc fields = parse_alloc workers fields
parse_zone_work workers in_zone.Trim fields = do
  parts ← worker_and_zone workers fields
  Ok (parsed.InZone parts.0 parts.1 works.Trim)
parse_zone_work workers in_zone.Drain fields = do
  parts ← worker_and_zone workers fields
  Ok (parsed.InZone parts.0 parts.1 works.Drain)
parse_zone_work workers in_zone.DrainSeat fields = do
  parts ← worker_and_zone workers fields
  Ok (parsed.InZone parts.0 parts.1 works.DrainSeat)
parse_zone_work workers in_zone.Prealloc fields = parse_prealloc workers fields

-- W
abbrev pub only_worker : ℕ → List (List ℕ) → Result ℕ TraceKind
only_worker workers fields = do
  field ← one_field fields
  worker_in workers field

-- W KEY
abbrev pub worker_and_key : ℕ → List (List ℕ) → Result (ℕ × ℕ) TraceKind
worker_and_key workers fields = do
  parts ← two_fields fields
  worker ← worker_in workers parts.0
  key ← number_in parts.1
  Ok (worker, key)

-- W SLOT
abbrev pub parse_free : ℕ → List (List ℕ) → Result ParsedLine TraceKind
parse_free workers fields = do
  parts ← two_fields fields
  worker ← worker_in workers parts.0
  slot ← slot_in parts.1
  Ok (parsed.Work worker (ops.Free slot))

-- W KEY VALUE
abbrev pub parse_bind : ℕ → List (List ℕ) → Result ParsedLine TraceKind
parse_bind workers fields = do
  parts ← three_fields fields
  worker ← worker_in workers parts.0
  key ← number_in parts.1
  value ← number_in parts.2
  Ok (parsed.Work worker (ops.Bind key value))

abbrev pub parse_work : ℕ → WorkWord → List (List ℕ) → Result ParsedLine TraceKind
parse_work workers by_self.Free fields = parse_free workers fields
parse_work workers by_self.Enter fields = do
  worker ← only_worker workers fields
  Ok (parsed.Work worker ops.Enter)
parse_work workers by_self.Exit fields = do
  worker ← only_worker workers fields
  Ok (parsed.Work worker ops.Exit)
parse_work workers by_self.Bind fields = parse_bind workers fields
parse_work workers by_self.Unbind fields = do
  parts ← worker_and_key workers fields
  Ok (parsed.Work parts.0 (ops.Unbind parts.1))
parse_work workers by_self.Look fields = do
  parts ← worker_and_key workers fields
  Ok (parsed.Work parts.0 (ops.Look parts.1))
parse_work workers by_self.Away fields = do
  worker ← only_worker workers fields
  Ok (parsed.Work worker ops.Away)
parse_work workers by_self.Back fields = do
  worker ← only_worker workers fields
  Ok (parsed.Work worker ops.Back)

-- W SLOT V SLOT2
abbrev pub parse_give : ℕ → List (List ℕ) → Result ParsedLine TraceKind
parse_give workers fields = do
  parts ← four_fields fields
  giver ← worker_in workers parts.0
  slot ← slot_in parts.1
  taker ← worker_in workers parts.2
  slot2 ← slot_in parts.3
  Ok (parsed.Give giver slot taker slot2)

-- ZONE N
abbrev pub parse_setmax : List (List ℕ) → Result ParsedLine TraceKind
parse_setmax fields = do
  parts ← two_fields fields
  zone ← name_in parts.0
  limit ← number_within 0 1000000 parts.1
  Ok (parsed.SetMax zone limit)

-- ---- the line

-- what a line says by its word and the fields behind it, where there are so many workers
abbrev pub parsed_by : ℕ → Word → List (List ℕ) → Result ParsedLine TraceKind
parsed_by workers (words.Head word) fields = parse_head word fields
parsed_by workers (words.Work word) fields = parse_work workers word fields
parsed_by workers (words.Zone word) fields = parse_zone_work workers word fields
parsed_by workers words.Round fields = do
  none ← no_field fields
  Ok parsed.Round
parsed_by workers words.Give fields = parse_give workers fields
parsed_by workers words.SetMax fields = parse_setmax fields
parsed_by workers words.End fields = do
  none ← no_field fields
  Ok parsed.End

-- what a line with these fields says behind the first line, or the first thing that is wrong with it
abbrev pub says : Version → Stage → ℕ → List (List ℕ) → Result ParsedLine TraceKind
says version stage workers [] = Err kinds.Word
says version stage workers (first ∷ rest) = do
  word ← word_or_wrong (word_named first)
  is ← known (is_known version word)
  fits ← placed (may_follow stage word)
  parsed_by workers word rest
