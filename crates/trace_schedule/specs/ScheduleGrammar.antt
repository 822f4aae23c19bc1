-- The grammar of schedules (own): `smr 1` or `smr 2`, then `clock SEATS START WINDOW`, then lines that take steps, then `end`. The test
-- of a line looks at the earlier lines, of which the last one comes first. Seats leave and come in version 2 alone.
use Rattle.std.specs.Prelude.{ℕ, ◌≡◌, ◌%◌, List, [], ◌∷◌, ◌++◌, Bool, true, false, ◌&&◌, ◌==◌, not, nat_le, nat_lt, if◌then◌else◌, Option, Some, None, Result, Ok, Err, codes, is_some}
use Rattle.std.specs.Str.{bytes_eq}
use Rattle.smr_core.specs.declared.clock_core.ClockConfig.{ClockConfig}
use Rattle.smr_core.specs.declared.turns.Step.TheVariants as steps
use Rattle.smr_core.specs.declared.turns.Turn.{Turn}
use Rattle.smr_core.specs.declared.turns.Turn.TheVariants as turns
use Rattle.trace_lines.specs.declared.refused.TraceKind.{TraceKind}
use Rattle.trace_lines.specs.declared.refused.TraceKind.TheVariants as kinds
use Rattle.trace_lines.specs.Fields.{◌>>=◌, wrong, no_field, one_field, two_fields, three_fields, number_in, ranged, number_within}
use Rattle.trace_lines.specs.TextLines.{TextLine, is_ended, IsRightText}
use Rattle.trace_schedule.specs.declared.schedule.Schedule.{Schedule}
use Rattle.trace_schedule.specs.declared.schedule.TurnLine.{TurnLine}
use Rattle.trace_schedule.specs.declared.schedule.Version.{Version}
use Rattle.trace_schedule.specs.declared.schedule.Version.TheVariants as versions
use Rattle.trace_schedule.specs.declared.reading.parsed_line.ParsedLine.{ParsedLine}
use Rattle.trace_schedule.specs.declared.reading.parsed_line.ParsedLine.TheVariants as parsed
use Rattle.trace_schedule.specs.declared.reading.word.PairWord.{PairWord}
use Rattle.trace_schedule.specs.declared.reading.word.PairWord.TheVariants as pairs
use Rattle.trace_schedule.specs.declared.reading.word.SeatWord.{SeatWord}
use Rattle.trace_schedule.specs.declared.reading.word.SeatWord.TheVariants as seats
use Rattle.trace_schedule.specs.declared.reading.word.Word.{Word}
use Rattle.trace_schedule.specs.declared.reading.word.Word.TheVariants as words

-- ---- the first line

abbrev pub version_named : List ℕ → Option Version
version_named field =
    if bytes_eq field (codes "1") then Some versions.One else
    if bytes_eq field (codes "2") then Some versions.Two else
    None

-- the version that a first line with these fields says: `smr 1` or `smr 2`
abbrev pub version_in : List (List ℕ) → Option Version
version_in (word ∷ version ∷ []) = if bytes_eq word (codes "smr") then version_named version else None
version_in other = None

-- ---- one line

-- the word that a field is
abbrev pub word_named : List ℕ → Option Word
word_named field =
    if bytes_eq field (codes "end") then Some words.End else
    if bytes_eq field (codes "smr") then Some words.Smr else
    if bytes_eq field (codes "clock") then Some words.Clock else
    if bytes_eq field (codes "load") then Some (words.Seat seats.Load) else
    if bytes_eq field (codes "store") then Some (words.Seat seats.Store) else
    if bytes_eq field (codes "check") then Some (words.Seat seats.Check) else
    if bytes_eq field (codes "exit") then Some (words.Seat seats.Exit) else
    if bytes_eq field (codes "leave") then Some (words.Seat seats.Leave) else
    if bytes_eq field (codes "come") then Some (words.Seat seats.Come) else
    if bytes_eq field (codes "aread") then Some (words.Seat seats.Aread) else
    if bytes_eq field (codes "aload") then Some (words.Seat seats.Aload) else
    if bytes_eq field (codes "aswap") then Some (words.Seat seats.Aswap) else
    if bytes_eq field (codes "pread") then Some (words.Pair pairs.Pread) else
    if bytes_eq field (codes "pload") then Some (words.Seat seats.Pload) else
    if bytes_eq field (codes "ppres") then Some (words.Seat seats.Ppres) else
    if bytes_eq field (codes "pscan") then Some (words.Seat seats.Pscan) else
    if bytes_eq field (codes "pswap") then Some (words.Seat seats.Pswap) else
    if bytes_eq field (codes "note") then Some (words.Seat seats.Note) else
    if bytes_eq field (codes "absorb") then Some (words.Pair pairs.Absorb) else
    if bytes_eq field (codes "enter") then Some (words.Seat seats.Enter) else
    if bytes_eq field (codes "advance") then Some (words.Seat seats.Advance) else
    if bytes_eq field (codes "poll") then Some (words.Pair pairs.Poll) else
    None

abbrev pub word_or_wrong : Option Word → Result Word TraceKind
word_or_wrong (Some word) = Ok word
word_or_wrong None = Err kinds.Word

-- a word for seats that leave and come, of which version 1 knows nothing
abbrev pub is_new : Word → Bool
is_new (words.Seat seats.Leave) = true
is_new (words.Seat seats.Come) = true
is_new (words.Seat seats.Ppres) = true
is_new word = false

abbrev pub is_known : Version → Word → Bool
is_known versions.One word = not (is_new word)
is_known versions.Two word = true

abbrev pub known : Bool → Result Unit TraceKind
known is = if is then Ok tt else Err kinds.Word

-- the word may stand here: one `clock` line behind the head, and all others behind it
abbrev pub fits_place : Bool → Word → Bool
fits_place clocked words.Smr = false
fits_place clocked words.Clock = not clocked
fits_place clocked word = clocked

abbrev pub placed : Bool → Result Unit TraceKind
placed fits = if fits then Ok tt else Err kinds.Place

-- a holder's number, or a tag
abbrev pub number_of_32_bits : List ℕ → Result ℕ TraceKind
number_of_32_bits = number_within 0 4294967295

-- odd, at most 2^63 - 1
abbrev pub start_in : List ℕ → Result ℕ TraceKind
start_in field = do
  n ← number_in field
  ranged (n % 2 == 1 && nat_lt n 9223372036854775808) n

-- even, 4 to 2^30
abbrev pub window_in : List ℕ → Result ℕ TraceKind
window_in field = do
  n ← number_in field
  ranged (n % 2 == 0 && (nat_le 4 n && nat_le n 1073741824)) n

-- SEATS START WINDOW
abbrev pub clock_in : List (List ℕ) → Result ClockConfig TraceKind
clock_in fields = do
  parts ← three_fields fields
  seats ← number_within 1 64 parts.0
  start ← start_in parts.1
  window ← window_in parts.2
  Ok (record { start = start; window = window; seats = seats })

-- S
abbrev pub seat_in : List (List ℕ) → Result ℕ TraceKind
seat_in fields = do
  seat ← one_field fields
  number_of_32_bits seat

-- S N, or S T
abbrev pub two_numbers_in : List (List ℕ) → Result (ℕ × ℕ) TraceKind
two_numbers_in fields = do
  parts ← two_fields fields
  first ← number_of_32_bits parts.0
  second ← number_of_32_bits parts.1
  Ok (first, second)

-- In version 1 the load of the write sequence by a poll that goes on is followed by that of the presence word.
abbrev pub seat_turn : Version → SeatWord → ℕ → Turn
seat_turn version seats.Load s = turns.One (steps.EnterLoad s)
seat_turn version seats.Store s = turns.One (steps.EnterStore s)
seat_turn version seats.Check s = turns.One (steps.EnterCheck s)
seat_turn version seats.Exit s = turns.One (steps.Clear s)
seat_turn version seats.Leave s = turns.One (steps.Leave s)
seat_turn version seats.Come s = turns.One (steps.Come s)
seat_turn version seats.Aread s = turns.One (steps.AdvanceRead s)
seat_turn version seats.Aload s = turns.One (steps.AdvanceLoad s)
seat_turn version seats.Aswap s = turns.One (steps.AdvanceSwap s)
seat_turn versions.One seats.Pload s = turns.PollLoads s
seat_turn versions.Two seats.Pload s = turns.One (steps.PollLoad s)
seat_turn version seats.Ppres s = turns.One (steps.PollPresent s)
seat_turn version seats.Pscan s = turns.One (steps.PollScan s)
seat_turn version seats.Pswap s = turns.One (steps.PollSwap s)
seat_turn version seats.Note s = turns.One (steps.Note s)
seat_turn version seats.Enter s = turns.Enter s
seat_turn version seats.Advance s = turns.Advance s

abbrev pub pair_turn : PairWord → ℕ → ℕ → Turn
pair_turn pairs.Pread s t = turns.One (steps.PollRead s t)
pair_turn pairs.Absorb s n = turns.One (steps.Absorb s n)
pair_turn pairs.Poll s t = turns.Poll s t

-- what a line says by its word and the fields behind it
abbrev pub parsed_by : Version → Word → List (List ℕ) → Result ParsedLine TraceKind
parsed_by version words.Smr fields = Err kinds.Place
parsed_by version words.Clock fields = do
  config ← clock_in fields
  Ok (parsed.Clock config)
parsed_by version (words.Seat word) fields = do
  seat ← seat_in fields
  Ok (parsed.Does (seat_turn version word seat))
parsed_by version (words.Pair word) fields = do
  numbers ← two_numbers_in fields
  Ok (parsed.Does (pair_turn word numbers.0 numbers.1))
parsed_by version words.End fields = do
  none ← no_field fields
  Ok parsed.End

-- what a line with these fields says behind the head, or the first thing that is wrong with it
abbrev pub says : Version → Bool → List (List ℕ) → Result ParsedLine TraceKind
says version clocked [] = Err kinds.Word
says version clocked (first ∷ rest) = do
  word ← word_or_wrong (word_named first)
  is ← known (is_known version word)
  fits ← placed (fits_place clocked word)
  parsed_by version word rest

-- ---- all lines

abbrev pub version_or_first : Option Version → Version
version_or_first (Some version) = version
version_or_first None = versions.One

-- the version that the first of these lines says
abbrev pub version_of : List TextLine → Version
version_of [] = versions.One
version_of (line ∷ []) = version_or_first (version_in line.fields)
version_of (line ∷ next ∷ before) = version_of (next ∷ before)

abbrev pub clock_after : Result ParsedLine TraceKind → Option ClockConfig → Option ClockConfig
clock_after (Ok (parsed.Clock config)) before = Some config
clock_after line before = before

-- the numbers of the `clock` line among these
abbrev pub clock_of : List TextLine → Option ClockConfig
clock_of [] = None
clock_of (line ∷ before) = clock_after (says (version_of before) (is_some (clock_of before)) line.fields) (clock_of before)

abbrev pub turns_in : ℕ → Result ParsedLine TraceKind → List TurnLine
turns_in number (Ok (parsed.Does turn)) = record { line = number; turn = turn } ∷ []
turns_in number line = []

-- the lines among these that take steps, in order
abbrev pub turn_lines : List TextLine → List TurnLine
turn_lines [] = []
turn_lines (line ∷ before) = turn_lines before ++ turns_in line.number (says (version_of before) (is_some (clock_of before)) line.fields)

abbrev pub head_wrong : Bool → Option TraceKind
head_wrong is = if is then None else Some kinds.Head

-- what is wrong with a line that isn't skipped, or nothing
abbrev pub schedule_test : List TextLine → TextLine → Option TraceKind
schedule_test [] line = head_wrong (is_some (version_in line.fields))
schedule_test (last ∷ before) line =
    if is_ended (last ∷ before) then Some kinds.After else
    wrong (says (version_of (last ∷ before)) (is_some (clock_of (last ∷ before))) line.fields)

-- the bytes are a text of this schedule
pub record IsScheduleText (bytes : List ℕ) (schedule : Schedule) : Type 0 where
  pub spoke : List TextLine
  pub right : IsRightText schedule_test bytes spoke
  pub version : schedule.version ≡ version_of spoke
  pub clock : clock_of spoke ≡ Some (record { start = schedule.start; window = schedule.window; seats = schedule.seats })
  pub lines : schedule.lines ≡ turn_lines spoke

-- a schedule is valid where it has a text
abbrev pub IsValidSchedule : Schedule → Type 0
IsValidSchedule schedule = (bytes : List ℕ) × IsScheduleText bytes schedule
