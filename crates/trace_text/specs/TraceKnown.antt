-- The running state of a trace's reading, and the lines that it is the state after (own).
use Rattle.std.specs.Prelude.{ℕ, ◌≡◌, ◌≤◌, List, [], ◌∷◌, Bool, true, false}
use Rattle.std.specs.List.{slice_split}
use Rattle.trace_lines.specs.TextLines.{TextLine, is_ended}
use Rattle.trace_text.specs.declared.trace_reading.reader.TraceReader.{TraceReader}
use Rattle.trace_text.specs.declared.trace_reading.parsed_line.ParsedLine.{ParsedLine}
use Rattle.trace_text.specs.declared.trace_reading.reader.Stage.{Stage}
use Rattle.trace_text.specs.declared.trace_reading.reader.Stage.TheVariants as stages
use Rattle.trace_text.specs.declared.trace.Trace.{Trace}
use Rattle.trace_text.specs.Grammar.{is_round, rounds_in, last_stage, version_of, workers_of, domains_of, clock_of, has_detail, zones_of, names_of, entries_of, parsed_lines, is_filled_by, is_open_by, is_away_by}
use Rattle.trace_text.specs.Limits.{last_slot, most_workers}
use Rattle.trace_text.specs.TraceShown.{slot_at, is_marked}
use Rattle.trace_text.specs.TraceTables.{AreWhole}

-- what the state keeps between any two lines, whatever they are
pub record Keeps (reader : TraceReader) : Type 0 where
  pub whole : AreWhole reader.tables
  pub workers : reader.workers ≤ most_workers

abbrev pub is_start : Stage → Bool
is_start stages.Start = true
is_start other = false

abbrev pub is_last : Stage → Bool
is_last stages.End = true
is_last other = false

abbrev pub are_none : List TextLine → Bool
are_none [] = true
are_none (last ∷ before) = false

-- the tables are those after lines that said this
pub record KnowsTables (slots sections away : List Bool) (before : List ParsedLine) : Type 0 where
  pub filled : (w slot : ℕ) → slot ≤ last_slot → slot_at slots w slot ≡ is_filled_by before w slot
  pub opened : (w : ℕ) → is_marked sections w ≡ is_open_by before w
  pub left : (w : ℕ) → is_marked away w ≡ is_away_by before w

-- the state is the one after lines that said this, the last one first
pub record KnowsParsed (reader : TraceReader) (before : List ParsedLine) : Type 0 where
  pub stage : reader.stage ≡ last_stage before
  pub version : reader.version ≡ version_of before
  pub workers : reader.workers ≡ workers_of before
  pub domains : reader.domains ≡ domains_of before
  pub clock : reader.clock ≡ clock_of before
  pub detail : reader.detail ≡ has_detail before
  pub zones : reader.zones ≡ zones_of before
  pub names : reader.names ≡ names_of before
  pub entries : reader.entries ≡ entries_of before
  pub tables : KnowsTables reader.tables.slots.items reader.tables.sections.items reader.tables.away.items before

-- the state is the one after these lines, the last one first
pub record Knows (reader : TraceReader) (lines : List TextLine) : Type 0 where
  pub parsed : KnowsParsed reader (parsed_lines lines)
  pub begun : is_start reader.stage ≡ are_none lines
  pub ended : is_last reader.stage ≡ is_ended lines

-- the trace that the state is of, once the last line was `end`
abbrev pub trace_by : TraceReader → Trace
trace_by reader = record {
  version = reader.version;
  head = record { workers = reader.workers; domains = reader.domains; clock = reader.clock; detail = reader.detail; zones = reader.zones; names = reader.names };
  rounds = rounds_in reader.workers (slice_split is_round reader.entries);
}
