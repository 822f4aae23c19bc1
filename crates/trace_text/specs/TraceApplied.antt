-- What the running state of a trace's reading takes in (own).
use Rattle.std.specs.Prelude.{◌≡◌, List, [], ◌∷◌, ◌++◌, Option, is_some}
use Rattle.trace_lines.specs.declared.refused.TraceKind.{TraceKind}
use Rattle.trace_text.specs.declared.trace_reading.fields.Entry.{Entry}
use Rattle.trace_text.specs.declared.trace_reading.reader.TraceReader.{TraceReader}
use Rattle.trace_text.specs.declared.trace_reading.parsed_line.ParsedLine.{ParsedLine}
use Rattle.trace_text.specs.declared.trace_reading.tables.Tables.{Tables}
use Rattle.trace_text.specs.Grammar.{stage_of, version_after, workers_after, domains_after, clock_after, detail_after, names_after, new_zone, entry_of, conflict}
use Rattle.trace_text.specs.TraceShown.{slot_at, is_marked}
use Rattle.trace_text.specs.TraceTables.{Marks}

-- what is wrong with a line that says this, by the running state
abbrev pub conflict_found : TraceReader → ParsedLine → Option TraceKind
conflict_found reader s =
    conflict (is_some reader.clock) (is_some reader.names) reader.zones (slot_at reader.tables.slots.items) (is_marked reader.tables.sections.items) (is_marked reader.tables.away.items) s

-- what the header says is as it was
pub record KeepsHead (old new : TraceReader) : Type 0 where
  pub stage : new.stage ≡ old.stage
  pub version : new.version ≡ old.version
  pub workers : new.workers ≡ old.workers
  pub domains : new.domains ≡ old.domains
  pub clock : new.clock ≡ old.clock
  pub detail : new.detail ≡ old.detail
  pub zones : new.zones ≡ old.zones
  pub names : new.names ≡ old.names

-- a line below the header is taken in
pub record Adds (entry : Entry) (old new : TraceReader) : Type 0 where
  pub head : KeepsHead old new
  pub entries : new.entries ≡ old.entries ++ entry ∷ []
  pub marks : Marks entry old.tables new.tables

-- lines, of which there is one at most, are taken in
abbrev pub AddsAll : List Entry → TraceReader → TraceReader → Type 0
AddsAll [] old new = new ≡ old
AddsAll (entry ∷ more) old new = Adds entry old new

-- the lines, of which there is one at most, are done to the tables
abbrev pub MarksAll : List Entry → Tables → Tables → Type 0
MarksAll [] old new = new ≡ old
MarksAll (entry ∷ more) old new = Marks entry old new

-- what a line behind the first one says is taken in
pub record Applies (s : ParsedLine) (old new : TraceReader) : Type 0 where
  pub stage : new.stage ≡ stage_of s
  pub version : new.version ≡ version_after s old.version
  pub workers : new.workers ≡ workers_after s old.workers
  pub domains : new.domains ≡ domains_after s old.domains
  pub clock : new.clock ≡ clock_after s old.clock
  pub detail : new.detail ≡ detail_after s old.detail
  pub names : new.names ≡ names_after s old.names
  pub zones : new.zones ≡ old.zones ++ new_zone old.zones s
  pub entries : new.entries ≡ old.entries ++ entry_of old.zones s
  pub marks : MarksAll (entry_of old.zones s) old.tables new.tables
