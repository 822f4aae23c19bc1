-- What a run of the program leaves behind, command by command (own).
use Rattle.std.specs.Prelude.{◌≡◌, ◌≢◌, ◌↔◌, ◌⊎◌, ℕ, true, false, List, Option, Some, None, IsSome, IsNone, IfSome, IfNone, IsSomeAnd}
use Rattle.command_line.specs.declared.command.Command.{Command}
use Rattle.command_line.specs.declared.command.Command.TheVariants as commands
use Rattle.smr_core.specs.declared.turns.StepRefused.{StepRefused}
use Rattle.trace_lines.specs.declared.refused.TraceRefused.{TraceRefused}
use Rattle.uma_io.specs.Sink.{Adds, AddsPart}
use Rattle.uma_io.specs.Source.{Exhausts, HasMoreThan}
use Rattle.umarun.specs.Bulk.{ReplaysMade}
use Rattle.umarun.specs.Ending.{makes_report, reads_input, status_at}
use Rattle.umarun.specs.Input.{OfInput}
use Rattle.umarun.specs.Making.{made_text}
use Rattle.umarun.specs.Replaying.{Replays, AreInput, AreRefused, RefusesTrace, most_bytes}
use Rattle.umarun.specs.Stepping.{ArePlayed, WritesOutput, WritesPart, RefusesText, RefusesStep}
use Rattle.umarun.specs.Summary.{summary_text}
use Rattle.umarun.specs.declared.fault.Fault.{Fault}
use Rattle.umarun.specs.declared.fault.Fault.TheVariants as faults
use Rattle.umarun.specs.declared.replaying.Finish.{Finish}
use Rattle.zone_stats.specs.ReportText.{report_text}

-- The status is that of the fault, and a run without a fault is good. A report and its hall are there once a replay is done. Usage only where the words are no command; where they are none it is Usage, or memory was wanting. A step is refused by `steps` alone.
pub record Ends (command : Option Command) (end : Finish) : Type 0 where
  pub status : end.status ≡ status_at end.fault
  pub report : IsSome end.report ↔ ((makes_report command ≡ true) × (IsNone end.fault ⊎ (end.fault ≡ Some faults.Write)))
  pub hall : IsSome end.hall ↔ IsSome end.report
  pub usage : end.fault ≡ Some faults.Usage → command ≡ None
  pub no_command : command ≡ None → (end.fault ≡ Some faults.Usage) ⊎ (end.fault ≡ Some faults.Memory)
  pub step : (line : ℕ) (why : StepRefused) → end.fault ≡ Some (faults.Step line why) → command ≡ Some commands.Steps

-- Nothing is read but by the commands that read their input, which read all. Reading fails only where a fault was counted in this call, and the input is too long only where more bytes came.
pub record ReadsInput {S : Type 0} (command : Option Command) (fault : Option Fault) (old new : S) (left rest : Option (List ℕ)) (fails : Type 0) : Type 0 where
  pub unread : reads_input command ≡ false → new ≡ old
  pub all : reads_input command ≡ true → IfNone fault (Exhausts left rest)
  pub read : fault ≡ Some faults.Read → fails
  pub too_long : (most : ℕ) → fault ≡ Some (faults.TooLong most) → (most ≡ most_bytes) × HasMoreThan most_bytes left

-- Nothing is written before a refusal. Writing fails only where a fault was counted in this call.
pub record WritesAtEnd {K : Type 0} (fault : Option Fault) (old new : K) (fails : Type 0) : Type 0 where
  pub unwritten : IsSome fault → fault ≢ Some faults.Write → new ≡ old
  pub write : fault ≡ Some faults.Write → fails

-- `replay`: where there is a report, the input is the text of a valid trace. The report stands for this trace, and for the zones, clock, names, workers and censuses of the hall, and the headline holds of them. The report's text is written, and nothing else. A text is refused only at its first bad line, for the first thing that is wrong with it.
--
-- Where the source reports its bytes, each input that is refused gives no report but that refusal, and each other one is replayed, unless memory was wanting or a stream failed.
pub record DoesReplay (end : Finish) (left held holds : Option (List ℕ)) (read_fails write_fails : Type 0) : Type 0 where
  pub replays : IfSome end.report (λ report. IfSome end.hall (λ ended. OfInput left (Replays report ended)))
  pub written : IfNone end.fault (IfSome end.report (λ report. Adds held (report_text report) holds))
  pub part : end.fault ≡ Some faults.Write → IfSome end.report (λ report. AddsPart held (report_text report) holds)
  pub refused : (why : TraceRefused) → end.fault ≡ Some (faults.Trace why) → OfInput left (RefusesTrace why)
  pub names : (why : TraceRefused) → IsSomeAnd left (RefusesTrace why) → ¬ read_fails → (end.fault ≡ Some (faults.Trace why)) ⊎ (end.fault ≡ Some faults.Memory)
  pub refuses : IsSomeAnd left AreRefused → IsNone end.report
  pub complete : IsSomeAnd left AreInput → ¬ read_fails → ¬ write_fails → (end.fault ≡ None) ⊎ (end.fault ≡ Some faults.Memory)

-- `steps`: where there is no fault, the input is the text of a schedule, and what this schedule prints is written, and nothing else. A text is refused only at its first bad line, and a schedule only at the first line whose step is refused. Where the source reports its bytes, each schedule none of whose steps is refused is played, unless memory was wanting or a stream failed.
pub record DoesSteps (end : Finish) (left held holds : Option (List ℕ)) (read_fails write_fails : Type 0) : Type 0 where
  pub written : IfNone end.fault (OfInput left (WritesOutput held holds))
  pub part : end.fault ≡ Some faults.Write → OfInput left (WritesPart held holds)
  pub refused : (why : TraceRefused) → end.fault ≡ Some (faults.Trace why) → OfInput left (RefusesText why)
  pub step : (line : ℕ) (why : StepRefused) → end.fault ≡ Some (faults.Step line why) → OfInput left (RefusesStep line why)
  pub complete : IsSomeAnd left ArePlayed → ¬ read_fails → ¬ write_fails → (end.fault ≡ None) ⊎ (end.fault ≡ Some faults.Memory)

-- `gen`: the canonical text of the trace that the numbers give is written, and nothing else, or memory was wanting, where writing didn't fail.
pub record DoesGen (seed workers ops : ℕ) (end : Finish) (held holds : Option (List ℕ)) (write_fails : Type 0) : Type 0 where
  pub written : IfNone end.fault (Adds held (made_text seed workers ops) holds)
  pub part : end.fault ≡ Some faults.Write → AddsPart held (made_text seed workers ops) holds
  pub complete : ¬ write_fails → (end.fault ≡ None) ⊎ (end.fault ≡ Some faults.Memory)

-- `bulk`: a report stands for the trace that the numbers give, and for its hall, and no trace is refused; the report's summary is written, and nothing else, or memory was wanting, where writing didn't fail.
pub record DoesBulk (seed workers ops : ℕ) (end : Finish) (held holds : Option (List ℕ)) (write_fails : Type 0) : Type 0 where
  pub replays : IfSome end.report (λ report. IfSome end.hall (ReplaysMade seed workers ops report))
  pub written : IfNone end.fault (IfSome end.report (λ report. Adds held (summary_text seed workers ops report) holds))
  pub part : end.fault ≡ Some faults.Write → IfSome end.report (λ report. AddsPart held (summary_text seed workers ops report) holds)
  pub complete : ¬ write_fails → (end.fault ≡ None) ⊎ (end.fault ≡ Some faults.Memory)

-- The whole of these bytes is written, or a front of them where a fault was counted in this call; there is no other fault.
pub record WritesAll (end : Finish) (text : List ℕ) (held holds : Option (List ℕ)) (fails : Type 0) : Type 0 where
  pub status : end.status ≡ status_at end.fault
  pub cause : (end.fault ≡ None) ⊎ (end.fault ≡ Some faults.Write)
  pub all : IfNone end.fault (Adds held text holds)
  pub part : end.fault ≡ Some faults.Write → AddsPart held text holds
  pub write : end.fault ≡ Some faults.Write → fails
  pub complete : ¬ fails → end.fault ≡ None
