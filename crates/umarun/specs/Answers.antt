-- What the calls answer of which `run` is made (own).
use Rattle.std.specs.Prelude.{◌≡◌, ◌≤◌, ℕ, List, Option, Result, Vec, length, IfOk, OnOk, IsErrOf}
use Rattle.std.specs.declared.alloc.Global.{Global}
use Rattle.smr_core.specs.declared.turns.StepRefused.{StepRefused}
use Rattle.trace_lines.specs.TextLines.{IsRefusedAt}
use Rattle.trace_lines.specs.declared.refused.ParseRefused.{ParseRefused}
use Rattle.trace_lines.specs.declared.refused.ParseRefused.TheVariants as parsing
use Rattle.trace_lines.specs.declared.refused.TraceRefused.{TraceRefused}
use Rattle.trace_gen.specs.Header.{made_trace}
use Rattle.trace_text.specs.Grammar.{IsTraceText, trace_test}
use Rattle.trace_text.specs.Lines.{lines_of}
use Rattle.trace_text.specs.Valid.{IsValid}
use Rattle.trace_text.specs.declared.trace.Trace.{Trace}
use Rattle.uma_io.specs.Source.{Exhausts, HasMoreThan}
use Rattle.uma_replay.specs.Report.{StandsFor}
use Rattle.umarun.specs.Bulk.{ReplaysMade}
use Rattle.umarun.specs.Input.{OfInput}
use Rattle.umarun.specs.Replaying.{HasHeadline, LeavesHall, Replays, RefusesTrace, most_bytes}
use Rattle.umarun.specs.Stepping.{Plays, RefusesText, RefusesStep}
use Rattle.umarun.specs.Summary.{summary_text}
use Rattle.umarun.specs.declared.replaying.AnyHall.{AnyHall}
use Rattle.umarun.specs.declared.fault.Fault.{Fault}
use Rattle.umarun.specs.declared.fault.Fault.TheVariants as faults
use Rattle.umarun.specs.declared.replaying.Replayed.{Replayed}
use Rattle.zone_stats.specs.ReportText.{report_text}
use Rattle.zone_stats.specs.declared.report.Report.{Report}

-- The report stands for the trace, and for the hall that the trace's lines left. Under a free gate no operation gave up waiting.
pub record StandsReplayed (trace : Trace) (is_free : Type 0) (report : Report) (ended : AnyHall) : Type 0 where
  pub stands : StandsFor trace report
  pub hall : LeavesHall trace report ended
  pub headline : HasHeadline trace report ended
  pub free : is_free → report.gave_up ≡ 0

-- The trace of the text, which has no more lines than the text has bytes; or the first bad line, and why.
pub record ReadsTrace (bytes : List ℕ) (result : Result Trace ParseRefused) : Type 0 where
  pub read : IfOk result (IsTraceText bytes)
  pub valid : IfOk result IsValid
  pub few : IfOk result (λ trace. length (lines_of trace.rounds) ≤ length bytes)
  pub refused : (refused : TraceRefused) → IsErrOf result (parsing.Trace refused) → IsRefusedAt trace_test bytes refused.line refused.kind

-- The report, its hall and the report's text, for the trace that was read, with nothing left in the source; or the fault that ended the command, and why. The fault is no step of a schedule, no word and no writing.
pub record AnswersReplay (result : Result (Replayed × Vec ℕ Global) Fault) (left rest : Option (List ℕ)) (read_fails is_free : Type 0) : Type 0 where
  pub replays : IfOk result (λ done. OfInput left (Replays done.0.report done.0.ended))
  pub free : is_free → IfOk result (λ done. done.0.report.gave_up ≡ 0)
  pub text : IfOk result (λ done. done.1.items ≡ report_text done.0.report)
  pub end : OnOk result (Exhausts left rest)
  pub read : IsErrOf result faults.Read → read_fails
  pub too_long : (most : ℕ) → IsErrOf result (faults.TooLong most) → (most ≡ most_bytes) × HasMoreThan most_bytes left
  pub refused : (refused : TraceRefused) → IsErrOf result (faults.Trace refused) → OfInput left (RefusesTrace refused)
  pub no_step : (line : ℕ) (refused : StepRefused) → IsErrOf result (faults.Step line refused) → ⊥
  pub command : IsErrOf result faults.Usage → ⊥
  pub unwritten : IsErrOf result faults.Write → ⊥

-- What the schedule that was read prints, with nothing left in the source; or the fault that ended the command, and why. The fault is no word and no writing.
pub record AnswersSteps (result : Result (Vec ℕ Global) Fault) (left rest : Option (List ℕ)) (read_fails : Type 0) : Type 0 where
  pub plays : IfOk result (λ printed. OfInput left (Plays printed.items))
  pub end : OnOk result (Exhausts left rest)
  pub read : IsErrOf result faults.Read → read_fails
  pub too_long : (most : ℕ) → IsErrOf result (faults.TooLong most) → (most ≡ most_bytes) × HasMoreThan most_bytes left
  pub refused : (refused : TraceRefused) → IsErrOf result (faults.Trace refused) → OfInput left (RefusesText refused)
  pub step : (line : ℕ) (refused : StepRefused) → IsErrOf result (faults.Step line refused) → OfInput left (RefusesStep line refused)
  pub command : IsErrOf result faults.Usage → ⊥
  pub unwritten : IsErrOf result faults.Write → ⊥

-- A report with its hall and its summary, of the trace that the numbers give. Under a free gate no operation gave up waiting.
pub record AnswersBulk (seed workers ops : ℕ) (is_free : Type 0) (report : Report) (ended : AnyHall) (summary : List ℕ) : Type 0 where
  pub replays : ReplaysMade seed workers ops report ended
  pub headline : HasHeadline (made_trace seed workers ops) report ended
  pub free : is_free → report.gave_up ≡ 0
  pub text : summary ≡ summary_text seed workers ops report
