-- What the command `replay` does with the bytes that it reads (own).
use Rattle.std.specs.Prelude.{◌≡◌, ◌<◌, ◌≤◌, ◌⊎◌, ℕ, List, Option, IfSome, length}
use Rattle.trace_lines.specs.TextLines.{IsRefusedAt}
use Rattle.trace_lines.specs.declared.refused.TraceRefused.{TraceRefused}
use Rattle.trace_text.specs.declared.trace.Trace.{Trace}
use Rattle.trace_text.specs.Grammar.{IsTraceText, trace_test}
use Rattle.trace_text.specs.Valid.{IsValid}
use Rattle.smr_clock.specs.Belongs.{setup_of}
use Rattle.umarun.specs.Caches.{plan_for}
use Rattle.replay_rounds.specs.contracts.playing.PlainNamesNameCalls.TheImpl.{ghosts as plain_names}
use Rattle.umarun.specs.contracts.cache_names.CacheNamesNameCalls.TheImpl.{ghosts as cache_names}
use Rattle.uma_replay.specs.Hall.{HallStands}
use Rattle.uma_replay.specs.Headline.{Headline}
use Rattle.uma_replay.specs.Report.{StandsFor}
use Rattle.umarun.specs.declared.replaying.AnyHall.{AnyHall}
use Rattle.umarun.specs.declared.replaying.AnyHall.TheVariants.{Plain, Named}
use Rattle.zone_stats.specs.declared.report.Report.{Report}

-- the most bytes of an input
abbrev pub most_bytes : ℕ
most_bytes = 16777216

-- The hall is what the trace's lines left, and the report is made of it. No names were served where the trace has no names line, and a cache served them where it has one. The words of the clock's host are those of the cache's rows and entries, or none.
abbrev pub LeavesHall : Trace → Report → AnyHall → Type 0
LeavesHall trace report (Plain hall) = HallStands plain_names trace report hall × ((setup_of hall.clock).plan ≡ (0, 0))
LeavesHall trace report (Named hall) = HallStands cache_names trace report hall × ((setup_of hall.clock).plan ≡ plan_for trace.head)

-- the headline holds of the report and of what the trace's lines left
abbrev pub HasHeadline : Trace → Report → AnyHall → Type 0
HasHeadline trace report (Plain hall) = Headline plain_names trace report hall
HasHeadline trace report (Named hall) = Headline cache_names trace report hall

-- The bytes, at most so many, are the text of a valid trace. The report stands for this trace and for the hall that its lines left, and the headline holds of all three.
pub record Replays (report : Report) (ended : AnyHall) (bytes : List ℕ) : Type 0 where
  pub within : length bytes ≤ most_bytes
  pub trace : Trace
  pub text : IsTraceText bytes trace
  pub valid : IsValid trace
  pub stands : StandsFor trace report
  pub hall : LeavesHall trace report ended
  pub headline : HasHeadline trace report ended

-- The headline holds of the report and of its hall, for a valid trace. Where the source reports its bytes, they are the text of this trace.
pub record KeepsHeadline (left : Option (List ℕ)) (report : Report) (ended : AnyHall) : Type 0 where
  pub trace : Trace
  pub valid : IsValid trace
  pub text : IfSome left (λ bytes. IsTraceText bytes trace)
  pub headline : HasHeadline trace report ended

-- the bytes are the text of a trace, at most so many
abbrev pub AreInput : List ℕ → Type 0
AreInput bytes = (length bytes ≤ most_bytes) × ((trace : Trace) × IsTraceText bytes trace)

-- at most so many bytes have a bad line, and this refusal names the first such
pub record RefusesTrace (refused : TraceRefused) (bytes : List ℕ) : Type 0 where
  pub within : length bytes ≤ most_bytes
  pub why : IsRefusedAt trace_test bytes refused.line refused.kind

-- the bytes are too many, or are refused for some reason
abbrev pub AreRefused : List ℕ → Type 0
AreRefused bytes = (most_bytes < length bytes) ⊎ ((refused : TraceRefused) × RefusesTrace refused bytes)
