-- The rows of a valid header: each says its line, and conflicts with none before it.
use Rattle.std.proofs.Common.{Bool, true, false, List, [], ◌∷◌, Option, Some, None, refl, arith}
use Rattle.std.specs.Prelude.{All, IfSome, codes}
use Rattle.std.specs.Fmt.{decimal}
use Rattle.trace_text.specs.declared.trace.ClockHead.{ClockHead}
use Rattle.trace_text.specs.declared.trace.Head.{Head}
use Rattle.trace_text.specs.declared.trace_reading.parsed_line.ParsedLine.{ParsedLine}
use Rattle.trace_text.specs.declared.trace_reading.parsed_line.ParsedLine.TheVariants as parsed
use Rattle.trace_text.specs.declared.trace.Version.{Version}
use Rattle.trace_text.specs.Grammar.{last_stage, version_of, workers_of}
use Rattle.trace_text.specs.Lines.{Line}
use Rattle.trace_text.specs.Valid.{ClockFits, HeadFits, IsKnown, LinesFit}
use Rattle.trace_print.proofs.CanonicalRows.{clock_rows, detail_rows, head_rows}
use Rattle.trace_print.proofs.RowParsed.{parsed_clock, parsed_detail, parsed_head, workers_row_says, domains_row_says, clock_row_says, detail_row_says}
use Rattle.trace_print.proofs.TraceRebuilt.{Stands, Applies, behind, part, applies_nothing, applies_append, stands_within, may_stand, next_line}
use Rattle.trace_print.proofs.TraceRebuiltZones.{zones_step, names_step}

-- ---- the lines that stand once

clock_step : (h : Head) (o : Option ClockHead) (before : List ParsedLine) (rest : List Line) → IfSome o ClockFits → Stands before (part h None false [] None) [] rest 3 3
    → Applies before (clock_rows o) (parsed_clock o) (part h o false [] None) [] rest 3 4
clock_step h None before rest fits stands =
    applies_nothing (stands_within 3 4 (omega arith) (omega arith) stands)
clock_step h (Some c) before rest fits stands =
    let follows = may_stand 3 3 (omega arith) (omega arith) stands in
    next_line _ (parsed.Clock c) stands
    (clock_row_says (version_of before) (last_stage before) (workers_of before) c follows fits)
    (record {
      clear = record { clock = refl; names = refl; name = refl; zone = refl; most = refl; filled = refl; empty = refl; opened = refl; closed = refl; away = refl; there = refl };
      head_is = refl;
      entry_is = refl;
      fit = stands.fit;
      known = stands.known;
      above = omega arith;
      below = omega arith;
    })

detail_step : (h : Head) (clock : Option ClockHead) (d : Bool) (before : List ParsedLine) (rest : List Line) → Stands before (part h clock false [] None) [] rest 3 4
    → Applies before (detail_rows d) (parsed_detail d) (part h clock d [] None) [] rest 3 6
detail_step h clock false before rest stands =
    applies_nothing (stands_within 3 6 (omega arith) (omega arith) stands)
detail_step h clock true before rest stands =
    let follows = may_stand 3 4 (omega arith) (omega arith) stands in
    next_line _ parsed.Detail stands
    (detail_row_says (version_of before) (last_stage before) (workers_of before) follows)
    (record {
      clear = record { clock = refl; names = refl; name = refl; zone = refl; most = refl; filled = refl; empty = refl; opened = refl; closed = refl; away = refl; there = refl };
      head_is = refl;
      entry_is = refl;
      fit = stands.fit;
      known = stands.known;
      above = omega arith;
      below = omega arith;
    })

-- ---- the whole header

-- behind the first line there is nothing yet, and the counts follow
first_line : (version : Version) (rest : List Line) → LinesFit [] rest → All (IsKnown version) rest
    → Stands (parsed.Uma version ∷ []) (record { workers = 0; domains = 0; clock = None; detail = false; zones = []; names = None }) [] rest 1 1
first_line version rest fit known = record { head_is = refl; entries_are = refl; fit = fit; known = known; above = omega arith; below = omega arith }

workers_step : (version : Version) (h : Head) (rest : List Line) → HeadFits h → LinesFit [] rest → All (IsKnown version) rest
    → Applies (parsed.Uma version ∷ []) ((codes "workers" ∷ decimal h.workers ∷ []) ∷ []) (parsed.Workers h.workers ∷ [])
    (record { workers = h.workers; domains = 0; clock = None; detail = false; zones = []; names = None }) [] rest 2 2
workers_step version h rest fits fit known =
    next_line (codes "workers" ∷ decimal h.workers ∷ []) (parsed.Workers h.workers) (first_line version rest fit known)
    (workers_row_says version (last_stage (parsed.Uma version ∷ [])) 0 h.workers refl fits.workers)
    (record {
      clear = record { clock = refl; names = refl; name = refl; zone = refl; most = refl; filled = refl; empty = refl; opened = refl; closed = refl; away = refl; there = refl };
      head_is = refl;
      entry_is = refl;
      fit = fit;
      known = known;
      above = omega arith;
      below = omega arith;
    })

domains_step : (version : Version) (h : Head) (rest : List Line) → HeadFits h → LinesFit [] rest → All (IsKnown version) rest
    → Stands (parsed.Workers h.workers ∷ parsed.Uma version ∷ []) (record { workers = h.workers; domains = 0; clock = None; detail = false; zones = []; names = None }) [] rest 2 2
    → Applies (parsed.Workers h.workers ∷ parsed.Uma version ∷ []) ((codes "domains" ∷ decimal h.domains ∷ []) ∷ []) (parsed.Domains h.domains ∷ []) (part h None false [] None) [] rest 3 3
domains_step version h rest fits fit known stands =
    next_line (codes "domains" ∷ decimal h.domains ∷ []) (parsed.Domains h.domains) stands
    (domains_row_says version (last_stage (parsed.Workers h.workers ∷ parsed.Uma version ∷ [])) h.workers h.domains refl fits.domains)
    (record {
      clear = record { clock = refl; names = refl; name = refl; zone = refl; most = refl; filled = refl; empty = refl; opened = refl; closed = refl; away = refl; there = refl };
      head_is = refl;
      entry_is = refl;
      fit = fit;
      known = known;
      above = omega arith;
      below = omega arith;
    })

-- each row of a valid header says its line, and behind them stands just this header
pub head_step : (version : Version) (h : Head) (rest : List Line) → HeadFits h → LinesFit [] rest → All (IsKnown version) rest
    → Applies (parsed.Uma version ∷ []) (head_rows h) (parsed_head h) h [] rest 3 9
head_step version h rest fits fit known =
    let before : List ParsedLine = parsed.Domains h.domains ∷ parsed.Workers h.workers ∷ parsed.Uma version ∷ [] in
    let workers = workers_step version h rest fits fit known in
    let domains = domains_step version h rest fits fit known workers.stands in
    let clock = clock_step h h.clock before rest fits.clock domains.stands in
    let detail = detail_step h h.clock h.detail (behind (parsed_clock h.clock) before) rest clock.stands in
    let zones = zones_step h [] h.zones (behind (parsed_detail h.detail) (behind (parsed_clock h.clock) before)) rest fits refl detail.stands in
    let names = names_step h _ rest fits zones.stands in
    applies_append workers (applies_append domains (applies_append clock (applies_append detail (applies_append zones names))))
