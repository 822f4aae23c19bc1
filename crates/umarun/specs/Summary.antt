-- What the command `bulk` writes (own).
use Rattle.std.specs.Prelude.{ℕ, ◌+◌, List, [], ◌∷◌, ◌++◌, map, flat_map, take, Option, None, Some, codes, decimal}
use Rattle.trace_lines.specs.CanonicalLine.{line as words_line}
use Rattle.zone_stats.specs.declared.report.NamesLine.{NamesLine}
use Rattle.zone_stats.specs.declared.report.Report.{Report}
use Rattle.zone_stats.specs.declared.report.ZoneLine.{ZoneLine}

-- `zone NAME REQ USED FAIL`
abbrev pub zone_summary : ZoneLine → List ℕ
zone_summary line = words_line (codes "zone" ∷ line.name ∷ map decimal (line.req ∷ line.used ∷ line.fail ∷ []))

-- `looks LOOKS` and `binds N`, where N is all binds, the refused ones among them
abbrev pub names_summary : Option NamesLine → List ℕ
names_summary None = []
names_summary (Some names) =
    words_line (codes "looks" ∷ decimal names.looks ∷ []) ++ words_line (codes "binds" ∷ decimal (names.binds + names.refused) ∷ [])

-- `bulk SEED WORKERS OPS`, a line for each of the zones `alpha`, `beta` and `gamma`, behind which that of the names stands, and the lines of the names
unfoldable pub summary_text : ℕ → ℕ → ℕ → Report → List ℕ
summary_text seed workers ops report =
    words_line (codes "bulk" ∷ map decimal (seed ∷ workers ∷ ops ∷ []))
    ++ flat_map zone_summary (take 3 report.lines)
    ++ names_summary report.names
