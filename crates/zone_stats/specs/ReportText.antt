-- The text of a report (own; its columns are those of FreeBSD's `vmstat -z`).
use Rattle.std.specs.Prelude.{ℕ, ◌-◌, if◌then◌else◌, List, [], ◌∷◌, ◌++◌, length, map, flat_map, replicate, Option, None, Some, codes, decimal}
use Rattle.trace_lines.specs.CanonicalLine.{line as words_line}
use Rattle.zone_stats.specs.declared.report.ClockLine.{ClockLine}
use Rattle.zone_stats.specs.declared.report.HookLine.{HookLine}
use Rattle.zone_stats.specs.declared.report.KegLine.{KegLine}
use Rattle.zone_stats.specs.declared.report.NamesLine.{NamesLine}
use Rattle.zone_stats.specs.declared.report.Report.{Report}
use Rattle.zone_stats.specs.declared.report.ZoneLine.{ZoneLine}

-- a text left in so many places, filled up with spaces; one that is too long is whole
abbrev pub padded_left : ℕ → List ℕ → List ℕ
padded_left width text = text ++ replicate (width - length text) 32

-- a text right in so many places
abbrev pub padded_right : ℕ → List ℕ → List ℕ
padded_right width text = replicate (width - length text) 32 ++ text

-- a column of numbers: its title, its width, and what it shows of a zone
pub record Column : Type 0 where
  pub title : List ℕ
  pub width : ℕ
  pub value : ZoneLine → ℕ

-- the columns right of ITEM; no request of this allocator sleeps
abbrev pub columns : List Column
columns =
    record { title = codes "SIZE"; width = 5; value = λ line. line.size }
    ∷ record { title = codes "LIMIT"; width = 8; value = λ line. line.limit }
    ∷ record { title = codes "USED"; width = 8; value = λ line. line.used }
    ∷ record { title = codes "FREE"; width = 8; value = λ line. line.free }
    ∷ record { title = codes "REQ"; width = 10; value = λ line. line.req }
    ∷ record { title = codes "FAIL"; width = 8; value = λ line. line.fail }
    ∷ record { title = codes "SLEEP"; width = 5; value = λ line. 0 }
    ∷ record { title = codes "XDOMAIN"; width = 8; value = λ line. line.xdomain }
    ∷ []

-- a line of the table: the item left in 16 places, and each column's cell right in its own, after one space
abbrev pub table_line : List ℕ → (Column → List ℕ) → List ℕ
table_line item cell =
    padded_left 16 item ++ flat_map (λ column. 32 ∷ padded_right column.width (cell column)) columns ++ 10 ∷ []

-- the first line of the table: the titles
abbrev pub header_text : List ℕ
header_text = table_line (codes "ITEM") (λ column. column.title)

-- a zone's line of the table: its name and its numbers
abbrev pub zone_text : ZoneLine → List ℕ
zone_text line = table_line line.name (λ column. decimal (column.value line))

-- the table: the header, and one line a zone
abbrev pub zones_text : List ZoneLine → List ℕ
zones_text lines = header_text ++ flat_map zone_text lines

-- the lines of the hooks
abbrev pub hook_text : HookLine → List ℕ
hook_text line = words_line (codes "hooks" ∷ line.name
    ∷ map decimal (line.inits ∷ line.ctors ∷ line.dtors ∷ line.finis ∷ line.deferred ∷ []))

abbrev pub keg_text : KegLine → List ℕ
keg_text line = words_line (codes "keg" ∷ line.name
    ∷ map decimal (line.slabs ∷ line.free ∷ line.inits ∷ line.finis ∷ []))

abbrev pub detail_text : Report → List ℕ
detail_text report = if report.detail then flat_map hook_text report.hooks ++ flat_map keg_text report.kegs else []

-- the line of the clock
abbrev pub clock_text : Option ClockLine → List ℕ
clock_text None = []
clock_text (Some line) = words_line (codes "clock"
    ∷ map decimal (line.read ∷ line.write ∷ line.entered ∷ line.late ∷ []))

-- the line of the name cache
abbrev pub names_text : Option NamesLine → List ℕ
names_text None = []
names_text (Some line) = words_line (codes "names"
    ∷ map decimal (line.looks ∷ line.hits ∷ line.misses ∷ line.late ∷ line.binds ∷ line.unbound ∷ line.refused ∷ []))

-- the whole text of a report
abbrev pub report_text : Report → List ℕ
report_text report =
    zones_text report.lines ++ detail_text report ++ clock_text report.clock ++ names_text report.names
