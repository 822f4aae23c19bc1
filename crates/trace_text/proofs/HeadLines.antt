-- What a line of the header says is in its ranges.
use Rattle.std.proofs.Common.{◌≡◌, ℕ, ◌%◌, ◌^◌, ◌<◌, ◌≤◌, true, leb, List, None, IfOk, refl}
use Rattle.std.specs.Prelude.{◌&&◌}
use Rattle.std.proofs.lemmas.Bool.{leb-true, and_parts}
use Rattle.trace_lines.specs.declared.refused.TraceKind.TheVariants as kinds
use Rattle.trace_lines.specs.Fields.{two_fields, four_fields, five_fields, number_in, ranged, number_within}
use Rattle.zone_stats.specs.Name.{IsName}
use Rattle.trace_text.specs.declared.trace.NamesHead.{NamesHead}
use Rattle.trace_text.specs.declared.trace.ZoneHead.{ZoneHead}
use Rattle.trace_text.specs.declared.trace_reading.parsed_line.ParsedLine.{ParsedLine}
use Rattle.trace_text.specs.declared.trace_reading.parsed_line.ParsedLine.TheVariants as parsed
use Rattle.trace_text.specs.declared.trace_reading.parsed_line.SecondHead.{SecondHead}
use Rattle.trace_text.specs.Limits.{IsWithin}
use Rattle.trace_schedule.specs.ScheduleGrammar.{start_in, window_in}
use Rattle.trace_text.specs.TraceLine.{is_name, name_in, kind_in, clock_in, seven_fields, zone_in, second_in, names_in}
use Rattle.trace_text.specs.Valid.{ClockFits, PrimaryFits}
use Rattle.trace_text.proofs.Names.{IsName-from_is_name}
use Rattle.trace_schedule.proofs.ScheduleRange.{start_fits, window_fits}
use Rattle.trace_schedule.proofs.Steps.{any, step, from_ok, where_true}

-- ---- what a line of the header says by itself

-- a primary zone's own fields
pub record ZoneIsRead (z : ZoneHead) : Type 0 where
  pub name : IsName z.name
  pub alone : z.parent ≡ None
  pub primary : PrimaryFits z
  pub bucket : IsWithin 4 64 z.bucket
  pub limit : z.limit ≤ 1000000

-- a secondary zone's own fields
pub record SecondIsRead (z : SecondHead) : Type 0 where
  pub name : IsName z.name
  pub bucket : IsWithin 4 64 z.bucket
  pub limit : z.limit ≤ 1000000

-- the fields of the names
pub record NamesAreRead (n : NamesHead) : Type 0 where
  pub name : IsName n.name
  pub rows : IsWithin 1 4096 n.rows
  pub slabs : IsWithin 1 1024 n.slabs
  pub bucket : IsWithin 4 64 n.bucket

-- what a header line says
abbrev pub HeadIsRead : ParsedLine → Type 0
HeadIsRead (parsed.Workers count) = IsWithin 1 16 count
HeadIsRead (parsed.Domains count) = IsWithin 1 4 count
HeadIsRead (parsed.Clock clock) = ClockFits clock
HeadIsRead (parsed.Zone zone) = ZoneIsRead zone
HeadIsRead (parsed.Second second) = SecondIsRead second
HeadIsRead (parsed.Names names) = NamesAreRead names
HeadIsRead other = Unit {0}

-- ---- the fields

bounds : (low high n : ℕ) → (leb low n && leb n high) ≡ true → IsWithin low high n
bounds low high n e = let both = and_parts (leb low n) (leb n high) e in (leb-true low n both.0, leb-true n high both.1)

pub within_fits : (low high : ℕ) (field : List ℕ) → IfOk (number_within low high field) (IsWithin low high)
within_fits low high field =
    any (IsWithin low high) (number_in field) (λ n. ranged (leb low n && leb n high) n)
    (λ n. where_true (IsWithin low high) (leb low n && leb n high) n kinds.Range (bounds low high n))

name_is_name : (field : List ℕ) → IfOk (name_in field) IsName
name_is_name field = where_true IsName (is_name field) field kinds.Name (IsName-from_is_name field)

abbrev IsStart : ℕ → Type 0
IsStart n = (n % 2 ≡ 1) × (n < 2 ^ 63)

abbrev IsWindow : ℕ → Type 0
IsWindow n = (n % 2 ≡ 0) × (4 ≤ n) × (n ≤ 2 ^ 30)

pub clock_is_read : (fields : List (List ℕ)) → IfOk (clock_in fields) ClockFits
clock_is_read fields =
    any ClockFits (two_fields fields) _ (λ parts.
    step IsStart ClockFits (start_in parts.0) _ (from_ok IsStart (start_in parts.0) (start_fits parts.0)) (λ start s.
    step IsWindow ClockFits (window_in parts.1) _ (from_ok IsWindow (window_in parts.1) (window_fits parts.1)) (λ window w.
    record { start_odd = s.0; start = s.1; window_even = w.0; window = (w.1, w.2) })))

pub zone_is_read : (fields : List (List ℕ)) → IfOk (zone_in fields) ZoneIsRead
zone_is_read fields =
    any ZoneIsRead (seven_fields fields) _ (λ parts.
    step IsName ZoneIsRead (name_in parts.0) _ (name_is_name parts.0) (λ name n.
    step (IsWithin 8 4096) ZoneIsRead (number_within 8 4096 parts.1) _ (within_fits 8 4096 parts.1) (λ size s.
    step (IsWithin 1 1024) ZoneIsRead (number_within 1 1024 parts.2.0) _ (within_fits 1 1024 parts.2.0) (λ slabs l.
    step (IsWithin 4 64) ZoneIsRead (number_within 4 64 parts.2.1) _ (within_fits 4 64 parts.2.1) (λ bucket b.
    step (IsWithin 0 1000000) ZoneIsRead (number_within 0 1000000 parts.2.2) _ (within_fits 0 1000000 parts.2.2) (λ limit m.
    step (IsWithin 0 65535) ZoneIsRead (number_within 0 65535 parts.2.3) _ (within_fits 0 65535 parts.2.3) (λ reserve r.
    any ZoneIsRead (kind_in parts.2.4) _ (λ kind.
    record { name = n; alone = refl; primary = record { size = s; slabs = l; reserve = r.1 }; bucket = b; limit = m.1 }))))))))

pub second_is_read : (fields : List (List ℕ)) → IfOk (second_in fields) SecondIsRead
second_is_read fields =
    any SecondIsRead (five_fields fields) _ (λ parts.
    step IsName SecondIsRead (name_in parts.0) _ (name_is_name parts.0) (λ name n.
    any SecondIsRead (name_in parts.1) _ (λ of.
    step (IsWithin 4 64) SecondIsRead (number_within 4 64 parts.2) _ (within_fits 4 64 parts.2) (λ bucket b.
    step (IsWithin 0 1000000) SecondIsRead (number_within 0 1000000 parts.3) _ (within_fits 0 1000000 parts.3) (λ limit m.
    any SecondIsRead (kind_in parts.4) _ (λ kind.
    record { name = n; bucket = b; limit = m.1 }))))))

pub names_are_read : (fields : List (List ℕ)) → IfOk (names_in fields) NamesAreRead
names_are_read fields =
    any NamesAreRead (four_fields fields) _ (λ parts.
    step IsName NamesAreRead (name_in parts.0) _ (name_is_name parts.0) (λ name n.
    step (IsWithin 1 4096) NamesAreRead (number_within 1 4096 parts.1) _ (within_fits 1 4096 parts.1) (λ rows r.
    step (IsWithin 1 1024) NamesAreRead (number_within 1 1024 parts.2) _ (within_fits 1 1024 parts.2) (λ slabs l.
    step (IsWithin 4 64) NamesAreRead (number_within 4 64 parts.3) _ (within_fits 4 64 parts.3) (λ bucket b.
    record { name = n; rows = r; slabs = l; bucket = b })))))
