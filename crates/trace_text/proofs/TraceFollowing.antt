-- What a line says is what is wrong with it or nothing, and leads from the state before it to the one after it.
use Rattle.std.proofs.Common.{◌≡◌, ℕ, ◌+◌, ◌*◌, ◌≤◌, get_or, length, inl, inr, Bool, true, false, List, [], ◌∷◌, ◌++◌, Option, Some, None, Result, Ok, Err, refl, sym, ap, ◌∙◌, subst}
use Rattle.std.specs.Prelude.{All, is_some, OnOk, IfErr, ◌&&◌, ◌||◌, ◌==◌, not}
use Rattle.std.proofs.lemmas.Bool.{cases_lt}
use Rattle.std.proofs.lemmas.List.{get_or_past}
use Rattle.trace_lines.specs.declared.refused.TraceKind.{TraceKind}
use Rattle.trace_lines.specs.declared.refused.LineRefused.{LineRefused}
use Rattle.trace_lines.specs.declared.refused.LineRefused.TheVariants as refusals
use Rattle.trace_lines.specs.Fields.{wrong}
use Rattle.trace_lines.specs.TextLines.{TextLine, is_ended}
use Rattle.trace_lines.specs.Taking.{ReadsLine}
use Rattle.trace_text.specs.declared.trace.Between.TheVariants.{Give, SetMax}
use Rattle.trace_text.specs.declared.trace.ZoneHead.{ZoneHead}
use Rattle.trace_text.specs.declared.trace.Op.{Op}
use Rattle.trace_text.specs.declared.trace.Op.TheVariants as ops
use Rattle.trace_text.specs.declared.trace_reading.fields.Entry.{Entry}
use Rattle.trace_text.specs.declared.trace_reading.fields.Entry.TheVariants as entries
use Rattle.trace_text.specs.declared.trace_reading.reader.TraceReader.{TraceReader}
use Rattle.trace_text.specs.declared.trace_reading.parsed_line.ParsedLine.{ParsedLine}
use Rattle.trace_text.specs.declared.trace_reading.parsed_line.ParsedLine.TheVariants as parsed
use Rattle.trace_text.specs.declared.trace_reading.parsed_line.ZoneWork.{ZoneWork}
use Rattle.trace_text.specs.declared.trace_reading.parsed_line.ZoneWork.TheVariants as works
use Rattle.trace_text.specs.declared.trace_reading.reader.Stage.TheVariants as stages
use Rattle.trace_text.specs.declared.trace_reading.tables.Tables.{Tables}
use Rattle.trace_text.specs.declared.trace.Version.{Version}
use Rattle.trace_text.specs.declared.trace.Version.TheVariants as versions
use Rattle.trace_text.specs.Grammar.{head_wrong, stage_of, version_after, version_of, version_or_first, workers_after, domains_after, clock_after, detail_after, names_after, new_zone, last_stage, workers_of, zones_of, entry_of, entry_in, limit_in, zone_named, line_of, done, finds_filled, finds_empty, finds_open, finds_closed, finds_away, finds_there, conflict_after, is_filled_by, is_open_by, is_away_by, parsed_lines, and_parsed, tells, trace_test}
use Rattle.trace_text.specs.Limits.{last_slot, slots}
use Rattle.trace_text.specs.Reading.{held, in_section, is_away}
use Rattle.trace_text.specs.TraceApplied.{Applies, MarksAll, conflict_found}
use Rattle.trace_text.specs.TraceKnown.{Knows, KnowsParsed, KnowsTables, is_start, is_last}
use Rattle.trace_text.specs.TraceLine.{says, version_in}
use Rattle.trace_text.specs.TraceShown.{slot_at, is_marked, filled_after, opened_after, left_after, NamesFit}
use Rattle.trace_text.specs.TraceTables.{AreEmpty}
use Rattle.trace_text.proofs.TraceConflict.{same_conflict}
use Rattle.trace_text.proofs.TraceSlots.{filled_next, opened_next, left_next}
use Rattle.trace_text.proofs.TraceSpoken.{end_is_told, head_no_end}

-- ---- the tables say what the lines say, of the slots that a line names

abbrev pub SameSlots : (ℕ → ℕ → Bool) → (ℕ → ℕ → Bool) → Type 0
SameSlots a b = (w slot : ℕ) → slot ≤ last_slot → a w slot ≡ b w slot

abbrev pub SameWorkers : (ℕ → Bool) → (ℕ → Bool) → Type 0
SameWorkers p q = (w : ℕ) → p w ≡ q w

same_filled : (a b : ℕ → ℕ → Bool) → SameSlots a b → (n : ℕ) (s : ParsedLine) → NamesFit n s → finds_filled a s ≡ finds_filled b s
same_filled a b same n (parsed.Uma version) fit = refl
same_filled a b same n (parsed.Workers count) fit = refl
same_filled a b same n (parsed.Domains count) fit = refl
same_filled a b same n (parsed.Clock clock) fit = refl
same_filled a b same n parsed.Detail fit = refl
same_filled a b same n (parsed.Zone zone) fit = refl
same_filled a b same n (parsed.Second second) fit = refl
same_filled a b same n (parsed.Names names) fit = refl
same_filled a b same n (parsed.Work w op) fit = refl
same_filled a b same n (parsed.InZone w zone (works.Alloc slot arg reserve)) fit = same w slot fit.1
same_filled a b same n (parsed.InZone w zone works.Trim) fit = refl
same_filled a b same n (parsed.InZone w zone works.Drain) fit = refl
same_filled a b same n (parsed.InZone w zone works.DrainSeat) fit = refl
same_filled a b same n (parsed.InZone w zone (works.Prealloc items)) fit = refl
same_filled a b same n parsed.Round fit = refl
same_filled a b same n (parsed.Give giver slot taker slot2) fit = ap (λ x. (giver == taker && slot == slot2) || x) (same taker slot2 fit.3)
same_filled a b same n (parsed.SetMax zone limit) fit = refl
same_filled a b same n parsed.End fit = refl

same_empty : (a b : ℕ → ℕ → Bool) → SameSlots a b → (n : ℕ) (s : ParsedLine) → NamesFit n s → finds_empty a s ≡ finds_empty b s
same_empty a b same n (parsed.Uma version) fit = refl
same_empty a b same n (parsed.Workers count) fit = refl
same_empty a b same n (parsed.Domains count) fit = refl
same_empty a b same n (parsed.Clock clock) fit = refl
same_empty a b same n parsed.Detail fit = refl
same_empty a b same n (parsed.Zone zone) fit = refl
same_empty a b same n (parsed.Second second) fit = refl
same_empty a b same n (parsed.Names names) fit = refl
same_empty a b same n (parsed.Work w (ops.Alloc zone slot arg reserve)) fit = refl
same_empty a b same n (parsed.Work w (ops.Free slot)) fit = ap not (same w slot fit.1)
same_empty a b same n (parsed.Work w ops.Enter) fit = refl
same_empty a b same n (parsed.Work w ops.Exit) fit = refl
same_empty a b same n (parsed.Work w (ops.Bind key value)) fit = refl
same_empty a b same n (parsed.Work w (ops.Unbind key)) fit = refl
same_empty a b same n (parsed.Work w (ops.Look key)) fit = refl
same_empty a b same n (parsed.Work w (ops.Trim zone)) fit = refl
same_empty a b same n (parsed.Work w (ops.Drain zone)) fit = refl
same_empty a b same n (parsed.Work w (ops.DrainSeat zone)) fit = refl
same_empty a b same n (parsed.Work w (ops.Prealloc zone items)) fit = refl
same_empty a b same n (parsed.Work w ops.Away) fit = refl
same_empty a b same n (parsed.Work w ops.Back) fit = refl
same_empty a b same n (parsed.InZone w zone work) fit = refl
same_empty a b same n parsed.Round fit = refl
same_empty a b same n (parsed.Give giver slot taker slot2) fit = ap not (same giver slot fit.1)
same_empty a b same n (parsed.SetMax zone limit) fit = refl
same_empty a b same n parsed.End fit = refl

open_op : (p q : ℕ → Bool) → SameWorkers p q → (w : ℕ) (op : Op) → (finds_open p (parsed.Work w op) ≡ finds_open q (parsed.Work w op)) × (finds_closed p (parsed.Work w op) ≡ finds_closed q (parsed.Work w op))
open_op p q same w (ops.Alloc zone slot arg reserve) = (refl, refl)
open_op p q same w (ops.Free slot) = (refl, refl)
open_op p q same w ops.Enter = (same w, refl)
open_op p q same w ops.Exit = (refl, ap not (same w))
open_op p q same w (ops.Bind key value) = (refl, refl)
open_op p q same w (ops.Unbind key) = (refl, refl)
open_op p q same w (ops.Look key) = (refl, refl)
open_op p q same w (ops.Trim zone) = (refl, refl)
open_op p q same w (ops.Drain zone) = (refl, refl)
open_op p q same w (ops.DrainSeat zone) = (refl, refl)
open_op p q same w (ops.Prealloc zone items) = (refl, refl)
open_op p q same w ops.Away = (same w, refl)
open_op p q same w ops.Back = (refl, refl)

same_open : (p q : ℕ → Bool) → SameWorkers p q → (s : ParsedLine) → (finds_open p s ≡ finds_open q s) × (finds_closed p s ≡ finds_closed q s)
same_open p q same (parsed.Uma version) = (refl, refl)
same_open p q same (parsed.Workers count) = (refl, refl)
same_open p q same (parsed.Domains count) = (refl, refl)
same_open p q same (parsed.Clock clock) = (refl, refl)
same_open p q same parsed.Detail = (refl, refl)
same_open p q same (parsed.Zone zone) = (refl, refl)
same_open p q same (parsed.Second second) = (refl, refl)
same_open p q same (parsed.Names names) = (refl, refl)
same_open p q same (parsed.Work w op) = open_op p q same w op
same_open p q same (parsed.InZone w zone work) = (refl, refl)
same_open p q same parsed.Round = (refl, refl)
same_open p q same (parsed.Give giver slot taker slot2) = (refl, refl)
same_open p q same (parsed.SetMax zone limit) = (refl, refl)
same_open p q same parsed.End = (refl, refl)

away_op : (p q : ℕ → Bool) → SameWorkers p q → (w : ℕ) (op : Op) → (finds_away p (parsed.Work w op) ≡ finds_away q (parsed.Work w op)) × (finds_there p (parsed.Work w op) ≡ finds_there q (parsed.Work w op))
away_op p q same w (ops.Alloc zone slot arg reserve) = (same w, refl)
away_op p q same w (ops.Free slot) = (same w, refl)
away_op p q same w ops.Enter = (same w, refl)
away_op p q same w ops.Exit = (same w, refl)
away_op p q same w (ops.Bind key value) = (same w, refl)
away_op p q same w (ops.Unbind key) = (same w, refl)
away_op p q same w (ops.Look key) = (same w, refl)
away_op p q same w (ops.Trim zone) = (same w, refl)
away_op p q same w (ops.Drain zone) = (same w, refl)
away_op p q same w (ops.DrainSeat zone) = (same w, refl)
away_op p q same w (ops.Prealloc zone items) = (same w, refl)
away_op p q same w ops.Away = (same w, refl)
away_op p q same w ops.Back = (refl, ap not (same w))

same_away : (p q : ℕ → Bool) → SameWorkers p q → (s : ParsedLine) → (finds_away p s ≡ finds_away q s) × (finds_there p s ≡ finds_there q s)
same_away p q same (parsed.Work w op) = away_op p q same w op
same_away p q same (parsed.InZone w zone work) = (same w, refl)
same_away p q same other = (refl, refl)

same_found : (reader : TraceReader) (before : List ParsedLine) (n : ℕ) (s : ParsedLine) → NamesFit n s → KnowsParsed reader before → conflict_found reader s ≡ conflict_after before s
same_found reader before n s fit knows =
    let filled = same_filled (slot_at reader.tables.slots.items) (is_filled_by before) knows.tables.filled n s fit in
    let empty = same_empty (slot_at reader.tables.slots.items) (is_filled_by before) knows.tables.filled n s fit in
    let opened = same_open (is_marked reader.tables.sections.items) (is_open_by before) knows.tables.opened s in
    let left = same_away (is_marked reader.tables.away.items) (is_away_by before) knows.tables.left s in
    let agree = same_conflict (is_some reader.clock) (is_some reader.names) reader.zones (slot_at reader.tables.slots.items) (is_filled_by before) (is_marked reader.tables.sections.items) (is_open_by before) (is_marked reader.tables.away.items) (is_away_by before) s
    (record { filled = filled; empty = empty; opened = opened.0; closed = opened.1; away = left.0; there = left.1 }) in
    agree ∙ rw (knows.clock, knows.names, knows.zones) refl

-- ---- the tables after one line more

-- a move's first slot is one of a worker's
abbrev pub FirstFits : List Entry → Type 0
FirstFits [] = Unit {0}
FirstFits (entries.Does w op ∷ more) = Unit {0}
FirstFits (entries.Moves (Give giver from taker to) ∷ more) = from ≤ last_slot
FirstFits (entries.Moves (SetMax zone limit) ∷ more) = Unit {0}
FirstFits (entries.Round ∷ more) = Unit {0}

in_zone_first : (w : ℕ) (work : ZoneWork) (place : Option ℕ) → FirstFits (entry_in w work place)
in_zone_first w work None = tt
in_zone_first w work (Some place) = tt

limit_first : (limit : ℕ) (place : Option ℕ) → FirstFits (limit_in limit place)
limit_first limit None = tt
limit_first limit (Some place) = tt

first_fits : (n : ℕ) (zones : List ZoneHead) (s : ParsedLine) → NamesFit n s → FirstFits (entry_of zones s)
first_fits n zones (parsed.Uma version) fit = tt
first_fits n zones (parsed.Workers count) fit = tt
first_fits n zones (parsed.Domains count) fit = tt
first_fits n zones (parsed.Clock clock) fit = tt
first_fits n zones parsed.Detail fit = tt
first_fits n zones (parsed.Zone zone) fit = tt
first_fits n zones (parsed.Second second) fit = tt
first_fits n zones (parsed.Names names) fit = tt
first_fits n zones (parsed.Work w op) fit = tt
first_fits n zones (parsed.InZone w zone work) fit = in_zone_first w work (zone_named zones zone)
first_fits n zones parsed.Round fit = tt
first_fits n zones (parsed.Give giver slot taker slot2) fit = fit.1
first_fits n zones (parsed.SetMax zone limit) fit = limit_first limit (zone_named zones zone)
first_fits n zones parsed.End fit = tt

filled_as : (e : Entry) (more : List Entry) (a b : ℕ → ℕ → Bool) → SameSlots a b → FirstFits (e ∷ more) → (w slot : ℕ) → slot ≤ last_slot → filled_after e a w slot ≡ filled_after e b w slot
filled_as (entries.Does v op) more a b same fit w slot le = rw (same w slot le) refl
filled_as (entries.Moves (Give giver from taker to)) more a b same fit w slot le = rw (same giver from fit, same w slot le) refl
filled_as (entries.Moves (SetMax zone limit)) more a b same fit w slot le = same w slot le
filled_as entries.Round more a b same fit w slot le = same w slot le

opened_as : (e : Entry) (p q : ℕ → Bool) → SameWorkers p q → (w : ℕ) → opened_after e p w ≡ opened_after e q w
opened_as (entries.Does v op) p q same w = rw (same w) refl
opened_as (entries.Moves between) p q same w = same w
opened_as entries.Round p q same w = same w

left_as : (e : Entry) (p q : ℕ → Bool) → SameWorkers p q → (w : ℕ) → left_after e p w ≡ left_after e q w
left_as (entries.Does v op) p q same w = rw (same w) refl
left_as (entries.Moves between) p q same w = same w
left_as entries.Round p q same w = same w

first_line : (e : Entry) (more : List Entry) → line_of (e ∷ more) ≡ line_of (e ∷ [])
first_line (entries.Does w op) more = refl
first_line (entries.Moves between) more = refl
first_line entries.Round more = refl

none_set : (table : List Bool) → All (λ is. is ≡ false) table → (i : ℕ) → get_or table i false ≡ false
none_set table all i = elim (cases_lt i (length table)) [
  | inl within ↦ all i false within
  | inr past ↦ get_or_past table i false past
]

-- before the first line
empty_tables : (tables : Tables) → AreEmpty tables → KnowsTables tables.slots.items tables.sections.items tables.away.items []
empty_tables tables empty = record {
  filled = λ w slot le. none_set tables.slots.items empty.empty (w * slots + slot);
  opened = λ w. none_set tables.sections.items empty.closed w;
  left = λ w. none_set tables.away.items empty.there w;
}

pub knows_none : (reader : TraceReader) → reader.stage ≡ stages.Start → reader.version ≡ versions.One → reader.workers ≡ 0 → reader.domains ≡ 0 → reader.clock ≡ None → reader.detail ≡ false → reader.zones ≡ [] → reader.names ≡ None
    → reader.entries ≡ [] → AreEmpty reader.tables → Knows reader []
knows_none reader stage version workers domains clock detail zones names entries empty = record {
  parsed = record { stage = stage; version = version; workers = workers; domains = domains; clock = clock; detail = detail; zones = zones; names = names; entries = entries; tables = empty_tables reader.tables empty };
  begun = ap is_start stage;
  ended = ap is_last stage;
}

-- the first line
pub begins : (old new : TraceReader) (number : ℕ) (fields : List (List ℕ)) (version : Version) → is_start old.stage ≡ true → version_in fields ≡ Some version
    → new ≡ record old { stage = stages.Uma; version = version }
    → ReadsLine trace_test Knows old number fields (Ok tt) new
begins old new number fields version start head is [] shown =
    let e : head_wrong (is_some (version_in fields)) ≡ None = ap (λ (o : Option Version). head_wrong (is_some o)) head in
    let P : TraceReader → Type 0 = λ r. Knows r (record { number = number; fields = fields } ∷ []) in
    let s = shown.parsed in
    let first : version ≡ version_or_first (version_in fields) = sym (ap version_or_first head) in
    let known : KnowsParsed (record old { stage = stages.Uma; version = version }) (parsed.Uma (version_or_first (version_in fields)) ∷ []) = record {
      stage = refl;
      version = first;
      workers = s.workers;
      domains = s.domains;
      clock = s.clock;
      detail = s.detail;
      zones = s.zones ∙ refl;
      names = s.names;
      entries = s.entries;
      tables = record { filled = s.tables.filled; opened = s.tables.opened; left = s.tables.left };
    } in
    (e, subst P (sym is) (record { parsed = known; begun = refl; ended = sym (head_no_end fields e) }))
begins old new number fields version start head is (last ∷ before) shown = absurd (let some = shown.begun in cc)

tables_next : (old new : Tables) (before : List ParsedLine) (found : List Entry) → FirstFits found → MarksAll found old new → KnowsTables old.slots.items old.sections.items old.away.items before
    → ((w slot : ℕ) → slot ≤ last_slot → slot_at new.slots.items w slot ≡ is_some (held (line_of found ++ done before) w slot))
    × ((w : ℕ) → is_marked new.sections.items w ≡ in_section (line_of found ++ done before) w)
    × ((w : ℕ) → is_marked new.away.items w ≡ is_away (line_of found ++ done before) w)
tables_next old new before [] fits marks knows = (
  λ w slot le. ap (λ (t : Tables). slot_at t.slots.items w slot) marks ∙ knows.filled w slot le,
  λ w. ap (λ (t : Tables). is_marked t.sections.items w) marks ∙ knows.opened w,
  λ w. ap (λ (t : Tables). is_marked t.away.items w) marks ∙ knows.left w,
)
tables_next old new before (e ∷ more) fits marks knows = (
  λ w slot le. marks.filled w slot le ∙ (filled_as e more (slot_at old.slots.items) (is_filled_by before) knows.filled fits w slot le
      ∙ (sym (filled_next e (done before) w slot) ∙ ap (λ ls. is_some (held (ls ++ done before) w slot)) (sym (first_line e more)))),
  λ w. marks.opened w ∙ (opened_as e (is_marked old.sections.items) (is_open_by before) knows.opened w
      ∙ (sym (opened_next e (done before) w) ∙ ap (λ ls. in_section (ls ++ done before) w) (sym (first_line e more)))),
  λ w. marks.left w ∙ (left_as e (is_marked old.away.items) (is_away_by before) knows.left w
      ∙ (sym (left_next e (done before) w) ∙ ap (λ ls. is_away (ls ++ done before) w) (sym (first_line e more)))),
)

-- the state after lines that said this, and then what it took in
parsed_next : (old new : TraceReader) (before : List ParsedLine) (n : ℕ) (s : ParsedLine) → NamesFit n s → Applies s old new → KnowsParsed old before → KnowsParsed new (s ∷ before)
parsed_next old new before n s fit applies knows =
    let P : List ZoneHead → Type 0 = λ zones. MarksAll (entry_of zones s) old.tables new.tables in
    let tables = tables_next old.tables new.tables before (entry_of (zones_of before) s) (first_fits n (zones_of before) s fit) (subst P knows.zones applies.marks) knows.tables in
    record {
      stage = applies.stage;
      version = applies.version ∙ ap (version_after s) knows.version;
      workers = applies.workers ∙ ap (workers_after s) knows.workers;
      domains = applies.domains ∙ ap (domains_after s) knows.domains;
      clock = applies.clock ∙ ap (clock_after s) knows.clock;
      detail = applies.detail ∙ ap (detail_after s) knows.detail;
      zones = applies.zones ∙ ap (λ (zones : List ZoneHead). zones ++ new_zone zones s) knows.zones;
      names = applies.names ∙ ap (names_after s) knows.names;
      entries = applies.entries ∙ rw (knows.entries, knows.zones) refl;
      tables = record { filled = tables.0; opened = tables.1; left = tables.2 };
    }

-- ---- a line taken in, or refused

begun_by : (s : ParsedLine) → is_start (stage_of s) ≡ false
begun_by (parsed.Uma version) = refl
begun_by (parsed.Workers count) = refl
begun_by (parsed.Domains count) = refl
begun_by (parsed.Clock clock) = refl
begun_by parsed.Detail = refl
begun_by (parsed.Zone zone) = refl
begun_by (parsed.Second second) = refl
begun_by (parsed.Names names) = refl
begun_by (parsed.Work worker op) = refl
begun_by (parsed.InZone worker zone work) = refl
begun_by parsed.Round = refl
begun_by (parsed.Give giver slot taker slot2) = refl
begun_by (parsed.SetMax zone limit) = refl
begun_by parsed.End = refl

-- behind the first line
pub record IsBehind (reader : TraceReader) (last : TextLine) (before : List TextLine) : Type 0 where
  pub knows : KnowsParsed reader (parsed_lines (last ∷ before))
  pub unended : is_ended (last ∷ before) ≡ false

behind_some : (reader : TraceReader) (lines : List TextLine) → is_start reader.stage ≡ false → is_last reader.stage ≡ false → Knows reader lines
    → (P : List TextLine → Type 0) → ((last : TextLine) (before : List TextLine) → IsBehind reader last before → P (last ∷ before)) → P lines
behind_some reader [] begun unended knows P f = absurd (let none = knows.begun in cc)
behind_some reader (last ∷ before) begun unended knows P f = f last before (record { knows = knows.parsed; unended = sym knows.ended ∙ unended })

-- what the fields say, by the state
says_there : (reader : TraceReader) (before : List ParsedLine) (fields : List (List ℕ)) → KnowsParsed reader before
    → says reader.version reader.stage reader.workers fields ≡ says (version_of before) (last_stage before) (workers_of before) fields
says_there reader before fields knows = rw (knows.version, knows.stage, knows.workers) refl

tested : (last : TextLine) (before : List TextLine) (line : TextLine) → is_ended (last ∷ before) ≡ false → trace_test (last ∷ before) line ≡ wrong (tells (parsed_lines (last ∷ before)) line.fields)
tested last before line unended = rw unended refl

applied : (old new : TraceReader) (number : ℕ) (fields : List (List ℕ)) (n : ℕ) (s : ParsedLine)
    → is_start old.stage ≡ false → is_last old.stage ≡ false → says old.version old.stage old.workers fields ≡ Ok s → NamesFit n s → conflict_found old s ≡ None → Applies s old new
    → ReadsLine trace_test Knows old number fields (Ok tt) new
applied old new number fields n s begun unended is fit none applies lines shown =
    behind_some old lines begun unended shown (λ all. (trace_test all (record { number = number; fields = fields }) ≡ None) × Knows new (record { number = number; fields = fields } ∷ all)) (λ last before behind.
    let line : TextLine = record { number = number; fields = fields } in
    let earlier : List ParsedLine = parsed_lines (last ∷ before) in
    let says_it : says (version_of earlier) (last_stage earlier) (workers_of earlier) fields ≡ Ok s = sym (says_there old earlier fields behind.knows) ∙ is in
    let no_conflict : conflict_after earlier s ≡ None = sym (same_found old earlier n s fit behind.knows) ∙ none in
    let tells_it : tells earlier fields ≡ Ok s = rw (says_it, no_conflict) refl in
    let all : parsed_lines (line ∷ last ∷ before) ≡ s ∷ earlier = ap (λ r. and_parsed r earlier) says_it in
    let P : List ParsedLine → Type 0 = λ before. KnowsParsed new before in (
      tested last before line behind.unended ∙ ap wrong tells_it,
      record {
        parsed = subst P (sym all) (parsed_next old new earlier n s fit applies behind.knows);
        begun = ap is_start applies.stage ∙ begun_by s;
        ended = ap is_last applies.stage ∙ sym (end_is_told (version_of earlier) (last_stage earlier) (workers_of earlier) fields s says_it);
      },
    ))

pub takes : (old new : TraceReader) (number : ℕ) (fields : List (List ℕ)) (n : ℕ) (s : ParsedLine) (r : Result (Unit {0}) LineRefused)
    → is_start old.stage ≡ false → is_last old.stage ≡ false → says old.version old.stage old.workers fields ≡ Ok s → NamesFit n s → conflict_found old s ≡ None
    → OnOk r (Applies s old new) → IfErr r (λ refused. refused ≡ refusals.Memory)
    → ReadsLine trace_test Knows old number fields r new
takes old new number fields n s (Ok done) begun unended is fit none applies memory = applied old new number fields n s begun unended is fit none applies
takes old new number fields n s (Err refusals.Memory) begun unended is fit none applies memory = tt
takes old new number fields n s (Err (refusals.Kind why)) begun unended is fit none applies memory = absurd cc

pub conflicts : (old new : TraceReader) (number : ℕ) (fields : List (List ℕ)) (n : ℕ) (s : ParsedLine) (why : TraceKind)
    → is_start old.stage ≡ false → is_last old.stage ≡ false → says old.version old.stage old.workers fields ≡ Ok s → NamesFit n s → conflict_found old s ≡ Some why
    → ReadsLine trace_test Knows old number fields (Err (refusals.Kind why)) new
conflicts old new number fields n s why begun unended is fit found lines shown =
    behind_some old lines begun unended shown (λ all. trace_test all (record { number = number; fields = fields }) ≡ Some why) (λ last before behind.
    let earlier : List ParsedLine = parsed_lines (last ∷ before) in
    let says_it : says (version_of earlier) (last_stage earlier) (workers_of earlier) fields ≡ Ok s = sym (says_there old earlier fields behind.knows) ∙ is in
    let conflict : conflict_after earlier s ≡ Some why = sym (same_found old earlier n s fit behind.knows) ∙ found in
    let tells_it : tells earlier fields ≡ Err why = rw (says_it, conflict) refl in
    tested last before (record { number = number; fields = fields }) behind.unended ∙ ap wrong tells_it)
