-- What rows say one after another, and what stands behind them: a header, and the lines below it.
use Rattle.std.proofs.Common.{◌≡◌, ℕ, ◌≤◌, Bool, true, leb, List, [], ◌∷◌, ◌++◌, Option, None, Ok, refl, sym, ap, subst, ◌∙◌, arith}
use Rattle.std.specs.Prelude.{All, is_some}
use Rattle.std.proofs.lemmas.Bool.{le-leb, and_from}
use Rattle.trace_text.specs.declared.trace.ClockHead.{ClockHead}
use Rattle.trace_text.specs.declared.trace.Head.{Head}
use Rattle.trace_text.specs.declared.trace.NamesHead.{NamesHead}
use Rattle.trace_text.specs.declared.trace.ZoneHead.{ZoneHead}
use Rattle.trace_text.specs.declared.trace_reading.fields.Entry.{Entry}
use Rattle.trace_text.specs.declared.trace_reading.parsed_line.ParsedLine.{ParsedLine}
use Rattle.trace_text.specs.Grammar.{stage_of, last_stage, version_after, version_of, workers_after, workers_of, domains_after, clock_after, detail_after, names_after, new_zone, zones_of, head_of, entry_of, entries_of, line_of, done, conflict_after}
use Rattle.trace_text.specs.Lines.{Line}
use Rattle.trace_text.specs.Reading.{held, in_section, is_away}
use Rattle.trace_text.specs.TraceLine.{says, rank, is_within}
use Rattle.trace_text.specs.Valid.{IsKnown, LinesFit}
use Rattle.trace_text.proofs.TraceTests.{IsClear, no_conflict}

-- said one after another, behind those
abbrev pub behind : List ParsedLine → List ParsedLine → List ParsedLine
behind [] before = before
behind (s ∷ more) before = behind more (s ∷ before)

-- each row says this behind the earlier ones, and conflicts with none of them
abbrev pub SaysAll : List ParsedLine → List (List (List ℕ)) → List ParsedLine → Type 0
SaysAll before [] [] = Unit {0}
SaysAll before (r ∷ rows) (s ∷ parsed_rows) =
    (says (version_of before) (last_stage before) (workers_of before) r ≡ Ok s) × (conflict_after before s ≡ None) × SaysAll (s ∷ before) rows parsed_rows
SaysAll before [] (s ∷ parsed_rows) = ⊥
SaysAll before (r ∷ rows) [] = ⊥

-- Behind these lines there are this header and these entries, each of the lines that are still to come fits, the version has it, and
-- the last line is one from this place in the order of a text to that one.
pub record Stands (before : List ParsedLine) (h : Head) (entries : List Entry) (rest : List Line) (low high : ℕ) : Type 0 where
  pub head_is : head_of before ≡ h
  pub entries_are : entries_of before ≡ entries
  pub fit : LinesFit (done before) rest
  pub known : All (IsKnown (version_of before)) rest
  pub above : low ≤ rank (last_stage before)
  pub below : rank (last_stage before) ≤ high

-- the rows say this, and so it stands behind them
pub record Applies (before : List ParsedLine) (rows : List (List (List ℕ))) (parsed_rows : List ParsedLine) (h : Head) (entries : List Entry) (rest : List Line) (low high : ℕ) : Type 0 where
  pub says_all : SaysAll before rows parsed_rows
  pub stands : Stands (behind parsed_rows before) h entries rest low high

-- ---- one after another

pub behind_append : (parsed_rows more before : List ParsedLine) → behind (parsed_rows ++ more) before ≡ behind more (behind parsed_rows before)
behind_append [] more before = refl
behind_append (s ∷ parsed_rows) more before = behind_append parsed_rows more (s ∷ before)

pub says_all_append : (before : List ParsedLine) (rows : List (List (List ℕ))) (parsed_rows : List ParsedLine) (others : List (List (List ℕ))) (more : List ParsedLine)
    → SaysAll before rows parsed_rows → SaysAll (behind parsed_rows before) others more → SaysAll before (rows ++ others) (parsed_rows ++ more)
says_all_append before [] [] others more says then = then
says_all_append before [] (s ∷ parsed_rows) others more says then = absurd says
says_all_append before (r ∷ rows) [] others more says then = absurd says
says_all_append before (r ∷ rows) (s ∷ parsed_rows) others more says then = (says.0, says.1, says_all_append (s ∷ before) rows parsed_rows others more says.2 then)

pub applies_nothing : {before : List ParsedLine} {h : Head} {entries : List Entry} {rest : List Line} {low high : ℕ}
    → Stands before h entries rest low high → Applies before [] [] h entries rest low high
applies_nothing stands = record { says_all = tt; stands = stands }

pub applies_append : {before : List ParsedLine} {rows others : List (List (List ℕ))} {parsed_rows more : List ParsedLine} {h g : Head} {entries added : List Entry} {rest left : List Line} {low high from to : ℕ}
    → Applies before rows parsed_rows h entries rest low high → Applies (behind parsed_rows before) others more g added left from to
    → Applies before (rows ++ others) (parsed_rows ++ more) g added left from to
applies_append {before = before} {rows = rows} {others = others} {parsed_rows = parsed_rows} {more = more} {g = g} {added = added} {left = left} {from = from} {to = to} first then = record {
  says_all = says_all_append before rows parsed_rows others more first.says_all then.says_all;
  stands = subst (λ (b : List ParsedLine). Stands b g added left from to) (sym (behind_append parsed_rows more before)) then.stands;
}

-- ---- what stands

-- a place in the order within more
pub stands_within : {before : List ParsedLine} {h : Head} {entries : List Entry} {rest : List Line} {low high : ℕ} (from to : ℕ) → from ≤ low → high ≤ to
    → Stands before h entries rest low high → Stands before h entries rest from to
stands_within {before = before} {low = low} {high = high} from to less more stands =
    let above : low ≤ rank (last_stage before) = stands.above in
    let below : rank (last_stage before) ≤ high = stands.below in
    record { head_is = stands.head_is; entries_are = stands.entries_are; fit = stands.fit; known = stands.known; above = omega arith; below = omega arith }

-- the next line may follow the last one
pub may_stand : {before : List ParsedLine} {h : Head} {entries : List Entry} {rest : List Line} {low high : ℕ} (from to : ℕ) → from ≤ low → high ≤ to
    → Stands before h entries rest low high → is_within from to (last_stage before) ≡ true
may_stand {before = before} {low = low} {high = high} from to less more stands =
    let above : low ≤ rank (last_stage before) = stands.above in
    let below : rank (last_stage before) ≤ high = stands.below in
    and_from (leb from (rank (last_stage before))) (leb (rank (last_stage before)) to)
    (le-leb from (rank (last_stage before)) (omega arith)) (le-leb (rank (last_stage before)) to (omega arith))

-- ---- a line that fails none of the tests

-- behind this header and these lines
abbrev pub IsClearBehind : Head → List Line → ParsedLine → Type 0
IsClearBehind h lines s = IsClear (is_some h.clock) (is_some h.names) h.zones (λ worker slot. is_some (held lines worker slot)) (λ worker. in_section lines worker) (λ worker. is_away lines worker) s

-- the header with what this line says of it
abbrev pub and_so : ParsedLine → Head → Head
and_so s h = record {
  workers = workers_after s h.workers;
  domains = domains_after s h.domains;
  clock = clock_after s h.clock;
  detail = detail_after s h.detail;
  zones = h.zones ++ new_zone h.zones s;
  names = names_after s h.names;
}

clear_behind : (before : List ParsedLine) (s : ParsedLine) (h : Head) → head_of before ≡ h → IsClearBehind h (done before) s → conflict_after before s ≡ None
clear_behind before s h is clear =
    let at : IsClearBehind (head_of before) (done before) s = subst (λ (g : Head). IsClearBehind g (done before) s) (sym is) clear in
    no_conflict (is_some (head_of before).clock) (is_some (head_of before).names) (head_of before).zones (λ worker slot. is_some (held (done before) worker slot)) (λ worker. in_section (done before) worker) (λ worker. is_away (done before) worker) s at

-- what one line more adds
pub record Adds (before : List ParsedLine) (s : ParsedLine) (h g : Head) (added : List Entry) (left : List Line) (low high : ℕ) : Type 0 where
  pub clear : IsClearBehind h (done before) s
  pub head_is : and_so s h ≡ g
  pub entry_is : entry_of h.zones s ≡ added
  pub fit : LinesFit (line_of added ++ done before) left
  pub known : All (IsKnown (version_after s (version_of before))) left
  pub above : low ≤ rank (stage_of s)
  pub below : rank (stage_of s) ≤ high

stands_next : {before : List ParsedLine} {s : ParsedLine} {h g : Head} {entries added : List Entry} {rest left : List Line} {low high from to : ℕ}
    → Stands before h entries rest low high → Adds before s h g added left from to → Stands (s ∷ before) g (entries ++ added) left from to
stands_next {before = before} {s = s} {entries = entries} {added = added} {left = left} stands adds =
    let entry : entry_of (zones_of before) s ≡ added = subst (λ (f : Head). entry_of f.zones s ≡ added) (sym stands.head_is) adds.entry_is in
    record {
      head_is = ap (and_so s) stands.head_is ∙ adds.head_is;
      entries_are = ap (λ (es : List Entry). es ++ entry_of (zones_of before) s) stands.entries_are ∙ ap (λ (es : List Entry). entries ++ es) entry;
      fit = subst (λ (es : List Entry). LinesFit (line_of es ++ done before) left) (sym entry) adds.fit;
      known = adds.known;
      above = adds.above;
      below = adds.below;
    }

-- a row that says this line is applied
pub next_line : {before : List ParsedLine} {h g : Head} {entries added : List Entry} {rest left : List Line} {low high from to : ℕ} (row : List (List ℕ)) (s : ParsedLine)
    → Stands before h entries rest low high → says (version_of before) (last_stage before) (workers_of before) row ≡ Ok s → Adds before s h g added left from to
    → Applies before (row ∷ []) (s ∷ []) g (entries ++ added) left from to
next_line {before = before} {h = h} row s stands says adds =
    record { says_all = (says, clear_behind before s h stands.head_is adds.clear, tt); stands = stands_next stands adds }

-- the header as far as it has come
abbrev pub part : Head → Option ClockHead → Bool → List ZoneHead → Option NamesHead → Head
part h clock detail zones names = record { workers = h.workers; domains = h.domains; clock = clock; detail = detail; zones = zones; names = names }
