-- The rows below a valid header: each says its line, and conflicts with none before it.
use Rattle.std.proofs.Common.{◌≡◌, ℕ, ◌+◌, ◌<◌, ◌≤◌, Bool, true, false, eqb, List, [], ◌∷◌, ◌++◌, length, map, Option, Some, None, refl, sym, ap, subst, ◌∙◌, arith, append_assoc}
use Rattle.std.specs.Prelude.{All, ◌&&◌, ◌||◌, not, is_some, codes}
use Rattle.std.proofs.lemmas.Bool.{eqb-true}
use Rattle.std.proofs.lemmas.List.{append-nil}
use Rattle.std.proofs.lemmas.List.Elements.{All-head, All-tail}
use Rattle.trace_text.specs.declared.trace.Between.{Between}
use Rattle.trace_text.specs.declared.trace.Between.TheVariants.{Give, SetMax}
use Rattle.trace_text.specs.declared.trace.Head.{Head}
use Rattle.trace_text.specs.declared.trace.ZoneHead.{ZoneHead}
use Rattle.trace_text.specs.declared.trace.Op.{Op}
use Rattle.trace_text.specs.declared.trace.Op.TheVariants.{Alloc, Free, Enter, Exit, Bind, Unbind, Look, Trim, Drain, DrainSeat, Prealloc, Away, Back}
use Rattle.trace_text.specs.declared.trace.Round.{Round}
use Rattle.trace_text.specs.declared.trace_reading.fields.Entry.{Entry}
use Rattle.trace_text.specs.declared.trace_reading.fields.Entry.TheVariants as entries
use Rattle.trace_text.specs.declared.trace_reading.parsed_line.ParsedLine.{ParsedLine}
use Rattle.trace_text.specs.declared.trace_reading.parsed_line.ParsedLine.TheVariants as parsed
use Rattle.trace_print.specs.CanonicalText.{between_fields, op_fields}
use Rattle.trace_text.specs.NamedZones.{zone_name}
use Rattle.trace_text.specs.Grammar.{stage_of, last_stage, version_after, version_of, workers_of, entry_of, done, zone_named}
use Rattle.trace_text.specs.declared.trace.Version.{Version}
use Rattle.trace_text.specs.Lines.{Line, Does, Moves, worker_lines, lines_of}
use Rattle.trace_text.specs.Reading.{held, in_section, is_away}
use Rattle.trace_text.specs.TraceLine.{rank}
use Rattle.trace_text.specs.Valid.{HeadFits, OpFits, BetweenFits, RoundFits, LastRoundEnds, LineFits, LinesFit, IsKnown}
use Rattle.trace_print.proofs.CanonicalRows.{ops_rows, rounds_rows}
use Rattle.trace_print.proofs.RoundEntries.{ops_entries, rounds_entries}
use Rattle.trace_print.proofs.RowParsed.{parsed_between, parsed_op, parsed_ops, parsed_rounds, op_row_says, between_row_says, round_row_says, end_row_says, zones_are_named}
use Rattle.trace_text.proofs.RowZones.{zone_found, zones_differ}
use Rattle.trace_print.proofs.TraceRebuilt.{Stands, Applies, Adds, IsClearBehind, and_so, behind, part, applies_nothing, applies_append, stands_within, may_stand, next_line}

-- ---- an operation's line

-- a zone's name is there
zone_is_there : (h : Head) (zone : ℕ) → HeadFits h → zone < length h.zones → zone_named h.zones (zone_name h.zones zone) ≡ Some zone
zone_is_there h zone fits lt = zone_found h.zones zone (zones_differ h fits.names_differ) lt

zone_is_not_lacking : (h : Head) (zone : ℕ) → HeadFits h → zone < length h.zones → not (is_some (zone_named h.zones (zone_name h.zones zone))) ≡ false
zone_is_not_lacking h zone fits lt = ap (λ (o : Option ℕ). not (is_some o)) (zone_is_there h zone fits lt)

given : (b : Bool) → b ≡ true → not b ≡ false
given b e = ap not e

-- it fails no test: what it needs of the header and the lines before it is there
op_is_clear : (h : Head) (w : ℕ) (op : Op) (lines : List Line) → HeadFits h → OpFits h op → LineFits lines (Does w op) → IsClearBehind h lines (parsed_op h.zones w op)
op_is_clear h w (Alloc zone slot arg reserve) lines head fits line = record {
  clock = refl;
  names = refl;
  name = refl;
  zone = zone_is_not_lacking h zone head fits.0;
  most = refl;
  filled = ap (λ (o : Option ℕ). is_some o) line.0;
  empty = refl;
  opened = refl;
  closed = refl;
  away = line.1;
  there = refl;
}
op_is_clear h w (Free slot) lines head fits line = record {
  clock = refl;
  names = refl;
  name = refl;
  zone = refl;
  most = refl;
  filled = refl;
  empty = given (is_some (held lines w slot)) line.0;
  opened = refl;
  closed = refl;
  away = line.1;
  there = refl;
}
op_is_clear h w Enter lines head fits line = record {
  clock = given (is_some h.clock) fits;
  names = refl;
  name = refl;
  zone = refl;
  most = refl;
  filled = refl;
  empty = refl;
  opened = line.0;
  closed = refl;
  away = line.1;
  there = refl;
}
op_is_clear h w Exit lines head fits line = record {
  clock = given (is_some h.clock) fits;
  names = refl;
  name = refl;
  zone = refl;
  most = refl;
  filled = refl;
  empty = refl;
  opened = refl;
  closed = given (in_section lines w) line.0;
  away = line.1;
  there = refl;
}
op_is_clear h w (Bind key value) lines head fits line = record {
  clock = refl;
  names = given (is_some h.names) fits.0;
  name = refl;
  zone = refl;
  most = refl;
  filled = refl;
  empty = refl;
  opened = refl;
  closed = refl;
  away = line.1;
  there = refl;
}
op_is_clear h w (Unbind key) lines head fits line = record {
  clock = refl;
  names = given (is_some h.names) fits.0;
  name = refl;
  zone = refl;
  most = refl;
  filled = refl;
  empty = refl;
  opened = refl;
  closed = refl;
  away = line.1;
  there = refl;
}
op_is_clear h w (Look key) lines head fits line = record {
  clock = refl;
  names = given (is_some h.names) fits.0;
  name = refl;
  zone = refl;
  most = refl;
  filled = refl;
  empty = refl;
  opened = refl;
  closed = refl;
  away = line.1;
  there = refl;
}
op_is_clear h w (Trim zone) lines head fits line = record {
  clock = refl;
  names = refl;
  name = refl;
  zone = zone_is_not_lacking h zone head fits;
  most = refl;
  filled = refl;
  empty = refl;
  opened = refl;
  closed = refl;
  away = line.1;
  there = refl;
}
op_is_clear h w (Drain zone) lines head fits line = record {
  clock = refl;
  names = refl;
  name = refl;
  zone = zone_is_not_lacking h zone head fits;
  most = refl;
  filled = refl;
  empty = refl;
  opened = refl;
  closed = refl;
  away = line.1;
  there = refl;
}
op_is_clear h w (DrainSeat zone) lines head fits line = record {
  clock = refl;
  names = refl;
  name = refl;
  zone = zone_is_not_lacking h zone head fits;
  most = refl;
  filled = refl;
  empty = refl;
  opened = refl;
  closed = refl;
  away = line.1;
  there = refl;
}
op_is_clear h w (Prealloc zone items) lines head fits line = record {
  clock = refl;
  names = refl;
  name = refl;
  zone = zone_is_not_lacking h zone head fits.0;
  most = refl;
  filled = refl;
  empty = refl;
  opened = refl;
  closed = refl;
  away = line.1;
  there = refl;
}
op_is_clear h w Away lines head fits line = record {
  clock = given (is_some h.clock) fits;
  names = refl;
  name = refl;
  zone = refl;
  most = refl;
  filled = refl;
  empty = refl;
  opened = line.0;
  closed = refl;
  away = line.1;
  there = refl;
}
op_is_clear h w Back lines head fits line = record {
  clock = given (is_some h.clock) fits;
  names = refl;
  name = refl;
  zone = refl;
  most = refl;
  filled = refl;
  empty = refl;
  opened = refl;
  closed = refl;
  away = refl;
  there = given (is_away lines w) line.1;
}

-- no header line: the header stays
same_head : (h : Head) → part h h.clock h.detail (h.zones ++ []) h.names ≡ h
same_head h = ap (λ (zones : List ZoneHead). part h h.clock h.detail zones h.names) (append-nil h.zones)

op_keeps_head : (h : Head) (w : ℕ) (op : Op) → and_so (parsed_op h.zones w op) h ≡ h
op_keeps_head h w (Alloc zone slot arg reserve) = same_head h
op_keeps_head h w (Free slot) = same_head h
op_keeps_head h w Enter = same_head h
op_keeps_head h w Exit = same_head h
op_keeps_head h w Away = same_head h
op_keeps_head h w Back = same_head h
op_keeps_head h w (Bind key value) = same_head h
op_keeps_head h w (Unbind key) = same_head h
op_keeps_head h w (Look key) = same_head h
op_keeps_head h w (Trim zone) = same_head h
op_keeps_head h w (Drain zone) = same_head h
op_keeps_head h w (DrainSeat zone) = same_head h
op_keeps_head h w (Prealloc zone items) = same_head h

-- nor does it say a version
op_keeps_version : (zones : List ZoneHead) (w : ℕ) (op : Op) (version : Version) → version_after (parsed_op zones w op) version ≡ version
op_keeps_version zones w (Alloc zone slot arg reserve) version = refl
op_keeps_version zones w (Free slot) version = refl
op_keeps_version zones w Enter version = refl
op_keeps_version zones w Exit version = refl
op_keeps_version zones w Away version = refl
op_keeps_version zones w Back version = refl
op_keeps_version zones w (Bind key value) version = refl
op_keeps_version zones w (Unbind key) version = refl
op_keeps_version zones w (Look key) version = refl
op_keeps_version zones w (Trim zone) version = refl
op_keeps_version zones w (Drain zone) version = refl
op_keeps_version zones w (DrainSeat zone) version = refl
op_keeps_version zones w (Prealloc zone items) version = refl

-- it stands among the lines of the workers
op_place : (zones : List ZoneHead) (w : ℕ) (op : Op) → rank (stage_of (parsed_op zones w op)) ≡ 8
op_place zones w (Alloc zone slot arg reserve) = refl
op_place zones w (Free slot) = refl
op_place zones w Enter = refl
op_place zones w Exit = refl
op_place zones w Away = refl
op_place zones w Back = refl
op_place zones w (Bind key value) = refl
op_place zones w (Unbind key) = refl
op_place zones w (Look key) = refl
op_place zones w (Trim zone) = refl
op_place zones w (Drain zone) = refl
op_place zones w (DrainSeat zone) = refl
op_place zones w (Prealloc zone items) = refl

-- its zone's name gives back its zone
op_entry : (h : Head) (w : ℕ) (op : Op) → HeadFits h → OpFits h op → entry_of h.zones (parsed_op h.zones w op) ≡ entries.Does w op ∷ []
op_entry h w (Alloc zone slot arg reserve) head fits = rw (zone_is_there h zone head fits.0) refl
op_entry h w (Free slot) head fits = refl
op_entry h w Enter head fits = refl
op_entry h w Exit head fits = refl
op_entry h w Away head fits = refl
op_entry h w Back head fits = refl
op_entry h w (Bind key value) head fits = refl
op_entry h w (Unbind key) head fits = refl
op_entry h w (Look key) head fits = refl
op_entry h w (Trim zone) head fits = rw (zone_is_there h zone head fits) refl
op_entry h w (Drain zone) head fits = rw (zone_is_there h zone head fits) refl
op_entry h w (DrainSeat zone) head fits = rw (zone_is_there h zone head fits) refl
op_entry h w (Prealloc zone items) head fits = rw (zone_is_there h zone head fits.0) refl

-- the header's workers
workers_are : (before : List ParsedLine) (h : Head) (earlier : List Entry) (rest : List Line) (low high : ℕ) → Stands before h earlier rest low high → workers_of before ≡ h.workers
workers_are before h earlier rest low high stands = ap (λ (g : Head). g.workers) stands.head_is

op_step : (h : Head) (w : ℕ) (op : Op) (before : List ParsedLine) (earlier : List Entry) (rest : List Line) → HeadFits h → w < h.workers → OpFits h op
    → Stands before h earlier (Does w op ∷ rest) 3 9
    → Applies before (op_fields h.zones w op ∷ []) (parsed_op h.zones w op ∷ []) h (earlier ++ entries.Does w op ∷ []) rest 3 9
op_step h w op before earlier rest head lt fits stands =
    let workers : workers_of before ≡ h.workers = workers_are before h earlier (Does w op ∷ rest) 3 9 stands in
    let place : rank (stage_of (parsed_op h.zones w op)) ≡ 8 = op_place h.zones w op in
    let most : h.workers ≤ 16 = head.workers.1 in
    let P : Version → Type 0 = λ version. All (IsKnown version) rest in
    let has = All-head (IsKnown (version_of before)) (Does w op) rest stands.known in
    let known : P (version_after (parsed_op h.zones w op) (version_of before)) =
    subst P (sym (op_keeps_version h.zones w op (version_of before))) (All-tail (IsKnown (version_of before)) (Does w op) rest stands.known) in
    next_line (op_fields h.zones w op) (parsed_op h.zones w op) stands
    (op_row_says (version_of before) (last_stage before) (workers_of before) h w op (may_stand 3 9 (omega arith) (omega arith) stands) has (omega arith) (omega arith) (zones_are_named h head) fits)
    (record {
      clear = op_is_clear h w op (done before) head fits stands.fit.0;
      head_is = op_keeps_head h w op;
      entry_is = op_entry h w op head fits;
      fit = stands.fit.1;
      known = known;
      above = omega arith;
      below = omega arith;
    })

-- ---- a line between two rounds

-- a slot isn't given to itself
not_to_itself : (lines : List Line) (giver slot taker slot2 : ℕ) (a b : Bool) → eqb giver taker ≡ a → eqb slot slot2 ≡ b
    → is_some (held lines giver slot) ≡ true → held lines taker slot2 ≡ None → (a && b) ≡ false
not_to_itself lines giver slot taker slot2 true true one two full free =
    let same : giver ≡ taker = eqb-true giver taker one in
    let alike : slot ≡ slot2 = eqb-true slot slot2 two in
    let none : is_some (held lines taker slot2) ≡ false = ap (λ (o : Option ℕ). is_some o) free in
    absurd cc
not_to_itself lines giver slot taker slot2 true false one two full free = refl
not_to_itself lines giver slot taker slot2 false b one two full free = refl

give_finds_free : (lines : List Line) (giver slot taker slot2 : ℕ) → is_some (held lines giver slot) ≡ true → held lines taker slot2 ≡ None
    → ((eqb giver taker && eqb slot slot2) || is_some (held lines taker slot2)) ≡ false
give_finds_free lines giver slot taker slot2 full free =
    rw (not_to_itself lines giver slot taker slot2 (eqb giver taker) (eqb slot slot2) refl refl full free, free) refl

between_adds : (h : Head) (b : Between) (before : List ParsedLine) (rest : List Line) → HeadFits h → BetweenFits h b → LineFits (done before) (Moves b) → LinesFit (Moves b ∷ done before) rest
    → All (IsKnown (version_of before)) rest → Adds before (parsed_between h.zones b) h h (entries.Moves b ∷ []) rest 9 9
between_adds h (Give giver slot taker slot2) before rest head fits line fit known = record {
  clear = record {
    clock = refl;
    names = refl;
    name = refl;
    zone = refl;
    most = refl;
    filled = give_finds_free (done before) giver slot taker slot2 line.0 line.1;
    empty = given (is_some (held (done before) giver slot)) line.0;
    opened = refl;
    closed = refl;
    away = refl;
    there = refl;
  };
  head_is = same_head h;
  entry_is = refl;
  fit = fit;
  known = known;
  above = omega arith;
  below = omega arith;
}
between_adds h (SetMax zone limit) before rest head fits line fit known = record {
  clear = record {
    clock = refl;
    names = refl;
    name = refl;
    zone = zone_is_not_lacking h zone head fits.0;
    most = refl;
    filled = refl;
    empty = refl;
    opened = refl;
    closed = refl;
    away = refl;
    there = refl;
  };
  head_is = same_head h;
  entry_is = rw (zone_is_there h zone head fits.0) refl;
  fit = fit;
  known = known;
  above = omega arith;
  below = omega arith;
}

between_step : (h : Head) (b : Between) (before : List ParsedLine) (earlier : List Entry) (rest : List Line) → HeadFits h → BetweenFits h b
    → Stands before h earlier (Moves b ∷ rest) 9 9
    → Applies before (between_fields h.zones b ∷ []) (parsed_between h.zones b ∷ []) h (earlier ++ entries.Moves b ∷ []) rest 9 9
between_step h b before earlier rest head fits stands =
    let workers : workers_of before ≡ h.workers = workers_are before h earlier (Moves b ∷ rest) 9 9 stands in
    let most : h.workers ≤ 16 = head.workers.1 in
    let known = All-head (IsKnown (version_of before)) (Moves b) rest stands.known in
    next_line (between_fields h.zones b) (parsed_between h.zones b) stands
    (between_row_says (version_of before) (last_stage before) (workers_of before) h b (may_stand 9 9 (omega arith) (omega arith) stands) known (omega arith) (omega arith) (zones_are_named h head) fits)
    (between_adds h b before rest head fits stands.fit.0 stands.fit.1 (All-tail (IsKnown (version_of before)) (Moves b) rest stands.known))

round_step : (h : Head) (before : List ParsedLine) (earlier : List Entry) (rest : List Line) → Stands before h earlier rest 3 9
    → Applies before ((codes "round" ∷ []) ∷ []) (parsed.Round ∷ []) h (earlier ++ entries.Round ∷ []) rest 9 9
round_step h before earlier rest stands =
    next_line (codes "round" ∷ []) parsed.Round stands
    (round_row_says (version_of before) (last_stage before) (workers_of before) (may_stand 3 9 (omega arith) (omega arith) stands))
    (record {
      clear = record { clock = refl; names = refl; name = refl; zone = refl; most = refl; filled = refl; empty = refl; opened = refl; closed = refl; away = refl; there = refl };
      head_is = same_head h;
      entry_is = refl;
      fit = stands.fit;
      known = stands.known;
      above = omega arith;
      below = omega arith;
    })

-- `end` adds nothing
pub end_step : (h : Head) (before : List ParsedLine) (earlier : List Entry) → Stands before h earlier [] 3 9
    → Applies before ((codes "end" ∷ []) ∷ []) (parsed.End ∷ []) h (earlier ++ []) [] 10 10
end_step h before earlier stands =
    next_line (codes "end" ∷ []) parsed.End stands
    (end_row_says (version_of before) (last_stage before) (workers_of before) (may_stand 3 9 (omega arith) (omega arith) stands))
    (record {
      clear = record { clock = refl; names = refl; name = refl; zone = refl; most = refl; filled = refl; empty = refl; opened = refl; closed = refl; away = refl; there = refl };
      head_is = same_head h;
      entry_is = refl;
      fit = stands.fit;
      known = stands.known;
      above = omega arith;
      below = omega arith;
    })

-- ---- the lines of a round

-- the entries of two parts, one after the other
applies_more : {before : List ParsedLine} {rows others : List (List (List ℕ))} {parsed_rows more : List ParsedLine} {h : Head} {rest left : List Line} {low high from to : ℕ} (earlier first then : List Entry)
    → Applies before rows parsed_rows h (earlier ++ first) rest low high → Applies (behind parsed_rows before) others more h ((earlier ++ first) ++ then) left from to
    → Applies before (rows ++ others) (parsed_rows ++ more) h (earlier ++ (first ++ then)) left from to
applies_more {before = before} {rows = rows} {others = others} {parsed_rows = parsed_rows} {more = more} {h = h} {left = left} {from = from} {to = to} earlier first then one two =
    let both : Applies before (rows ++ others) (parsed_rows ++ more) h ((earlier ++ first) ++ then) left from to = applies_append one two in
    subst (λ (es : List Entry). Applies before (rows ++ others) (parsed_rows ++ more) h es left from to) (append_assoc earlier first then) both

-- no line adds no entry
applies_no_more : {before : List ParsedLine} {h : Head} {earlier : List Entry} {rest : List Line} {low high : ℕ}
    → Stands before h earlier rest low high → Applies before [] [] h (earlier ++ []) rest low high
applies_no_more {before = before} {h = h} {earlier = earlier} {rest = rest} {low = low} {high = high} stands =
    applies_nothing (subst (λ (es : List Entry). Stands before h es rest low high) (sym (append-nil earlier)) stands)

-- the lines to come, written another way
stands_as : {before : List ParsedLine} {h : Head} {earlier : List Entry} {rest : List Line} {low high : ℕ} (left : List Line) → rest ≡ left
    → Stands before h earlier rest low high → Stands before h earlier left low high
stands_as {before = before} {h = h} {earlier = earlier} {low = low} {high = high} left same stands =
    subst (λ (lines : List Line). Stands before h earlier lines low high) same stands

-- a worker's lines
ops_step : (h : Head) (w : ℕ) (ops : List Op) (before : List ParsedLine) (earlier : List Entry) (rest : List Line) → HeadFits h → w < h.workers → All (OpFits h) ops
    → Stands before h earlier (map (Does w) ops ++ rest) 3 9
    → Applies before (map (op_fields h.zones w) ops) (map (parsed_op h.zones w) ops) h (earlier ++ map (entries.Does w) ops) rest 3 9
ops_step h w [] before earlier rest head lt fits stands = applies_no_more stands
ops_step h w (op ∷ ops) before earlier rest head lt fits stands =
    let first = op_step h w op before earlier (map (Does w) ops ++ rest) head lt (All-head (OpFits h) op ops fits) stands in
    applies_more earlier (entries.Does w op ∷ []) (map (entries.Does w) ops) first (ops_step h w ops (parsed_op h.zones w op ∷ before) (earlier ++ entries.Does w op ∷ []) rest head lt (All-tail (OpFits h) op ops fits) first.stands)

-- the lines of the workers from this one on
lists_step : (h : Head) (w : ℕ) (lists : List (List Op)) (before : List ParsedLine) (earlier : List Entry) (rest : List Line) → HeadFits h → w + length lists ≡ h.workers
    → All (All (OpFits h)) lists → Stands before h earlier (worker_lines w lists ++ rest) 3 9
    → Applies before (ops_rows h.zones w lists) (parsed_ops h.zones w lists) h (earlier ++ ops_entries w lists) rest 3 9
lists_step h w [] before earlier rest head all fits stands = applies_no_more stands
lists_step h w (ops ∷ lists) before earlier rest head all fits stands =
    let split = append_assoc (map (Does w) ops) (worker_lines (w + 1) lists) rest in
    let first = ops_step h w ops before earlier (worker_lines (w + 1) lists ++ rest) head (omega arith) (All-head (All (OpFits h)) ops lists fits)
    (stands_as (map (Does w) ops ++ (worker_lines (w + 1) lists ++ rest)) split stands) in
    applies_more earlier (map (entries.Does w) ops) (ops_entries (w + 1) lists) first
    (lists_step h (w + 1) lists (behind (map (parsed_op h.zones w) ops) before) (earlier ++ map (entries.Does w) ops) rest head (omega arith) (All-tail (All (OpFits h)) ops lists fits) first.stands)

-- the lines between two rounds
betweens_step : (h : Head) (betweens : List Between) (before : List ParsedLine) (earlier : List Entry) (rest : List Line) → HeadFits h → All (BetweenFits h) betweens
    → Stands before h earlier (map Moves betweens ++ rest) 9 9
    → Applies before (map (between_fields h.zones) betweens) (map (parsed_between h.zones) betweens) h (earlier ++ map entries.Moves betweens) rest 9 9
betweens_step h [] before earlier rest head fits stands = applies_no_more stands
betweens_step h (b ∷ betweens) before earlier rest head fits stands =
    let first = between_step h b before earlier (map Moves betweens ++ rest) head (All-head (BetweenFits h) b betweens fits) stands in
    applies_more earlier (entries.Moves b ∷ []) (map entries.Moves betweens) first
    (betweens_step h betweens (parsed_between h.zones b ∷ before) (earlier ++ entries.Moves b ∷ []) rest head (All-tail (BetweenFits h) b betweens fits) first.stands)

-- ---- the rounds

-- each row of the rounds says its line, and behind them stand just their lines
pub rounds_step : (h : Head) (r : Round) (rounds : List Round) (before : List ParsedLine) (earlier : List Entry) → HeadFits h → All (RoundFits h) (r ∷ rounds) → LastRoundEnds (r ∷ rounds)
    → Stands before h earlier (lines_of (r ∷ rounds)) 3 9
    → Applies before (rounds_rows h.zones (r ∷ rounds)) (parsed_rounds h.zones (r ∷ rounds)) h (earlier ++ rounds_entries (r ∷ rounds)) [] 3 9
rounds_step h r [] before earlier head fits last stands =
    let round : RoundFits h r = All-head (RoundFits h) r [] fits in
    let ops : List Line = worker_lines 0 r.ops in
    let same : (ops ++ map Moves r.between) ++ [] ≡ ops ++ [] =
    append-nil (ops ++ map Moves r.between) ∙ ap (λ (betweens : List Between). ops ++ map Moves betweens) last in
    lists_step h 0 r.ops before earlier [] head (omega (arith, round.workers)) round.ops (stands_as (ops ++ []) same stands)
rounds_step h r (next ∷ rounds) before earlier head fits last stands =
    let round : RoundFits h r = All-head (RoundFits h) r (next ∷ rounds) fits in
    let more : List Line = lines_of (next ∷ rounds) in
    let betweens : List Line = map Moves r.between in
    let split = append_assoc (worker_lines 0 r.ops) betweens more in
    let one = lists_step h 0 r.ops before earlier (betweens ++ more) head (omega (arith, round.workers)) round.ops (stands_as (worker_lines 0 r.ops ++ (betweens ++ more)) split stands) in
    let ops : List Entry = earlier ++ ops_entries 0 r.ops in
    let begun : List Entry = ops ++ entries.Round ∷ [] in
    let two = round_step h _ ops (betweens ++ more) one.stands in
    let three = betweens_step h r.between _ begun more head round.between two.stands in
    let four = rounds_step h next rounds _ (begun ++ map entries.Moves r.between) head (All-tail (RoundFits h) r (next ∷ rounds) fits) last (stands_within 3 9 (omega arith) (omega arith) three.stands) in
    applies_more earlier (ops_entries 0 r.ops) (entries.Round ∷ (map entries.Moves r.between ++ rounds_entries (next ∷ rounds))) one
    (applies_more ops (entries.Round ∷ []) (map entries.Moves r.between ++ rounds_entries (next ∷ rounds)) two
    (applies_more begun (map entries.Moves r.between) (rounds_entries (next ∷ rounds)) three four))
