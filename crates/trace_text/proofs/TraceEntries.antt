-- The lines below the header of lines that are told: their numbers are in their ranges, what they name is there, the version has them,
-- `give` and `setmax` lines stand behind a `round` line, and each line fits the lines before it.
use Rattle.std.proofs.Common.{◌≡◌, ℕ, ◌<◌, ◌≤◌, Bool, true, false, eqb, leb, List, [], ◌∷◌, ◌++◌, length, Option, Some, None, refl, sym, ap, subst, ◌∙◌, arith}
use Rattle.std.specs.Prelude.{◌&&◌, All, IsSome, is_some}
use Rattle.std.specs.List.{flat_map}
use Rattle.std.specs.Str.{bytes_eq}
use Rattle.std.proofs.lemmas.Bool.{le-leb, not-false, or_parts}
use Rattle.std.proofs.lemmas.List.{append-nil, length-append}
use Rattle.std.proofs.lemmas.List.Concat.{flat_map-append}
use Rattle.std.proofs.lemmas.List.Elements.{All-append, All-nil, All-push, All-same, All-weaker}
use Rattle.std.proofs.lemmas.List.Quantifiers.{position-Some}
use Rattle.trace_text.specs.declared.trace.Between.TheVariants.{Give, SetMax}
use Rattle.trace_text.specs.declared.trace.ClockHead.{ClockHead}
use Rattle.trace_text.specs.declared.trace.Head.{Head}
use Rattle.trace_text.specs.declared.trace.NamesHead.{NamesHead}
use Rattle.trace_text.specs.declared.trace.ZoneHead.{ZoneHead}
use Rattle.trace_text.specs.declared.trace.Op.{Op}
use Rattle.trace_text.specs.declared.trace.Op.TheVariants as ops
use Rattle.trace_text.specs.declared.trace_reading.fields.Entry.{Entry}
use Rattle.trace_text.specs.declared.trace_reading.fields.Entry.TheVariants as entries
use Rattle.trace_text.specs.declared.trace_reading.parsed_line.ParsedLine.{ParsedLine}
use Rattle.trace_text.specs.declared.trace_reading.parsed_line.ParsedLine.TheVariants as parsed
use Rattle.trace_text.specs.declared.trace_reading.parsed_line.ZoneWork.{ZoneWork}
use Rattle.trace_text.specs.declared.trace_reading.parsed_line.ZoneWork.TheVariants as works
use Rattle.trace_text.specs.declared.trace.Version.{Version}
use Rattle.trace_text.specs.Grammar.{clock_after, clock_of, done, entries_of, entry_in, entry_of, finds_away, finds_filled, finds_there, head_of, last_stage, limit_in, line_of, names_after, names_of, new_zone, stage_of, version_of, work_op, workers_after, workers_of, zone_named, zones_of}
use Rattle.trace_text.specs.Lines.{Line, Does}
use Rattle.trace_text.specs.Reading.{held, in_section, is_away}
use Rattle.trace_text.specs.Limits.{IsWithin}
use Rattle.trace_text.specs.TraceLine.{rank}
use Rattle.trace_text.specs.Valid.{SlotFits, LineFits, LinesFit, OpFits, IsKnownOp, changes_limits, comes_back}
use Rattle.trace_text.proofs.TraceBehind.{Behind, ConflictsWithNone, behind, by_lines}
use Rattle.trace_text.proofs.TraceParts.{FitsHead, BetweensStand, HasEntry, entry_line}
use Rattle.trace_text.proofs.TraceSaying.{OpNumbersFit, WorkNumbersFit, is_known_line}
use Rattle.trace_text.proofs.TraceTold.{Told}

-- ---- the lines of the header come first

-- the last line is one of the header
abbrev pub is_in_head : List ParsedLine → Bool
is_in_head before = leb (rank (last_stage before)) 7

none_more : (before : List ParsedLine) (s : ParsedLine) → Behind before s → (is_in_head before ≡ true → entries_of before ≡ []) → leb (rank (stage_of s)) 7 ≡ true → entries_of (s ∷ before) ≡ []
none_more before (parsed.Uma version) b none e = absurd (let p = b.place in omega arith)
none_more before (parsed.Workers count) b none e = append-nil (entries_of before) ∙ none (let place = b.place in le-leb (rank (last_stage before)) 7 (omega arith))
none_more before (parsed.Domains count) b none e = append-nil (entries_of before) ∙ none (let place = b.place in le-leb (rank (last_stage before)) 7 (omega arith))
none_more before (parsed.Clock clock) b none e = append-nil (entries_of before) ∙ none (let place = b.place in le-leb (rank (last_stage before)) 7 (omega arith))
none_more before parsed.Detail b none e = append-nil (entries_of before) ∙ none (let place = b.place in le-leb (rank (last_stage before)) 7 (omega arith))
none_more before (parsed.Zone zone) b none e = append-nil (entries_of before) ∙ none (let place = b.place in le-leb (rank (last_stage before)) 7 (omega arith))
none_more before (parsed.Second second) b none e = append-nil (entries_of before) ∙ none (let place = b.place in le-leb (rank (last_stage before)) 7 (omega arith))
none_more before (parsed.Names names) b none e = append-nil (entries_of before) ∙ none (let place = b.place in le-leb (rank (last_stage before)) 7 (omega arith))
none_more before (parsed.Work worker op) b none e = absurd cc
none_more before (parsed.InZone worker zone work) b none e = absurd cc
none_more before parsed.Round b none e = absurd cc
none_more before (parsed.Give giver slot taker slot2) b none e = absurd cc
none_more before (parsed.SetMax zone limit) b none e = absurd cc
none_more before parsed.End b none e = absurd cc

-- no line below the header stands behind nothing but header lines
pub head_has_none : (before : List ParsedLine) → Told before → is_in_head before ≡ true → entries_of before ≡ []
head_has_none = by_lines (λ before. is_in_head before ≡ true → entries_of before ≡ []) (λ e. refl) (λ version e. refl) (λ before s t b none. none_more before s b none)

-- ---- what the header says only grows

record Grows (old new : Head) : Type 0 where
  workers : old.workers ≡ new.workers
  zones : length old.zones ≤ length new.zones
  clock : IsSome old.clock → IsSome new.clock
  names : IsSome old.names → IsSome new.names

still_fits_op : (old new : Head) → Grows old new → (op : Op) → OpFits old op → OpFits new op
still_fits_op old new g (ops.Alloc zone slot arg reserve) f = let more : zone < length new.zones = let a = f.0 in let b = g.zones in omega arith in (more, f.1, f.2)
still_fits_op old new g (ops.Free slot) f = f
still_fits_op old new g ops.Enter f = g.clock f
still_fits_op old new g ops.Exit f = g.clock f
still_fits_op old new g (ops.Bind key value) f = (g.names f.0, f.1, f.2)
still_fits_op old new g (ops.Unbind key) f = (g.names f.0, f.1)
still_fits_op old new g (ops.Look key) f = (g.names f.0, f.1)
still_fits_op old new g (ops.Trim zone) f = let b = g.zones in omega arith
still_fits_op old new g (ops.Drain zone) f = let b = g.zones in omega arith
still_fits_op old new g (ops.DrainSeat zone) f = let b = g.zones in omega arith
still_fits_op old new g ops.Away f = g.clock f
still_fits_op old new g ops.Back f = g.clock f
still_fits_op old new g (ops.Prealloc zone items) f = let more : zone < length new.zones = let a = f.0 in let b = g.zones in omega arith in (more, f.1)

still_fits : (old new : Head) → Grows old new → (entry : Entry) → FitsHead old entry → FitsHead new entry
still_fits old new g (entries.Does w op) f = let Q : ℕ → Type 0 = λ n. w < n in (subst Q g.workers f.0, still_fits_op old new g op f.1)
still_fits old new g (entries.Moves (Give giver slot taker slot2)) f =
    let P : ℕ → Type 0 = λ n. giver < n in
    let Q : ℕ → Type 0 = λ n. taker < n in
    (subst P g.workers f.0, f.1, subst Q g.workers f.2, f.3)
still_fits old new g (entries.Moves (SetMax zone limit)) f = let more : zone < length new.zones = let a = f.0 in let b = g.zones in omega arith in (more, f.1)
still_fits old new g entries.Round f = tt

pub clock_kept : (s : ParsedLine) (before : Option ClockHead) → IsSome before → IsSome (clock_after s before)
clock_kept (parsed.Clock clock) before h = refl
clock_kept other before h = h

names_kept : (s : ParsedLine) (before : Option NamesHead) → IsSome before → IsSome (names_after s before)
names_kept (parsed.Names names) before h = refl
names_kept other before h = h

grows : (before : List ParsedLine) (s : ParsedLine) → workers_of before ≡ workers_after s (workers_of before) → Grows (head_of before) (head_of (s ∷ before))
grows before s same =
    let more : length (zones_of before) ≤ length (zones_of before ++ new_zone (zones_of before) s) = omega (arith, length-append (zones_of before) (new_zone (zones_of before) s)) in
    record { workers = same; zones = more; clock = clock_kept s (clock_of before); names = names_kept s (names_of before) }

-- ---- the line's own

op_fits : (before : List ParsedLine) (worker : ℕ) (op : Op) → OpNumbersFit op → ConflictsWithNone before (parsed.Work worker op) → OpFits (head_of before) op
op_fits before worker (ops.Free slot) n c = n
op_fits before worker ops.Enter n c = not-false (is_some (clock_of before)) c.clock
op_fits before worker ops.Exit n c = not-false (is_some (clock_of before)) c.clock
op_fits before worker ops.Away n c = not-false (is_some (clock_of before)) c.clock
op_fits before worker ops.Back n c = not-false (is_some (clock_of before)) c.clock
op_fits before worker (ops.Bind key value) n c = (not-false (is_some (names_of before)) c.names, n.0, n.1)
op_fits before worker (ops.Unbind key) n c = (not-false (is_some (names_of before)) c.names, n)
op_fits before worker (ops.Look key) n c = (not-false (is_some (names_of before)) c.names, n)
op_fits before worker (ops.Alloc zone slot arg reserve) n c = absurd n
op_fits before worker (ops.Trim zone) n c = absurd n
op_fits before worker (ops.Drain zone) n c = absurd n
op_fits before worker (ops.DrainSeat zone) n c = absurd n
op_fits before worker (ops.Prealloc zone items) n c = absurd n

work_fits : (h : Head) (work : ZoneWork) (zone : ℕ) → WorkNumbersFit work → zone < length h.zones → OpFits h (work_op work zone)
work_fits h (works.Alloc slot arg reserve) zone n lt = (lt, n.0, n.1)
work_fits h works.Trim zone n lt = lt
work_fits h works.Drain zone n lt = lt
work_fits h works.DrainSeat zone n lt = lt
work_fits h (works.Prealloc items) zone n lt = (lt, n)

in_zone_fits : (h : Head) (worker : ℕ) (work : ZoneWork) (o : Option ℕ) → worker < h.workers → WorkNumbersFit work → ((zone : ℕ) → o ≡ Some zone → zone < length h.zones)
    → All (FitsHead h) (entry_in worker work o)
in_zone_fits h worker work None lt n there = All-nil (FitsHead h)
in_zone_fits h worker work (Some zone) lt n there = All-push (FitsHead h) [] (entries.Does worker (work_op work zone)) (All-nil (FitsHead h)) (lt, work_fits h work zone n (there zone refl))

named_there : (zones : List ZoneHead) (name : List ℕ) (zone : ℕ) → zone_named zones name ≡ Some zone → zone < length zones
named_there [] name zone e = absurd cc
named_there (z ∷ zones) name zone e = (position-Some (λ (x : ZoneHead). bytes_eq x.name name) (z ∷ zones) zone z e).0

limit_fits : (h : Head) (limit : ℕ) (o : Option ℕ) → limit ≤ 1000000 → ((zone : ℕ) → o ≡ Some zone → zone < length h.zones) → All (FitsHead h) (limit_in limit o)
limit_fits h limit None le there = All-nil (FitsHead h)
limit_fits h limit (Some zone) le there = All-push (FitsHead h) [] (entries.Moves (SetMax zone limit)) (All-nil (FitsHead h)) (there zone refl, le)

entry_fits : (before : List ParsedLine) (s : ParsedLine) → Behind before s → All (FitsHead (head_of before)) (entry_of (zones_of before) s)
entry_fits before (parsed.Work worker op) b =
    All-push (FitsHead (head_of before)) [] (entries.Does worker op) (All-nil (FitsHead (head_of before))) (b.numbers.0, op_fits before worker op b.numbers.1 b.conflicts)
entry_fits before (parsed.InZone worker zone work) b =
    in_zone_fits (head_of before) worker work (zone_named (zones_of before) zone) b.numbers.0 b.numbers.1 (λ place e. named_there (zones_of before) zone place e)
entry_fits before parsed.Round b = All-push (FitsHead (head_of before)) [] entries.Round (All-nil (FitsHead (head_of before))) tt
entry_fits before (parsed.Give giver slot taker slot2) b =
    All-push (FitsHead (head_of before)) [] (entries.Moves (Give giver slot taker slot2)) (All-nil (FitsHead (head_of before))) b.numbers
entry_fits before (parsed.SetMax zone limit) b =
    limit_fits (head_of before) limit (zone_named (zones_of before) zone) b.numbers (λ place e. named_there (zones_of before) zone place e)
entry_fits before other b = All-nil (FitsHead (head_of before))

-- ---- all lines' own

-- only a `workers` line, which stands in the header, says how many workers there are
fit_more : (before : List ParsedLine) (s : ParsedLine) → Told before → Behind before s → All (FitsHead (head_of before)) (entries_of (s ∷ before)) → All (FitsHead (head_of (s ∷ before))) (entries_of (s ∷ before))
fit_more before (parsed.Workers count) t b fit =
    let none : entries_of (parsed.Workers count ∷ before) ≡ [] = append-nil (entries_of before) ∙ head_has_none before t (let place = b.place in le-leb (rank (last_stage before)) 7 (omega arith)) in
    All-same (FitsHead (head_of (parsed.Workers count ∷ before))) (entries_of (parsed.Workers count ∷ before)) [] none (All-nil (FitsHead (head_of (parsed.Workers count ∷ before))))
fit_more before other t b fit =
    All-weaker (FitsHead (head_of before)) (FitsHead (head_of (other ∷ before))) (still_fits (head_of before) (head_of (other ∷ before)) (grows before other refl)) (entries_of (other ∷ before)) fit

pub entries_fit : (before : List ParsedLine) → Told before → All (FitsHead (head_of before)) (entries_of before)
entries_fit =
    by_lines (λ before. All (FitsHead (head_of before)) (entries_of before)) (All-nil (FitsHead (head_of []))) (λ version. All-nil (FitsHead (head_of (parsed.Uma version ∷ []))))
    (λ before s t b fit. fit_more before s t b (All-append (FitsHead (head_of before)) (entries_of before) (entry_of (zones_of before) s) fit (entry_fits before s b)))

-- ---- each line is one that the version has

op_known : (version : Version) (worker : ℕ) (op : Op) → is_known_line version (parsed.Work worker op) ≡ true → IsKnownOp version op
op_known version worker ops.Away is = is
op_known version worker ops.Back is = is
op_known version worker other is = tt

work_known : (version : Version) (work : ZoneWork) (zone : ℕ) → IsKnownOp version (work_op work zone)
work_known version (works.Alloc slot arg reserve) zone = tt
work_known version works.Trim zone = tt
work_known version works.Drain zone = tt
work_known version works.DrainSeat zone = tt
work_known version (works.Prealloc items) zone = tt

in_zone_known : (version : Version) (worker : ℕ) (work : ZoneWork) (o : Option ℕ) → All (HasEntry version) (entry_in worker work o)
in_zone_known version worker work None = All-nil (HasEntry version)
in_zone_known version worker work (Some zone) = All-push (HasEntry version) [] (entries.Does worker (work_op work zone)) (All-nil (HasEntry version)) (work_known version work zone)

limit_known : (version : Version) (limit : ℕ) (o : Option ℕ) → changes_limits version ≡ true → All (HasEntry version) (limit_in limit o)
limit_known version limit None is = All-nil (HasEntry version)
limit_known version limit (Some zone) is = All-push (HasEntry version) [] (entries.Moves (SetMax zone limit)) (All-nil (HasEntry version)) is

entry_known : (before : List ParsedLine) (s : ParsedLine) → Behind before s → All (HasEntry (version_of before)) (entry_of (zones_of before) s)
entry_known before (parsed.Work worker op) b =
    All-push (HasEntry (version_of before)) [] (entries.Does worker op) (All-nil (HasEntry (version_of before))) (op_known (version_of before) worker op b.known)
entry_known before (parsed.InZone worker zone work) b = in_zone_known (version_of before) worker work (zone_named (zones_of before) zone)
entry_known before parsed.Round b = All-push (HasEntry (version_of before)) [] entries.Round (All-nil (HasEntry (version_of before))) tt
entry_known before (parsed.Give giver slot taker slot2) b =
    All-push (HasEntry (version_of before)) [] (entries.Moves (Give giver slot taker slot2)) (All-nil (HasEntry (version_of before))) tt
entry_known before (parsed.SetMax zone limit) b = limit_known (version_of before) limit (zone_named (zones_of before) zone) b.known
entry_known before other b = All-nil (HasEntry (version_of before))

-- only the first line says the version
version_kept : (before : List ParsedLine) (s : ParsedLine) → Behind before s → version_of before ≡ version_of (s ∷ before)
version_kept before (parsed.Uma version) b = absurd (let p = b.place in omega arith)
version_kept before other b = refl

known_more : (before : List ParsedLine) (s : ParsedLine) → Behind before s → All (HasEntry (version_of before)) (entries_of before) → All (HasEntry (version_of (s ∷ before))) (entries_of (s ∷ before))
known_more before s b all =
    let P : Version → Type 0 = λ version. All (HasEntry version) (entries_of (s ∷ before)) in
    subst P (version_kept before s b) (All-append (HasEntry (version_of before)) (entries_of before) (entry_of (zones_of before) s) all (entry_known before s b))

pub entries_known : (before : List ParsedLine) → Told before → All (HasEntry (version_of before)) (entries_of before)
entries_known =
    by_lines (λ before. All (HasEntry (version_of before)) (entries_of before)) (All-nil (HasEntry (version_of []))) (λ version. All-nil (HasEntry version))
    (λ before s t b all. known_more before s b all)

-- ---- where the lines between two rounds stand

-- a `round` line is the last one, or lines between two rounds stand behind it
abbrev begun_by : Bool → List Entry → Bool
begun_by begun [] = begun
begun_by begun (entries.Does w op ∷ more) = begun_by false more
begun_by begun (entries.Moves between ∷ more) = begun_by true more
begun_by begun (entries.Round ∷ more) = begun_by true more

begun_by-append : (begun : Bool) (xs ys : List Entry) → begun_by begun (xs ++ ys) ≡ begun_by (begun_by begun xs) ys
begun_by-append begun [] ys = refl
begun_by-append begun (entries.Does w op ∷ more) ys = begun_by-append false more ys
begun_by-append begun (entries.Moves between ∷ more) ys = begun_by-append true more ys
begun_by-append begun (entries.Round ∷ more) ys = begun_by-append true more ys

stand-append : (begun : Bool) (xs ys : List Entry) → BetweensStand begun xs → BetweensStand (begun_by begun xs) ys → BetweensStand begun (xs ++ ys)
stand-append begun [] ys g h = h
stand-append begun (entries.Does w op ∷ more) ys g h = stand-append false more ys g h
stand-append begun (entries.Moves between ∷ more) ys g h = (g.0, stand-append true more ys g.1 h)
stand-append begun (entries.Round ∷ more) ys g h = stand-append true more ys g h

begun_limit : (begun : Bool) (limit : ℕ) (o : Option ℕ) → is_some o ≡ true → begun_by begun (limit_in limit o) ≡ true
begun_limit begun limit None there = absurd cc
begun_limit begun limit (Some zone) there = refl

-- a `setmax` line that is told names a zone
limit_last : (zone : List ℕ) (limit : ℕ) (before : List ParsedLine) → Told (parsed.SetMax zone limit ∷ before) → begun_by false (entries_of (parsed.SetMax zone limit ∷ before)) ≡ true
limit_last zone limit [] t = absurd (let first = t.1 in cc)
limit_last zone limit (last ∷ before) t =
    let earlier : List ParsedLine = last ∷ before in
    let place : Option ℕ = zone_named (zones_of earlier) zone in
    let there : is_some place ≡ true = not-false (is_some place) (behind last before (parsed.SetMax zone limit) t).conflicts.zone in
    begun_by-append false (entries_of earlier) (limit_in limit place) ∙ begun_limit (begun_by false (entries_of earlier)) limit place there

begun_last : (before : List ParsedLine) → Told before → IsWithin 9 9 (rank (last_stage before)) → begun_by false (entries_of before) ≡ true
begun_last [] t e = absurd (omega arith)
begun_last (parsed.Round ∷ before) t e = begun_by-append false (entries_of before) (entries.Round ∷ [])
begun_last (parsed.Give giver slot taker slot2 ∷ before) t e = begun_by-append false (entries_of before) (entries.Moves (Give giver slot taker slot2) ∷ [])
begun_last (parsed.SetMax zone limit ∷ before) t e = limit_last zone limit before t
begun_last (other ∷ before) t e = absurd (omega arith)

in_zone_stands : (begun : Bool) (worker : ℕ) (work : ZoneWork) (o : Option ℕ) → BetweensStand begun (entry_in worker work o)
in_zone_stands begun worker work None = tt
in_zone_stands begun worker work (Some zone) = tt

limit_stands : (begun : Bool) (limit : ℕ) (o : Option ℕ) → begun ≡ true → BetweensStand begun (limit_in limit o)
limit_stands begun limit None is = tt
limit_stands begun limit (Some zone) is = (is, tt)

entry_stands : (before : List ParsedLine) (s : ParsedLine) → Told before → Behind before s → BetweensStand (begun_by false (entries_of before)) (entry_of (zones_of before) s)
entry_stands before (parsed.Give giver slot taker slot2) t b = (begun_last before t b.place, tt)
entry_stands before (parsed.SetMax zone limit) t b = limit_stands (begun_by false (entries_of before)) limit (zone_named (zones_of before) zone) (begun_last before t b.place)
entry_stands before (parsed.InZone worker zone work) t b = in_zone_stands (begun_by false (entries_of before)) worker work (zone_named (zones_of before) zone)
entry_stands before other t b = tt

pub betweens_stand : (before : List ParsedLine) → Told before → BetweensStand false (entries_of before)
betweens_stand =
    by_lines (λ before. BetweensStand false (entries_of before)) tt (λ version. tt)
    (λ before s t b stand. stand-append false (entries_of before) (entry_of (zones_of before) s) stand (entry_stands before s t b))

-- ---- the lines before a line

-- these lines, the last one first, and then others
abbrev onto : List Line → List Line → List Line
onto [] earlier = earlier
onto (line ∷ lines) earlier = onto lines (line ∷ earlier)

onto-append : (xs ys earlier : List Line) → onto (xs ++ ys) earlier ≡ onto ys (onto xs earlier)
onto-append [] ys earlier = refl
onto-append (x ∷ xs) ys earlier = onto-append xs ys (x ∷ earlier)

fit-append : (earlier xs ys : List Line) → LinesFit earlier xs → LinesFit (onto xs earlier) ys → LinesFit earlier (xs ++ ys)
fit-append earlier [] ys f g = g
fit-append earlier (x ∷ xs) ys f g = (f.0, fit-append (x ∷ earlier) xs ys f.1 g)

in_zone_done : (worker : ℕ) (work : ZoneWork) (o : Option ℕ) (earlier : List Line) → onto (flat_map entry_line (entry_in worker work o)) earlier ≡ line_of (entry_in worker work o) ++ earlier
in_zone_done worker work None earlier = refl
in_zone_done worker work (Some zone) earlier = refl

limit_done : (limit : ℕ) (o : Option ℕ) (earlier : List Line) → onto (flat_map entry_line (limit_in limit o)) earlier ≡ line_of (limit_in limit o) ++ earlier
limit_done limit None earlier = refl
limit_done limit (Some zone) earlier = refl

entry_done : (zones : List ZoneHead) (s : ParsedLine) (earlier : List Line) → onto (flat_map entry_line (entry_of zones s)) earlier ≡ line_of (entry_of zones s) ++ earlier
entry_done zones (parsed.InZone worker zone work) earlier = in_zone_done worker work (zone_named zones zone) earlier
entry_done zones (parsed.SetMax zone limit) earlier = limit_done limit (zone_named zones zone) earlier
entry_done zones other earlier = refl

-- what was done is what the lines below the header do
pub done_is : (before : List ParsedLine) → onto (flat_map entry_line (entries_of before)) [] ≡ done before
done_is [] = refl
done_is (s ∷ before) =
    let new : List Entry = entry_of (zones_of before) s in
    ap (λ (lines : List Line). onto lines []) (flat_map-append entry_line (entries_of before) new)
    ∙ (onto-append (flat_map entry_line (entries_of before)) (flat_map entry_line new) []
    ∙ (ap (λ (lines : List Line). onto (flat_map entry_line new) lines) (done_is before) ∙ entry_done (zones_of before) s (done before)))

none_held : (o : Option ℕ) → is_some o ≡ false → o ≡ None
none_held None e = refl
none_held (Some x) e = absurd cc

op_slot_fits : (before : List ParsedLine) (worker : ℕ) (op : Op) → OpNumbersFit op → ConflictsWithNone before (parsed.Work worker op) → SlotFits (done before) worker op
op_slot_fits before worker (ops.Free slot) n c = not-false (is_some (held (done before) worker slot)) c.empty
op_slot_fits before worker ops.Enter n c = c.opened
op_slot_fits before worker ops.Exit n c = not-false (in_section (done before) worker) c.closed
op_slot_fits before worker ops.Away n c = c.opened
op_slot_fits before worker (ops.Alloc zone slot arg reserve) n c = absurd n
op_slot_fits before worker other n c = tt

-- a worker is there unless the operation is `back`
presence_fits : (earlier : List Line) (worker : ℕ) (op : Op) → finds_away (λ w. is_away earlier w) (parsed.Work worker op) ≡ false → finds_there (λ w. is_away earlier w) (parsed.Work worker op) ≡ false
    → is_away earlier worker ≡ comes_back op
presence_fits earlier worker ops.Back away there = not-false (is_away earlier worker) there
presence_fits earlier worker (ops.Alloc zone slot arg reserve) away there = away
presence_fits earlier worker (ops.Free slot) away there = away
presence_fits earlier worker ops.Enter away there = away
presence_fits earlier worker ops.Exit away there = away
presence_fits earlier worker (ops.Bind key value) away there = away
presence_fits earlier worker (ops.Unbind key) away there = away
presence_fits earlier worker (ops.Look key) away there = away
presence_fits earlier worker (ops.Trim zone) away there = away
presence_fits earlier worker (ops.Drain zone) away there = away
presence_fits earlier worker (ops.DrainSeat zone) away there = away
presence_fits earlier worker (ops.Prealloc zone items) away there = away
presence_fits earlier worker ops.Away away there = away

op_line_fits : (before : List ParsedLine) (worker : ℕ) (op : Op) → OpNumbersFit op → ConflictsWithNone before (parsed.Work worker op) → LineFits (done before) (Does worker op)
op_line_fits before worker op n c = (op_slot_fits before worker op n c, presence_fits (done before) worker op c.away c.there)

work_line_fits : (earlier : List Line) (worker : ℕ) (name : List ℕ) (work : ZoneWork) (zone : ℕ) → finds_filled (λ w slot. is_some (held earlier w slot)) (parsed.InZone worker name work) ≡ false
    → is_away earlier worker ≡ false → LineFits earlier (Does worker (work_op work zone))
work_line_fits earlier worker name (works.Alloc slot arg reserve) zone e there = (none_held (held earlier worker slot) e, there)
work_line_fits earlier worker name works.Trim zone e there = (tt, there)
work_line_fits earlier worker name works.Drain zone e there = (tt, there)
work_line_fits earlier worker name works.DrainSeat zone e there = (tt, there)
work_line_fits earlier worker name (works.Prealloc items) zone e there = (tt, there)

in_zone_line_fits : (earlier : List Line) (worker : ℕ) (name : List ℕ) (work : ZoneWork) (o : Option ℕ) → finds_filled (λ w slot. is_some (held earlier w slot)) (parsed.InZone worker name work) ≡ false
    → is_away earlier worker ≡ false → LinesFit earlier (flat_map entry_line (entry_in worker work o))
in_zone_line_fits earlier worker name work None e there = tt
in_zone_line_fits earlier worker name work (Some zone) e there = (work_line_fits earlier worker name work zone e there, tt)

limit_line_fits : (earlier : List Line) (limit : ℕ) (o : Option ℕ) → LinesFit earlier (flat_map entry_line (limit_in limit o))
limit_line_fits earlier limit None = tt
limit_line_fits earlier limit (Some zone) = (tt, tt)

entry_line_fits : (before : List ParsedLine) (s : ParsedLine) → Behind before s → LinesFit (done before) (flat_map entry_line (entry_of (zones_of before) s))
entry_line_fits before (parsed.Work worker op) b = (op_line_fits before worker op b.numbers.1 b.conflicts, tt)
entry_line_fits before (parsed.InZone worker zone work) b = in_zone_line_fits (done before) worker zone work (zone_named (zones_of before) zone) b.conflicts.filled b.conflicts.away
entry_line_fits before (parsed.SetMax zone limit) b = limit_line_fits (done before) limit (zone_named (zones_of before) zone)
entry_line_fits before (parsed.Give giver slot taker slot2) b =
    let to = or_parts (eqb giver taker && eqb slot slot2) (is_some (held (done before) taker slot2)) b.conflicts.filled in
    ((not-false (is_some (held (done before) giver slot)) b.conflicts.empty, none_held (held (done before) taker slot2) to.1), tt)
entry_line_fits before other b = tt

line_more : (before : List ParsedLine) (s : ParsedLine) → Behind before s → LinesFit [] (flat_map entry_line (entries_of before)) → LinesFit [] (flat_map entry_line (entries_of (s ∷ before)))
line_more before s b fit =
    let old : List Line = flat_map entry_line (entries_of before) in
    let new : List Line = flat_map entry_line (entry_of (zones_of before) s) in
    let P : List Line → Type 0 = λ earlier. LinesFit earlier new in
    let Q : List Line → Type 0 = λ lines. LinesFit [] lines in
    subst Q (sym (flat_map-append entry_line (entries_of before) (entry_of (zones_of before) s))) (fit-append [] old new fit (subst P (sym (done_is before)) (entry_line_fits before s b)))

pub lines_fit : (before : List ParsedLine) → Told before → LinesFit [] (flat_map entry_line (entries_of before))
lines_fit = by_lines (λ before. LinesFit [] (flat_map entry_line (entries_of before))) tt (λ version. tt) (λ before s t b fit. line_more before s b fit)
