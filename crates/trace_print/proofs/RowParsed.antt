-- What each row of the canonical text says, where its numbers are in range and its word may follow. A row is the fields of a line.
use Rattle.std.proofs.Common.{◌≡◌, ℕ, ◌+◌, ◌%◌, ◌^◌, ◌<◌, ◌≤◌, Bool, true, false, cond, eqb, List, [], ◌∷◌, ◌++◌, length, get_or, map, Option, Some, None, Result, Ok, refl, sym, ap, subst, arith}
use Rattle.std.specs.Prelude.{codes, IfSome, slice_get}
use Rattle.std.specs.Fmt.{decimal}
use Rattle.std.proofs.lemmas.Bool.{lt-ltb, le-leb, eq-eqb, eqb-true}
use Rattle.std.proofs.lemmas.Option.{slice_get-get_or}
use Rattle.trace_lines.specs.declared.refused.TraceKind.{TraceKind}
use Rattle.trace_lines.specs.Fields.{number_in, number_within}
use Rattle.trace_lines.specs.Number.{number_of}
use Rattle.trace_lines.proofs.Numbers.{number_of_again}
use Rattle.zone_stats.specs.Name.{IsName}
use Rattle.trace_text.specs.declared.trace.Between.{Between}
use Rattle.trace_text.specs.declared.trace.Between.TheVariants.{Give, SetMax}
use Rattle.trace_text.specs.declared.trace.ClockHead.{ClockHead}
use Rattle.trace_text.specs.declared.trace.Head.{Head}
use Rattle.trace_text.specs.declared.trace.NamesHead.{NamesHead}
use Rattle.trace_text.specs.declared.trace.ZoneHead.{ZoneHead}
use Rattle.trace_text.specs.declared.trace.ZoneKind.{ZoneKind}
use Rattle.trace_text.specs.declared.trace.ZoneKind.TheVariants.{Plain, Smr}
use Rattle.trace_text.specs.declared.trace.Op.{Op}
use Rattle.trace_text.specs.declared.trace.Op.TheVariants.{Alloc, Free, Enter, Exit, Bind, Unbind, Look, Trim, Drain, DrainSeat, Prealloc, Away, Back}
use Rattle.trace_text.specs.declared.trace.Round.{Round}
use Rattle.trace_text.specs.declared.trace.Trace.{Trace}
use Rattle.trace_text.specs.declared.trace_reading.parsed_line.ParsedLine.{ParsedLine}
use Rattle.trace_text.specs.declared.trace_reading.parsed_line.ParsedLine.TheVariants as parsed
use Rattle.trace_text.specs.declared.trace_reading.parsed_line.ZoneWork.TheVariants as works
use Rattle.trace_text.specs.declared.trace_reading.reader.Stage.{Stage}
use Rattle.trace_text.specs.declared.trace_reading.fields.HeadWord.TheVariants as heads
use Rattle.trace_text.specs.declared.trace_reading.fields.Word.{Word}
use Rattle.trace_text.specs.declared.trace_reading.fields.Word.TheVariants as words
use Rattle.trace_text.specs.declared.trace_reading.fields.WorkWord.TheVariants as by_self
use Rattle.trace_text.specs.declared.trace_reading.fields.ZoneWord.TheVariants as in_zone
use Rattle.trace_print.specs.CanonicalText.{kind_word, zone_fields, arg_fields, reserve_fields, op_fields, between_fields}
use Rattle.trace_text.specs.NamedZones.{zone_name}
use Rattle.trace_text.specs.declared.trace.Version.{Version}
use Rattle.trace_text.specs.Lines.{Does, Moves}
use Rattle.trace_text.specs.Limits.{IsWithin, last_slot}
use Rattle.trace_schedule.specs.ScheduleGrammar.{start_in, window_in}
use Rattle.trace_text.specs.TraceLine.{word_named, is_known, is_within, may_follow, name_in, kind_in, worker_in, slot_in, options, arg_in, parsed_by, says}
use Rattle.trace_text.specs.Valid.{ClockFits, PrimaryFits, KegFits, ZoneFits, NamesFits, HeadFits, OpFits, BetweenFits, IsKnown}
use Rattle.trace_text.proofs.Names.{is_name_from_IsName}
use Rattle.trace_text.proofs.RowZones.{nowhere}

-- ---- what the rows of a trace say, in the order of the text

abbrev pub parsed_clock : Option ClockHead → List ParsedLine
parsed_clock None = []
parsed_clock (Some c) = parsed.Clock c ∷ []

abbrev pub parsed_detail : Bool → List ParsedLine
parsed_detail false = []
parsed_detail true = parsed.Detail ∷ []

-- a zone by its parent
abbrev pub parsed_zone : List ZoneHead → Option ℕ → ZoneHead → ParsedLine
parsed_zone zones None z = parsed.Zone z
parsed_zone zones (Some parent) z =
    parsed.Second (record { name = z.name; of = zone_name zones parent; bucket = z.bucket; limit = z.limit; kind = z.kind })

abbrev pub parsed_names : Option NamesHead → List ParsedLine
parsed_names None = []
parsed_names (Some n) = parsed.Names n ∷ []

abbrev pub parsed_head : Head → List ParsedLine
parsed_head h =
    parsed.Workers h.workers ∷ parsed.Domains h.domains
    ∷ (parsed_clock h.clock ++ (parsed_detail h.detail ++ (map (λ (z : ZoneHead). parsed_zone h.zones z.parent z) h.zones ++ parsed_names h.names)))

abbrev pub parsed_op : List ZoneHead → ℕ → Op → ParsedLine
parsed_op zones w (Alloc zone slot arg reserve) = parsed.InZone w (zone_name zones zone) (works.Alloc slot arg reserve)
parsed_op zones w (Free slot) = parsed.Work w (Free slot)
parsed_op zones w Enter = parsed.Work w Enter
parsed_op zones w Exit = parsed.Work w Exit
parsed_op zones w Away = parsed.Work w Away
parsed_op zones w Back = parsed.Work w Back
parsed_op zones w (Bind key value) = parsed.Work w (Bind key value)
parsed_op zones w (Unbind key) = parsed.Work w (Unbind key)
parsed_op zones w (Look key) = parsed.Work w (Look key)
parsed_op zones w (Trim zone) = parsed.InZone w (zone_name zones zone) works.Trim
parsed_op zones w (Drain zone) = parsed.InZone w (zone_name zones zone) works.Drain
parsed_op zones w (DrainSeat zone) = parsed.InZone w (zone_name zones zone) works.DrainSeat
parsed_op zones w (Prealloc zone items) = parsed.InZone w (zone_name zones zone) (works.Prealloc items)

abbrev pub parsed_ops : List ZoneHead → ℕ → List (List Op) → List ParsedLine
parsed_ops zones w [] = []
parsed_ops zones w (ops ∷ lists) = map (parsed_op zones w) ops ++ parsed_ops zones (w + 1) lists

abbrev pub parsed_between : List ZoneHead → Between → ParsedLine
parsed_between zones (Give giver slot taker slot2) = parsed.Give giver slot taker slot2
parsed_between zones (SetMax zone limit) = parsed.SetMax (zone_name zones zone) limit

abbrev pub parsed_rounds : List ZoneHead → List Round → List ParsedLine
parsed_rounds zones [] = []
parsed_rounds zones (r ∷ []) = parsed_ops zones 0 r.ops
parsed_rounds zones (r ∷ next ∷ rounds) =
    parsed_ops zones 0 r.ops ++ (parsed.Round ∷ (map (parsed_between zones) r.between ++ parsed_rounds zones (next ∷ rounds)))

-- behind the first line
abbrev pub parsed_others : Trace → List ParsedLine
parsed_others t = parsed_head t.head ++ (parsed_rounds t.head.zones t.rounds ++ parsed.End ∷ [])

-- ---- one field

-- the text of a number in its range
pub number_says : (n : ℕ) → n < 2 ^ 64 → number_in (decimal n) ≡ Ok n
number_says n fits =
    let is : number_of (decimal n) ≡ Some n = number_of_again (decimal n) n (record { digits = refl; fits = fits }) in rw is refl

pub number_within_says : (low high n : ℕ) → low ≤ n → n ≤ high → high < 2 ^ 64 → number_within low high (decimal n) ≡ Ok n
number_within_says low high n above below fits =
    let is : number_in (decimal n) ≡ Ok n = number_says n (omega arith) in
    rw (is, le-leb low n above, le-leb n high below) refl

-- a name, and the word of a kind
pub name_says : (name : List ℕ) → IsName name → name_in name ≡ Ok name
name_says name is = rw (is_name_from_IsName name is) refl

pub kind_says : (k : ZoneKind) → kind_in (kind_word k) ≡ Ok k
kind_says Plain = refl
kind_says Smr = refl

-- a worker, a slot, and the numbers of the clock
pub worker_says : (workers w : ℕ) → w < workers → workers ≤ 2 ^ 64 → worker_in workers (decimal w) ≡ Ok w
worker_says workers w below fits =
    let is : number_in (decimal w) ≡ Ok w = number_says w (omega arith) in rw (is, lt-ltb w workers below) refl

pub slot_says : (slot : ℕ) → slot ≤ last_slot → slot_in (decimal slot) ≡ Ok slot
slot_says slot fits = number_within_says 0 last_slot slot (omega arith) fits (omega arith)

pub start_says : (c : ClockHead) → ClockFits c → start_in (decimal c.start) ≡ Ok c.start
start_says c fits =
    let below : c.start < 2 ^ 63 = fits.start in
    let is : number_in (decimal c.start) ≡ Ok c.start = number_says c.start (omega arith) in
    rw (is, eq-eqb (c.start % 2) 1 fits.start_odd, lt-ltb c.start (2 ^ 63) below) refl

pub window_says : (c : ClockHead) → ClockFits c → window_in (decimal c.window) ≡ Ok c.window
window_says c fits =
    let inside : IsWithin 4 (2 ^ 30) c.window = fits.window in
    let is : number_in (decimal c.window) ≡ Ok c.window = number_says c.window (omega arith) in
    rw (is, eq-eqb (c.window % 2) 0 fits.window_even, le-leb 4 c.window inside.0, le-leb c.window (2 ^ 30) inside.1) refl

-- ---- the line by its word

-- a line with a word that may stand there says what the fields behind it do
by_word : (version : Version) (stage : Stage) (workers : ℕ) (first : List ℕ) (rest : List (List ℕ)) (word : Word) (r : Result ParsedLine TraceKind)
    → word_named first ≡ Some word → is_known version word ≡ true → may_follow stage word ≡ true → parsed_by workers word rest ≡ r → says version stage workers (first ∷ rest) ≡ r
by_word version stage workers first rest word r named has follows is = rw (named, has, follows) is

-- ---- the header lines

-- the counts, the clock and `detail`
pub workers_row_says : (version : Version) (stage : Stage) (workers count : ℕ) → may_follow stage (words.Head heads.Workers) ≡ true → IsWithin 1 16 count
    → says version stage workers (codes "workers" ∷ decimal count ∷ []) ≡ Ok (parsed.Workers count)
workers_row_says version stage workers count follows inside =
    by_word version stage workers (codes "workers") (decimal count ∷ []) (words.Head heads.Workers) (Ok (parsed.Workers count)) refl refl follows
    (rw (number_within_says 1 16 count inside.0 inside.1 (omega arith)) refl)

pub domains_row_says : (version : Version) (stage : Stage) (workers count : ℕ) → may_follow stage (words.Head heads.Domains) ≡ true → IsWithin 1 4 count
    → says version stage workers (codes "domains" ∷ decimal count ∷ []) ≡ Ok (parsed.Domains count)
domains_row_says version stage workers count follows inside =
    by_word version stage workers (codes "domains") (decimal count ∷ []) (words.Head heads.Domains) (Ok (parsed.Domains count)) refl refl follows
    (rw (number_within_says 1 4 count inside.0 inside.1 (omega arith)) refl)

pub clock_row_says : (version : Version) (stage : Stage) (workers : ℕ) (c : ClockHead) → may_follow stage (words.Head heads.Clock) ≡ true → ClockFits c
    → says version stage workers (codes "clock" ∷ decimal c.start ∷ decimal c.window ∷ []) ≡ Ok (parsed.Clock c)
clock_row_says version stage workers c follows fits =
    by_word version stage workers (codes "clock") (decimal c.start ∷ decimal c.window ∷ []) (words.Head heads.Clock) (Ok (parsed.Clock c)) refl refl follows
    (rw (start_says c fits, window_says c fits) refl)

pub detail_row_says : (version : Version) (stage : Stage) (workers : ℕ) → may_follow stage (words.Head heads.Detail) ≡ true
    → says version stage workers (codes "detail" ∷ []) ≡ Ok parsed.Detail
detail_row_says version stage workers follows =
    by_word version stage workers (codes "detail") [] (words.Head heads.Detail) (Ok parsed.Detail) refl refl follows refl

-- each zone at a place has a name
abbrev pub AreNamed : List ZoneHead → Type 0
AreNamed zones = (z : ℕ) → z < length zones → IsName (zone_name zones z)

-- so it is in a header that fits
pub zones_are_named : (h : Head) → HeadFits h → AreNamed h.zones
zones_are_named h fits z lt =
    let is : slice_get h.zones z ≡ Some (get_or h.zones z nowhere) = slice_get-get_or h.zones z nowhere lt in
    let P : Option ZoneHead → Type 0 = λ o. IfSome o (ZoneFits h z) in
    let zone : ZoneFits h z (get_or h.zones z nowhere) = subst P is (fits.zones z) in
    rw is zone.name

-- the numbers that a primary and a secondary zone have alike
record SharedFits (z : ZoneHead) : Type 0 where
  name : IsName z.name
  bucket : IsWithin 4 64 z.bucket
  limit : z.limit ≤ 1000000

-- a `zone` row
primary_says : (version : Version) (stage : Stage) (workers : ℕ) (zones : List ZoneHead) (z : ZoneHead) → may_follow stage (words.Head heads.Zone) ≡ true
    → SharedFits z → PrimaryFits z → z.parent ≡ None → says version stage workers (zone_fields zones None z) ≡ Ok (parsed.Zone z)
primary_says version stage workers zones z follows fits primary none =
    let made : Option ℕ → ZoneHead = λ parent. record { name = z.name; parent = parent; size = z.size; slabs = z.slabs; bucket = z.bucket; limit = z.limit; reserve = z.reserve; kind = z.kind } in
    let rest : List (List ℕ) = z.name ∷ decimal z.size ∷ decimal z.slabs ∷ decimal z.bucket ∷ decimal z.limit ∷ decimal z.reserve ∷ kind_word z.kind ∷ [] in
    by_word version stage workers (codes "zone") rest (words.Head heads.Zone) (Ok (parsed.Zone z)) refl refl follows
    (rw (
      name_says z.name fits.name,
      number_within_says 8 4096 z.size primary.size.0 primary.size.1 (omega arith),
      number_within_says 1 1024 z.slabs primary.slabs.0 primary.slabs.1 (omega arith),
      number_within_says 4 64 z.bucket fits.bucket.0 fits.bucket.1 (omega arith),
      number_within_says 0 1000000 z.limit (omega arith) fits.limit (omega arith),
      number_within_says 0 65535 z.reserve (omega arith) primary.reserve (omega arith),
      kind_says z.kind,
    )
    (ap (λ (parent : Option ℕ). Ok (parsed.Zone (made parent))) (sym none)))

-- a `second` row
second_says : (version : Version) (stage : Stage) (workers : ℕ) (zones : List ZoneHead) (parent : ℕ) (z : ZoneHead) → may_follow stage (words.Head heads.Second) ≡ true
    → SharedFits z → IsName (zone_name zones parent) → says version stage workers (zone_fields zones (Some parent) z) ≡ Ok (parsed_zone zones (Some parent) z)
second_says version stage workers zones parent z follows fits named =
    let rest : List (List ℕ) = z.name ∷ zone_name zones parent ∷ decimal z.bucket ∷ decimal z.limit ∷ kind_word z.kind ∷ [] in
    by_word version stage workers (codes "second") rest (words.Head heads.Second) (Ok (parsed_zone zones (Some parent) z)) refl refl follows
    (rw (
      name_says z.name fits.name,
      name_says (zone_name zones parent) named,
      number_within_says 4 64 z.bucket fits.bucket.0 fits.bucket.1 (omega arith),
      number_within_says 0 1000000 z.limit (omega arith) fits.limit (omega arith),
      kind_says z.kind,
    ) refl)

-- the row of a zone, by its parent
zone_by_parent : (version : Version) (stage : Stage) (workers : ℕ) (zones : List ZoneHead) (place : ℕ) (z : ZoneHead) (parent : Option ℕ) → is_within 3 6 stage ≡ true
    → AreNamed zones → place < length zones → SharedFits z → KegFits zones place parent z → z.parent ≡ parent
    → says version stage workers (zone_fields zones parent z) ≡ Ok (parsed_zone zones parent z)
zone_by_parent version stage workers zones place z None follows named inside fits keg is = primary_says version stage workers zones z follows fits keg is
zone_by_parent version stage workers zones place z (Some parent) follows named inside fits keg is =
    second_says version stage workers zones parent z follows fits (named parent (omega (arith, keg.earlier)))

pub zone_row_says : (version : Version) (stage : Stage) (workers : ℕ) (h : Head) (place : ℕ) (z : ZoneHead) → is_within 3 6 stage ≡ true → AreNamed h.zones
    → place < length h.zones → ZoneFits h place z → says version stage workers (zone_fields h.zones z.parent z) ≡ Ok (parsed_zone h.zones z.parent z)
zone_row_says version stage workers h place z follows named inside fits =
    zone_by_parent version stage workers h.zones place z z.parent follows named inside
    (record { name = fits.name; bucket = fits.bucket; limit = fits.limit }) fits.keg refl

-- the `names` row
pub names_row_says : (version : Version) (stage : Stage) (workers : ℕ) (h : Head) (n : NamesHead) → may_follow stage (words.Head heads.Names) ≡ true → NamesFits h n
    → says version stage workers (codes "names" ∷ n.name ∷ decimal n.rows ∷ decimal n.slabs ∷ decimal n.bucket ∷ []) ≡ Ok (parsed.Names n)
names_row_says version stage workers h n follows fits =
    let rest : List (List ℕ) = n.name ∷ decimal n.rows ∷ decimal n.slabs ∷ decimal n.bucket ∷ [] in
    by_word version stage workers (codes "names") rest (words.Head heads.Names) (Ok (parsed.Names n)) refl refl follows
    (rw (
      name_says n.name fits.name,
      number_within_says 1 4096 n.rows fits.rows.0 fits.rows.1 (omega arith),
      number_within_says 1 1024 n.slabs fits.slabs.0 fits.slabs.1 (omega arith),
      number_within_says 4 64 n.bucket fits.bucket.0 fits.bucket.1 (omega arith),
    ) refl)

-- ---- what workers do

-- the fields behind the slot of an `alloc` row: the argument's text, or nothing at 0, and `reserve`
options_say : (zero : Bool) (text : List ℕ) (reserve : Bool) → options (cond zero [] (codes "arg" ∷ text ∷ []) ++ reserve_fields reserve) ≡ Ok (cond zero None (Some text), reserve)
options_say true text true = refl
options_say true text false = refl
options_say false text true = refl
options_say false text false = refl

-- the argument: 0 where its text is left out
arg_says : (arg : ℕ) (b : Bool) → eqb arg 0 ≡ b → arg ≤ 254 → arg_in (cond b None (Some (decimal arg))) ≡ Ok arg
arg_says arg true is fits = ap (λ (n : ℕ). Ok n) (sym (eqb-true arg 0 is))
arg_says arg false is fits = number_within_says 0 254 arg (omega arith) fits (omega arith)

-- an `alloc` row
alloc_row_says : (version : Version) (stage : Stage) (workers : ℕ) (zones : List ZoneHead) (w zone slot arg : ℕ) (reserve : Bool) → is_within 3 9 stage ≡ true
    → worker_in workers (decimal w) ≡ Ok w → IsName (zone_name zones zone) → slot ≤ last_slot → arg ≤ 254
    → says version stage workers (op_fields zones w (Alloc zone slot arg reserve)) ≡ Ok (parsed_op zones w (Alloc zone slot arg reserve))
alloc_row_says version stage workers zones w zone slot arg reserve follows worker named slot_is arg_is =
    let rest : List (List ℕ) = decimal w ∷ zone_name zones zone ∷ decimal slot ∷ (arg_fields arg ++ reserve_fields reserve) in
    by_word version stage workers (codes "alloc") rest (words.Zone in_zone.Alloc) (Ok (parsed_op zones w (Alloc zone slot arg reserve))) refl refl follows
    (rw (
      options_say (eqb arg 0) (decimal arg) reserve,
      worker,
      name_says (zone_name zones zone) named,
      slot_says slot slot_is,
      arg_says arg (eqb arg 0) refl arg_is,
    ) refl)

-- a row of a worker, where the version has it
pub op_row_says : (version : Version) (stage : Stage) (workers : ℕ) (h : Head) (w : ℕ) (op : Op) → is_within 3 9 stage ≡ true → IsKnown version (Does w op) → w < workers → workers ≤ 2 ^ 64
    → AreNamed h.zones → OpFits h op → says version stage workers (op_fields h.zones w op) ≡ Ok (parsed_op h.zones w op)
op_row_says version stage workers h w (Alloc zone slot arg reserve) follows has below few named fits =
    alloc_row_says version stage workers h.zones w zone slot arg reserve follows (worker_says workers w below few) (named zone fits.0) fits.1 fits.2
op_row_says version stage workers h w (Free slot) follows has below few named fits =
    by_word version stage workers (codes "free") (decimal w ∷ decimal slot ∷ []) (words.Work by_self.Free) (Ok (parsed.Work w (Free slot))) refl refl follows
    (rw (worker_says workers w below few, slot_says slot fits) refl)
op_row_says version stage workers h w Enter follows has below few named fits =
    by_word version stage workers (codes "enter") (decimal w ∷ []) (words.Work by_self.Enter) (Ok (parsed.Work w Enter)) refl refl follows
    (rw (worker_says workers w below few) refl)
op_row_says version stage workers h w Exit follows has below few named fits =
    by_word version stage workers (codes "exit") (decimal w ∷ []) (words.Work by_self.Exit) (Ok (parsed.Work w Exit)) refl refl follows
    (rw (worker_says workers w below few) refl)
op_row_says version stage workers h w (Bind key value) follows has below few named fits =
    by_word version stage workers (codes "bind") (decimal w ∷ decimal key ∷ decimal value ∷ []) (words.Work by_self.Bind) (Ok (parsed.Work w (Bind key value))) refl refl follows
    (rw (worker_says workers w below few, number_says key fits.1, number_says value fits.2) refl)
op_row_says version stage workers h w (Unbind key) follows has below few named fits =
    by_word version stage workers (codes "unbind") (decimal w ∷ decimal key ∷ []) (words.Work by_self.Unbind) (Ok (parsed.Work w (Unbind key))) refl refl follows
    (rw (worker_says workers w below few, number_says key fits.1) refl)
op_row_says version stage workers h w (Look key) follows has below few named fits =
    by_word version stage workers (codes "look") (decimal w ∷ decimal key ∷ []) (words.Work by_self.Look) (Ok (parsed.Work w (Look key))) refl refl follows
    (rw (worker_says workers w below few, number_says key fits.1) refl)
op_row_says version stage workers h w (Trim zone) follows has below few named fits =
    by_word version stage workers (codes "trim") (decimal w ∷ zone_name h.zones zone ∷ []) (words.Zone in_zone.Trim) (Ok (parsed_op h.zones w (Trim zone))) refl refl follows
    (rw (worker_says workers w below few, name_says (zone_name h.zones zone) (named zone fits)) refl)
op_row_says version stage workers h w (Drain zone) follows has below few named fits =
    by_word version stage workers (codes "drain") (decimal w ∷ zone_name h.zones zone ∷ []) (words.Zone in_zone.Drain) (Ok (parsed_op h.zones w (Drain zone))) refl refl follows
    (rw (worker_says workers w below few, name_says (zone_name h.zones zone) (named zone fits)) refl)
op_row_says version stage workers h w (DrainSeat zone) follows has below few named fits =
    by_word version stage workers (codes "drainseat") (decimal w ∷ zone_name h.zones zone ∷ []) (words.Zone in_zone.DrainSeat) (Ok (parsed_op h.zones w (DrainSeat zone))) refl refl follows
    (rw (worker_says workers w below few, name_says (zone_name h.zones zone) (named zone fits)) refl)
op_row_says version stage workers h w (Prealloc zone items) follows has below few named fits =
    by_word version stage workers (codes "prealloc") (decimal w ∷ zone_name h.zones zone ∷ decimal items ∷ []) (words.Zone in_zone.Prealloc) (Ok (parsed_op h.zones w (Prealloc zone items))) refl refl follows
    (rw (worker_says workers w below few, name_says (zone_name h.zones zone) (named zone fits.0), number_within_says 0 262144 items (omega arith) fits.1 (omega arith)) refl)
op_row_says version stage workers h w Away follows has below few named fits =
    by_word version stage workers (codes "away") (decimal w ∷ []) (words.Work by_self.Away) (Ok (parsed.Work w Away)) refl has follows
    (rw (worker_says workers w below few) refl)
op_row_says version stage workers h w Back follows has below few named fits =
    by_word version stage workers (codes "back") (decimal w ∷ []) (words.Work by_self.Back) (Ok (parsed.Work w Back)) refl has follows
    (rw (worker_says workers w below few) refl)

-- ---- between the rounds

-- a `give` row, and a `setmax` row where the version has it
pub between_row_says : (version : Version) (stage : Stage) (workers : ℕ) (h : Head) (b : Between) → is_within 9 9 stage ≡ true → IsKnown version (Moves b) → h.workers ≤ workers → workers ≤ 2 ^ 64
    → AreNamed h.zones → BetweenFits h b → says version stage workers (between_fields h.zones b) ≡ Ok (parsed_between h.zones b)
between_row_says version stage workers h (Give giver slot taker slot2) follows has enough few named fits =
    by_word version stage workers (codes "give") (decimal giver ∷ decimal slot ∷ decimal taker ∷ decimal slot2 ∷ []) words.Give (Ok (parsed.Give giver slot taker slot2)) refl refl follows
    (rw (
      worker_says workers giver (omega (arith, fits.0)) few,
      slot_says slot fits.1,
      worker_says workers taker (omega (arith, fits.2)) few,
      slot_says slot2 fits.3,
    ) refl)
between_row_says version stage workers h (SetMax zone limit) follows has enough few named fits =
    by_word version stage workers (codes "setmax") (zone_name h.zones zone ∷ decimal limit ∷ []) words.SetMax (Ok (parsed_between h.zones (SetMax zone limit))) refl has follows
    (rw (name_says (zone_name h.zones zone) (named zone fits.0), number_within_says 0 1000000 limit (omega arith) fits.1 (omega arith)) refl)

-- the rows of one word
pub round_row_says : (version : Version) (stage : Stage) (workers : ℕ) → may_follow stage words.Round ≡ true → says version stage workers (codes "round" ∷ []) ≡ Ok parsed.Round
round_row_says version stage workers follows = by_word version stage workers (codes "round") [] words.Round (Ok parsed.Round) refl refl follows refl

pub end_row_says : (version : Version) (stage : Stage) (workers : ℕ) → may_follow stage words.End ≡ true → says version stage workers (codes "end" ∷ []) ≡ Ok parsed.End
end_row_says version stage workers follows = by_word version stage workers (codes "end") [] words.End (Ok parsed.End) refl refl follows refl
