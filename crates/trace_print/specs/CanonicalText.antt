-- The canonical text of any trace: its version, the header lines in their order, then the rounds, then `end`. Each line is its fields
-- with one space between two of them, and LF. Nothing is skipped, and what has a default is left out (own).
use Rattle.std.specs.Prelude.{ℕ, ◌+◌, List, [], ◌∷◌, ◌++◌, Bool, true, false, Option, Some, None, codes, if◌then◌else◌, ◌==◌}
use Rattle.std.specs.List.{flat_map}
use Rattle.std.specs.Fmt.{decimal}
use Rattle.trace_lines.specs.CanonicalLine.{line}
use Rattle.trace_text.specs.declared.trace.ClockHead.{ClockHead}
use Rattle.trace_text.specs.declared.trace.Head.{Head}
use Rattle.trace_text.specs.declared.trace.NamesHead.{NamesHead}
use Rattle.trace_text.specs.declared.trace.ZoneHead.{ZoneHead}
use Rattle.trace_text.specs.declared.trace.ZoneKind.{ZoneKind}
use Rattle.trace_text.specs.declared.trace.ZoneKind.TheVariants.{Plain, Smr}
use Rattle.trace_text.specs.declared.trace.Op.{Op}
use Rattle.trace_text.specs.declared.trace.Op.TheVariants.{Alloc, Free, Enter, Exit, Bind, Unbind, Look, Trim, Drain, DrainSeat, Prealloc, Away, Back}
use Rattle.trace_text.specs.declared.trace.Between.{Between}
use Rattle.trace_text.specs.declared.trace.Between.TheVariants.{Give, SetMax}
use Rattle.trace_text.specs.declared.trace.Round.{Round}
use Rattle.trace_text.specs.declared.trace.Trace.{Trace}
use Rattle.trace_text.specs.declared.trace.Version.{Version}
use Rattle.trace_text.specs.declared.trace.Version.TheVariants as versions
use Rattle.trace_text.specs.NamedZones.{zone_name}

abbrev pub version_word : Version → List ℕ
version_word versions.One = codes "1"
version_word versions.Two = codes "2"
version_word versions.Three = codes "3"

abbrev pub first_line : Version → List ℕ
first_line version = line (codes "uma" ∷ version_word version ∷ [])

abbrev pub kind_word : ZoneKind → List ℕ
kind_word Plain = codes "plain"
kind_word Smr = codes "smr"

-- the fields of a `zone` line, or of a `second` line behind the name of its primary zone
abbrev pub zone_fields : List ZoneHead → Option ℕ → ZoneHead → List (List ℕ)
zone_fields zones None h =
    codes "zone" ∷ h.name ∷ decimal h.size ∷ decimal h.slabs ∷ decimal h.bucket ∷ decimal h.limit ∷ decimal h.reserve ∷ kind_word h.kind ∷ []
zone_fields zones (Some primary) h =
    codes "second" ∷ h.name ∷ zone_name zones primary ∷ decimal h.bucket ∷ decimal h.limit ∷ kind_word h.kind ∷ []

abbrev pub zone_line : List ZoneHead → ZoneHead → List ℕ
zone_line zones h = line (zone_fields zones h.parent h)

abbrev pub clock_text : Option ClockHead → List ℕ
clock_text None = []
clock_text (Some c) = line (codes "clock" ∷ decimal c.start ∷ decimal c.window ∷ [])

abbrev pub detail_text : Bool → List ℕ
detail_text false = []
detail_text true = line (codes "detail" ∷ [])

abbrev pub names_text : Option NamesHead → List ℕ
names_text None = []
names_text (Some n) = line (codes "names" ∷ n.name ∷ decimal n.rows ∷ decimal n.slabs ∷ decimal n.bucket ∷ [])

abbrev pub head_text : Head → List ℕ
head_text h =
    line (codes "workers" ∷ decimal h.workers ∷ []) ++ (line (codes "domains" ∷ decimal h.domains ∷ [])
    ++ (clock_text h.clock ++ (detail_text h.detail ++ (flat_map (zone_line h.zones) h.zones ++ names_text h.names))))

-- the fields `arg N`, left out at 0
abbrev pub arg_fields : ℕ → List (List ℕ)
arg_fields arg = if arg == 0 then [] else (codes "arg" ∷ decimal arg ∷ [])

abbrev pub reserve_fields : Bool → List (List ℕ)
reserve_fields reserve = if reserve then (codes "reserve" ∷ []) else []

-- the fields of an operation of worker `w`
abbrev pub op_fields : List ZoneHead → ℕ → Op → List (List ℕ)
op_fields zones w (Alloc zone slot arg reserve) =
    codes "alloc" ∷ decimal w ∷ zone_name zones zone ∷ decimal slot ∷ (arg_fields arg ++ reserve_fields reserve)
op_fields zones w (Free slot) = codes "free" ∷ decimal w ∷ decimal slot ∷ []
op_fields zones w Enter = codes "enter" ∷ decimal w ∷ []
op_fields zones w Exit = codes "exit" ∷ decimal w ∷ []
op_fields zones w (Bind key value) = codes "bind" ∷ decimal w ∷ decimal key ∷ decimal value ∷ []
op_fields zones w (Unbind key) = codes "unbind" ∷ decimal w ∷ decimal key ∷ []
op_fields zones w (Look key) = codes "look" ∷ decimal w ∷ decimal key ∷ []
op_fields zones w (Trim zone) = codes "trim" ∷ decimal w ∷ zone_name zones zone ∷ []
op_fields zones w (Drain zone) = codes "drain" ∷ decimal w ∷ zone_name zones zone ∷ []
op_fields zones w (DrainSeat zone) = codes "drainseat" ∷ decimal w ∷ zone_name zones zone ∷ []
op_fields zones w (Prealloc zone items) = codes "prealloc" ∷ decimal w ∷ zone_name zones zone ∷ decimal items ∷ []
op_fields zones w Away = codes "away" ∷ decimal w ∷ []
op_fields zones w Back = codes "back" ∷ decimal w ∷ []

abbrev pub op_line : List ZoneHead → ℕ → Op → List ℕ
op_line zones w op = line (op_fields zones w op)

-- the lines of the workers from number `w` on, each worker's in their order
abbrev pub ops_text : List ZoneHead → ℕ → List (List Op) → List ℕ
ops_text zones w [] = []
ops_text zones w (ops ∷ lists) = flat_map (op_line zones w) ops ++ ops_text zones (w + 1) lists

-- the fields of a line between two rounds
abbrev pub between_fields : List ZoneHead → Between → List (List ℕ)
between_fields zones (Give giver slot taker slot2) = codes "give" ∷ decimal giver ∷ decimal slot ∷ decimal taker ∷ decimal slot2 ∷ []
between_fields zones (SetMax zone limit) = codes "setmax" ∷ zone_name zones zone ∷ decimal limit ∷ []

abbrev pub between_line : List ZoneHead → Between → List ℕ
between_line zones between = line (between_fields zones between)

-- the rounds; a `round` line and what stands between two rounds follow all but the last
abbrev pub rounds_text : List ZoneHead → List Round → List ℕ
rounds_text zones [] = []
rounds_text zones (r ∷ []) = ops_text zones 0 r.ops
rounds_text zones (r ∷ next ∷ rounds) =
    ops_text zones 0 r.ops ++ (line (codes "round" ∷ []) ++ (flat_map (between_line zones) r.between ++ rounds_text zones (next ∷ rounds)))

abbrev pub canonical_text : Trace → List ℕ
canonical_text t = first_line t.version ++ (head_text t.head ++ (rounds_text t.head.zones t.rounds ++ line (codes "end" ∷ [])))
