-- The canonical text of a trace by its rows: each is the fields of a line.
use Rattle.std.proofs.Common.{ℕ, ◌+◌, List, [], ◌∷◌, ◌++◌, map, Bool, true, false, Option, Some, None}
use Rattle.std.specs.Prelude.{codes}
use Rattle.std.specs.Fmt.{decimal}
use Rattle.trace_text.specs.declared.trace.ClockHead.{ClockHead}
use Rattle.trace_text.specs.declared.trace.Head.{Head}
use Rattle.trace_text.specs.declared.trace.NamesHead.{NamesHead}
use Rattle.trace_text.specs.declared.trace.ZoneHead.{ZoneHead}
use Rattle.trace_text.specs.declared.trace.Op.{Op}
use Rattle.trace_text.specs.declared.trace.Round.{Round}
use Rattle.trace_text.specs.declared.trace.Trace.{Trace}
use Rattle.trace_text.specs.declared.trace.Version.{Version}
use Rattle.trace_print.specs.CanonicalText.{between_fields, op_fields, version_word, zone_fields}

abbrev pub clock_rows : Option ClockHead → List (List (List ℕ))
clock_rows None = []
clock_rows (Some c) = (codes "clock" ∷ decimal c.start ∷ decimal c.window ∷ []) ∷ []

abbrev pub detail_rows : Bool → List (List (List ℕ))
detail_rows false = []
detail_rows true = (codes "detail" ∷ []) ∷ []

abbrev pub names_rows : Option NamesHead → List (List (List ℕ))
names_rows None = []
names_rows (Some n) = (codes "names" ∷ n.name ∷ decimal n.rows ∷ decimal n.slabs ∷ decimal n.bucket ∷ []) ∷ []

abbrev pub head_rows : Head → List (List (List ℕ))
head_rows h =
    (codes "workers" ∷ decimal h.workers ∷ []) ∷ (codes "domains" ∷ decimal h.domains ∷ [])
    ∷ (clock_rows h.clock ++ (detail_rows h.detail ++ (map (λ (z : ZoneHead). zone_fields h.zones z.parent z) h.zones ++ names_rows h.names)))

abbrev pub ops_rows : List ZoneHead → ℕ → List (List Op) → List (List (List ℕ))
ops_rows zones w [] = []
ops_rows zones w (ops ∷ lists) = map (op_fields zones w) ops ++ ops_rows zones (w + 1) lists

abbrev pub rounds_rows : List ZoneHead → List Round → List (List (List ℕ))
rounds_rows zones [] = []
rounds_rows zones (r ∷ []) = ops_rows zones 0 r.ops
rounds_rows zones (r ∷ next ∷ rounds) =
    ops_rows zones 0 r.ops ++ ((codes "round" ∷ []) ∷ (map (between_fields zones) r.between ++ rounds_rows zones (next ∷ rounds)))

-- the first line's, and those behind it
abbrev pub first_row : Version → List (List ℕ)
first_row version = codes "uma" ∷ version_word version ∷ []

abbrev pub other_rows : Trace → List (List (List ℕ))
other_rows t = head_rows t.head ++ (rounds_rows t.head.zones t.rounds ++ (codes "end" ∷ []) ∷ [])

abbrev pub trace_rows : Trace → List (List (List ℕ))
trace_rows t = first_row t.version ∷ other_rows t
