-- Counting over the lines of a trace (own).
use Rattle.std.specs.Prelude.{ℕ, ◌+◌, List, [], ◌∷◌, ◌++◌, Bool, true, false, not, ◌&&◌, ◌==◌, nat_lt, None, if◌then◌else◌, slice_get, count_by, length}
use Rattle.std.specs.List.{flat_map}
use Rattle.std.specs.Option.{option_map_or}
use Rattle.trace_text.specs.declared.trace.Head.{Head}
use Rattle.trace_text.specs.declared.trace.NamesHead.{NamesHead}
use Rattle.trace_text.specs.declared.trace.ZoneHead.{ZoneHead}
use Rattle.trace_text.specs.declared.trace.ZoneKind.TheVariants.{Smr}
use Rattle.trace_text.specs.declared.trace.Op.{Op}
use Rattle.trace_text.specs.declared.trace.Op.TheVariants.{Alloc, Free, Enter, Bind, Unbind, Look}
use Rattle.trace_text.specs.declared.trace.Round.{Round}
use Rattle.trace_text.specs.declared.trace.Trace.{Trace}
use Rattle.trace_text.specs.Lines.{Line, Does, lines_of}
use Rattle.trace_text.specs.Reading.{held, in_section}

-- the zone of the entries of a name cache: SMR, of size 64, without limit and reserve
abbrev pub entry_zone : NamesHead → ZoneHead
entry_zone n = record { name = n.name; parent = None; size = 64; slabs = n.slabs; bucket = n.bucket; limit = 0; reserve = 0; kind = Smr }

-- the zones that a report speaks of: those of the zone lines in order, the names zone last
abbrev pub report_zones : Head → List ZoneHead
report_zones h = h.zones ++ option_map_or (λ n. entry_zone n ∷ []) h.names []

-- what worker `w` does in all rounds, in order
abbrev pub worker_ops : Trace → ℕ → List Op
worker_ops t w = flat_map (λ (r : Round). option_map_or (λ ops. ops) (slice_get r.ops w) []) t.rounds

-- a request of the zone at this place
abbrev pub is_alloc_of : ℕ → Op → Bool
is_alloc_of z (Alloc zone slot arg reserve) = zone == z
is_alloc_of z op = false

-- a request of the zone at this place with an argument above 0
abbrev pub is_alloc_with_arg : ℕ → Op → Bool
is_alloc_with_arg z (Alloc zone slot arg reserve) = (zone == z) && nat_lt 0 arg
is_alloc_with_arg z op = false

-- a request of the zone at this place with this argument
abbrev pub is_alloc_with : ℕ → ℕ → Op → Bool
is_alloc_with z code (Alloc zone slot arg reserve) = (zone == z) && (arg == code)
is_alloc_with z code op = false

abbrev pub is_bind : Op → Bool
is_bind (Bind key value) = true
is_bind op = false

abbrev pub is_unbind : Op → Bool
is_unbind (Unbind key) = true
is_unbind op = false

abbrev pub is_look : Op → Bool
is_look (Look key) = true
is_look op = false

-- some worker's line is of this kind
abbrev pub is_done : (Op → Bool) → Line → Bool
is_done kind (Does w op) = kind op
is_done kind line = false

-- how many lines of this kind all workers have
abbrev pub kind_count : (Op → Bool) → Trace → ℕ
kind_count kind t = count_by (is_done kind) (lines_of t.rounds)

-- what counts as a request of the zone at this place: its allocs, and for the names zone the binds
abbrev pub is_request_of : Head → ℕ → Op → Bool
is_request_of h z op = if nat_lt z (length h.zones) then is_alloc_of z op else is_bind op

-- how many requests of the zone at this place worker `w` makes
abbrev pub request_count : Trace → ℕ → ℕ → ℕ
request_count t w z = count_by (is_request_of t.head z) (worker_ops t w)

-- how many of them have an argument above 0
abbrev pub arg_count : Trace → ℕ → ℕ → ℕ
arg_count t w z = count_by (is_alloc_with_arg z) (worker_ops t w)

-- the line frees a slot that holds, in the reading of the text, what an alloc of zone `z` put in
abbrev pub frees_of : ℕ → List Line → Line → Bool
frees_of z before (Does w (Free slot)) = option_map_or (λ zone. zone == z) (held before w slot) false
frees_of z before line = false

-- how many of these lines do; they stand with the last one first
abbrev pub free_count : ℕ → List Line → ℕ
free_count z [] = 0
free_count z (line ∷ earlier) = free_count z earlier + (if frees_of z earlier line then 1 else 0)

-- the line wants a section: an `enter` line, or a `look` line of a worker that is in none
abbrev pub is_entry : List Line → Line → Bool
is_entry before (Does w Enter) = true
is_entry before (Does w (Look key)) = not (in_section before w)
is_entry before line = false

-- how many of these lines do; they stand with the last one first
abbrev pub enter_count : List Line → ℕ
enter_count [] = 0
enter_count (line ∷ earlier) = enter_count earlier + (if is_entry earlier line then 1 else 0)
