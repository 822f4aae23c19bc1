-- Valid traces: those that stand for some text of the trace grammar (own). Each fact is one test of a line.
use Rattle.std.specs.Prelude.{ℕ, ◌^◌, ◌%◌, ◌<◌, ◌≤◌, ◌≡◌, ◌≢◌, List, [], ◌∷◌, ◌++◌, length, map, All, AllPairs, count_by, slice_get, Bool, true, false, Option, Some, None, IsSome, IfSome, ◌==◌}
use Rattle.std.specs.Option.{option_map_or}
use Rattle.zone_stats.specs.Name.{IsName}
use Rattle.trace_text.specs.declared.trace.ClockHead.{ClockHead}
use Rattle.trace_text.specs.declared.trace.Head.{Head}
use Rattle.trace_text.specs.declared.trace.NamesHead.{NamesHead}
use Rattle.trace_text.specs.declared.trace.ZoneHead.{ZoneHead}
use Rattle.trace_text.specs.declared.trace.ZoneKind.{ZoneKind}
use Rattle.trace_text.specs.declared.trace.ZoneKind.TheVariants.{Plain, Smr}
use Rattle.trace_text.specs.declared.trace.Op.{Op}
use Rattle.trace_text.specs.declared.trace.Op.TheVariants.{Alloc, Free, Enter, Exit, Bind, Unbind, Look, Trim, Drain, DrainSeat, Prealloc, Away, Back}
use Rattle.trace_text.specs.declared.trace.Between.{Between}
use Rattle.trace_text.specs.declared.trace.Between.TheVariants.{Give, SetMax}
use Rattle.trace_text.specs.declared.trace.Round.{Round}
use Rattle.trace_text.specs.declared.trace.Trace.{Trace}
use Rattle.trace_text.specs.declared.trace.Version.{Version}
use Rattle.trace_text.specs.declared.trace.Version.TheVariants as versions
use Rattle.trace_text.specs.Limits.{IsWithin, last_slot}
use Rattle.trace_text.specs.Lines.{Line, Does, Moves, lines_of}
use Rattle.trace_text.specs.Reading.{held, in_section, is_away}

-- START is odd and below 2^63, and WINDOW even, from 4 to 2^30
pub record ClockFits (c : ClockHead) : Type 0 where
  pub start_odd : c.start % 2 ≡ 1
  pub start : c.start < 2 ^ 63
  pub window_even : c.window % 2 ≡ 0
  pub window : IsWithin 4 (2 ^ 30) c.window

-- a primary zone's own numbers
pub record PrimaryFits (z : ZoneHead) : Type 0 where
  pub size : IsWithin 8 4096 z.size
  pub slabs : IsWithin 1 1024 z.slabs
  pub reserve : z.reserve ≤ 65535

-- a secondary zone stands over an earlier primary one, whose keg it shares
pub record SecondaryFits (zones : List ZoneHead) (place parent : ℕ) (z : ZoneHead) : Type 0 where
  pub earlier : parent < place
  pub shares : IfSome (slice_get zones parent) (λ (primary : ZoneHead).
      (primary.parent ≡ None) × (z.size ≡ primary.size) × (z.slabs ≡ primary.slabs) × (z.reserve ≡ primary.reserve))

abbrev pub KegFits : List ZoneHead → ℕ → Option ℕ → ZoneHead → Type 0
KegFits zones place None z = PrimaryFits z
KegFits zones place (Some parent) z = SecondaryFits zones place parent z

-- an SMR zone needs a clock
abbrev pub KindFits : Option ClockHead → ZoneKind → Type 0
KindFits clock Plain = Unit {0}
KindFits clock Smr = IsSome clock

pub record ZoneFits (h : Head) (place : ℕ) (z : ZoneHead) : Type 0 where
  pub name : IsName z.name
  pub keg : KegFits h.zones place z.parent z
  pub bucket : IsWithin 4 64 z.bucket
  pub limit : z.limit ≤ 1000000
  pub kind : KindFits h.clock z.kind

-- the names line needs a clock
pub record NamesFits (h : Head) (n : NamesHead) : Type 0 where
  pub name : IsName n.name
  pub clock : IsSome h.clock
  pub rows : IsWithin 1 4096 n.rows
  pub slabs : IsWithin 1 1024 n.slabs
  pub bucket : IsWithin 4 64 n.bucket

-- the names of the zones, that of the names line last
abbrev pub zone_names : Head → List (List ℕ)
zone_names h = map (λ (z : ZoneHead). z.name) h.zones ++ option_map_or (λ (n : NamesHead). n.name ∷ []) h.names []

-- how many secondary zones share the keg of the zone at this place
abbrev pub sharer_count : List ZoneHead → ℕ → ℕ
sharer_count zones place = count_by (λ (z : ZoneHead). option_map_or (λ parent. parent == place) z.parent false) zones

pub record HeadFits (h : Head) : Type 0 where
  pub workers : IsWithin 1 16 h.workers
  pub domains : IsWithin 1 4 h.domains
  pub clock : IfSome h.clock ClockFits
  pub zones : (place : ℕ) → IfSome (slice_get h.zones place) (ZoneFits h place)
  pub names : IfSome h.names (NamesFits h)
  pub names_differ : AllPairs (λ a b. a ≢ b) (zone_names h)
  pub most_zones : length (zone_names h) ≤ 16
  pub most_of_a_keg : (place : ℕ) → place < length h.zones → sharer_count h.zones place < 8

-- an operation's own numbers, and that what it names is there
abbrev pub OpFits : Head → Op → Type 0
OpFits h (Alloc zone slot arg reserve) = (zone < length h.zones) × (slot ≤ last_slot) × (arg ≤ 254)
OpFits h (Free slot) = slot ≤ last_slot
OpFits h Enter = IsSome h.clock
OpFits h Exit = IsSome h.clock
OpFits h (Bind key value) = IsSome h.names × (key < 2 ^ 64) × (value < 2 ^ 64)
OpFits h (Unbind key) = IsSome h.names × (key < 2 ^ 64)
OpFits h (Look key) = IsSome h.names × (key < 2 ^ 64)
OpFits h (Trim zone) = zone < length h.zones
OpFits h (Drain zone) = zone < length h.zones
OpFits h (DrainSeat zone) = zone < length h.zones
OpFits h (Prealloc zone items) = (zone < length h.zones) × (items ≤ 262144)
OpFits h Away = IsSome h.clock
OpFits h Back = IsSome h.clock

abbrev pub BetweenFits : Head → Between → Type 0
BetweenFits h (Give giver slot taker slot2) =
    (giver < h.workers) × (slot ≤ last_slot) × (taker < h.workers) × (slot2 ≤ last_slot)
BetweenFits h (SetMax zone limit) = (zone < length h.zones) × (limit ≤ 1000000)

pub record RoundFits (h : Head) (r : Round) : Type 0 where
  pub workers : length r.ops ≡ h.workers
  pub ops : All (All (OpFits h)) r.ops
  pub between : All (BetweenFits h) r.between

-- there is a round, and nothing stands between the last one and `end`
abbrev pub LastRoundEnds : List Round → Type 0
LastRoundEnds [] = ⊥
LastRoundEnds (r ∷ []) = r.between ≡ []
LastRoundEnds (r ∷ next ∷ rounds) = LastRoundEnds (next ∷ rounds)

-- what an operation needs of its worker's slots and section before it
abbrev pub SlotFits : List Line → ℕ → Op → Type 0
SlotFits before w (Alloc zone slot arg reserve) = held before w slot ≡ None
SlotFits before w (Free slot) = IsSome (held before w slot)
SlotFits before w Enter = in_section before w ≡ false
SlotFits before w Exit = in_section before w ≡ true
SlotFits before w Away = in_section before w ≡ false
SlotFits before w op = Unit {0}

-- the operation is the one of a worker that is away
abbrev pub comes_back : Op → Bool
comes_back Back = true
comes_back op = false

-- what a line needs of the lines before it: a worker that is away comes back before it does anything else, and no other comes back
abbrev pub LineFits : List Line → Line → Type 0
LineFits before (Does w op) = SlotFits before w op × (is_away before w ≡ comes_back op)
LineFits before (Moves (Give giver from taker to)) = IsSome (held before giver from) × (held before taker to ≡ None)
LineFits before (Moves (SetMax zone limit)) = Unit {0}

-- each line fits the lines before it
abbrev pub LinesFit : List Line → List Line → Type 0
LinesFit before [] = Unit {0}
LinesFit before (next ∷ lines) = LineFits before next × LinesFit (next ∷ before) lines

-- limits change between two rounds from version 2 on
abbrev pub changes_limits : Version → Bool
changes_limits versions.One = false
changes_limits versions.Two = true
changes_limits versions.Three = true

-- workers leave and come back in version 3
abbrev pub lets_leave : Version → Bool
lets_leave versions.One = false
lets_leave versions.Two = false
lets_leave versions.Three = true

-- the version has such an operation
abbrev pub IsKnownOp : Version → Op → Type 0
IsKnownOp version Away = lets_leave version ≡ true
IsKnownOp version Back = lets_leave version ≡ true
IsKnownOp version op = Unit {0}

-- the version has such a line
abbrev pub IsKnown : Version → Line → Type 0
IsKnown version (Does w op) = IsKnownOp version op
IsKnown version (Moves (Give giver from taker to)) = Unit {0}
IsKnown version (Moves (SetMax zone limit)) = changes_limits version ≡ true

pub record IsValid (t : Trace) : Type 0 where
  pub head : HeadFits t.head
  pub rounds : All (RoundFits t.head) t.rounds
  pub last : LastRoundEnds t.rounds
  pub lines : LinesFit [] (lines_of t.rounds)
  pub known : All (IsKnown t.version) (lines_of t.rounds)
