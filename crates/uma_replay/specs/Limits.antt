-- The limits that a trace gives its zones (own). A zone begins with the limit of its header line, and each `setmax` line that names it gives it
-- another.
use Rattle.std.specs.Prelude.{◌≡◌, ◌==◌, ℕ, List, [], ◌∷◌, Option, Some, None, Contains, if◌then◌else◌, reverse, slice_get}
use Rattle.std.specs.List.{filter_map}
use Rattle.std.specs.Option.{option_map_or}
use Rattle.trace_text.specs.declared.trace.Between.TheVariants.{SetMax}
use Rattle.trace_text.specs.declared.trace.ZoneHead.{ZoneHead}
use Rattle.trace_text.specs.Lines.{Line, Moves}
use Rattle.zone_stats.specs.declared.ledger.SeatLedger.{SeatLedger}
use Rattle.zone_stats.specs.declared.refusal.Refusal.{Refusal}
use Rattle.zone_stats.specs.declared.refusal.Refusal.TheVariants.{AtLimit}

-- the limit that the line gives the zone at place `z`, where it gives it one
abbrev pub limit_in : ℕ → Line → Option ℕ
limit_in z (Moves (SetMax zone limit)) = if zone == z then Some limit else None
limit_in z line = None

-- The limit of the zone at place `z` behind these lines, which stand with the last one first: that of the last `setmax` line that names the zone,
-- else the one that it began with.
abbrev pub limit_after : ℕ → ℕ → List Line → ℕ
limit_after z first [] = first
limit_after z first (line ∷ earlier) = option_map_or (λ limit. limit) (limit_in z line) (limit_after z first earlier)

-- its limit when all these lines are done, which stand in the order of the text
abbrev pub last_limit : List Line → ℕ → ZoneHead → ℕ
last_limit lines z head = limit_after z head.limit (reverse lines)

-- each limit that it had: that of its header line, and then those of the `setmax` lines that name it
abbrev pub limits_had : List Line → ℕ → ZoneHead → List ℕ
limits_had lines z head = head.limit ∷ filter_map (limit_in z) lines

-- the limit that a refusal names, where it is one by a limit
abbrev pub named_limit : Refusal → Option ℕ
named_limit (AtLimit out limit) = Some limit
named_limit refusal = None

-- where the ledger keeps a refusal by a limit, this is one of these limits
abbrev pub KeepsOneOf : List ℕ → SeatLedger → Type 0
KeepsOneOf limits ledger = (refusal : Refusal) (limit : ℕ) → ledger.last ≡ Some refusal → named_limit refusal ≡ Some limit → Contains limits limit

-- each of these ledgers
abbrev pub KeepSomeOf : List ℕ → List SeatLedger → Type 0
KeepSomeOf limits ledgers = (n : ℕ) (ledger : SeatLedger) → slice_get ledgers n ≡ Some ledger → KeepsOneOf limits ledger

-- the ledgers of each zone keep limits that it had
abbrev pub KeepLimits : List Line → List ZoneHead → List (List SeatLedger) → Type 0
KeepLimits lines heads ledgers = (z : ℕ) (head : ZoneHead) (own : List SeatLedger) → slice_get heads z ≡ Some head → slice_get ledgers z ≡ Some own
    → KeepSomeOf (limits_had lines z head) own
