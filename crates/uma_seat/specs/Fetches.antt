-- Own: how a fetch is listed in the fail book of its zone and in the share of its seat. Every fetch is, whatever its end.
use Rattle.std.specs.Prelude.{◌≡◌, ℕ, Bool, true, not, nat_lt, List}
use Rattle.std.specs.List.{count_by}
use Rattle.deed_book.specs.declared.deed.Cause.{Cause}
use Rattle.deed_book.specs.FailViews.{cause}
use Rattle.zone_stats.specs.declared.refusal.Refusal.{Refusal}
use Rattle.zone_stats.specs.declared.ledger.SeatLedger.{SeatLedger}
use Rattle.zone_stats.specs.Cause.{cause_of}
use Rattle.zone_stats.specs.Ledger.{is_ctor}
use Rattle.zone_stats.specs.LedgerSteps.{CountsTurned}
use Rattle.uma_seat.specs.declared.counts.FetchEnd.{FetchEnd}
use Rattle.uma_seat.specs.declared.counts.FetchEnd.TheVariants.{Gave, Memory, Refused}

-- the kind of a refusal and its numbers
abbrev pub refusal_cause : Refusal → Cause
refusal_cause refusal = cause (cause_of refusal).0 (cause_of refusal).1 (cause_of refusal).2

-- A refusal has a kind of 1 to 5. A fetch that gave has the kind 6 and the count of its items, one that met no memory the kind 7.
abbrev pub end_cause : FetchEnd → Cause
end_cause (Gave count) = cause 6 count 0
end_cause Memory = cause 7 0 0
end_cause (Refused refusal) = refusal_cause refusal

-- the cause is that of a refusal
abbrev pub is_turned : Cause → Bool
is_turned c = nat_lt c.kind 6

-- how many of the listed fetches were refused
abbrev pub turned_in : List Cause → ℕ
turned_in causes = count_by is_turned causes

-- a keg can end a fetch so: `ctor` runs after it
abbrev pub is_of_keg : FetchEnd → Bool
is_of_keg (Refused refusal) = not (is_ctor refusal)
is_of_keg _ = true

-- a refused fetch is counted, and its refusal kept; every other one leaves the ledger as it was
abbrev pub CountsEnd : SeatLedger → SeatLedger → FetchEnd → Type 0
CountsEnd old new (Refused refusal) = CountsTurned old new refusal
CountsEnd old new _ = new ≡ old
