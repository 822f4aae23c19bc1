-- Own: how the end of a keg's fetch is listed.
use Rattle.std.specs.Prelude.{ℕ, Result, Ok, Err}
use Rattle.deed_book.specs.declared.deed.Cause.{Cause}
use Rattle.uma_keg.specs.declared.fetch.FetchRefused.{FetchRefused}
use Rattle.uma_keg.specs.declared.fetch.FetchRefused.TheVariants.{Refused, Memory}
use Rattle.uma_seat.specs.declared.counts.FetchEnd.{FetchEnd}
use Rattle.uma_seat.specs.declared.counts.FetchEnd.TheVariants.{Gave, Memory as NoMemory, Refused as TurnedAway}
use Rattle.uma_seat.specs.Fetches.{end_cause}

-- the answer of a fetch, as a seat counts it
abbrev pub end_of : Result ℕ FetchRefused → FetchEnd
end_of (Ok count) = Gave count
end_of (Err (Refused refusal)) = TurnedAway refusal
end_of (Err Memory) = NoMemory

-- the cause by which the fetch is listed, whatever its end
abbrev pub fetch_cause : Result ℕ FetchRefused → Cause
fetch_cause end = end_cause (end_of end)
