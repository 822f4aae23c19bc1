-- Own: what the one fetch of a request does to its seat.
use Rattle.std.specs.Prelude.{◌≡◌, ◌≤◌, ◌⊎◌, Bool, [], ◌∷◌, ◌++◌, length}
use Rattle.deed_book.specs.FailViews.{cause}
use Rattle.zone_stats.specs.declared.refusal.Refusal.{Refusal}
use Rattle.zone_stats.specs.LedgerSteps.{CountsTurned}
use Rattle.uma_seat.specs.declared.seat.SeatCache.{SeatCache}
use Rattle.uma_seat.specs.Fetches.{refusal_cause}
use Rattle.uma_seat.specs.Seat.{top_of, ledger_of, fetches_of}
use Rattle.uma_zone.specs.declared.zone.alloc.AllocRefused.{AllocRefused}
use Rattle.uma_zone.specs.declared.zone.alloc.AllocRefused.TheVariants.{Refused, Memory}
use Rattle.uma_zone.specs.declared.zone.Zone.{Zone}
use Rattle.uma_zone.specs.Alloc.{Names, IsOneFetch, IsOneRefusal}

module _ {T H P : Type 0} {g h : _} where
  -- Memory was wanting. No item came, and nothing is counted; the fetch is listed where it was made.
  pub record FetchWantsMemory (old new : SeatCache T H P g h) : Type 0 where
    pub none : (top_of new).items ≡ []
    pub fetches : (fetches_of new ≡ fetches_of old) ⊎ (fetches_of new ≡ fetches_of old ++ cause 7 0 0 ∷ [])
    pub ledger : ledger_of new ≡ ledger_of old

module _ {T K H P : Type 0} {g k h : _} where
  -- So many items came by the fetch, and lie in the allocation bucket. The fetch is listed, and nothing is counted yet.
  pub record HasFetched (zone : Zone T K H P g k h) (reserve : Bool) (old new : SeatCache T H P g h) : Type 0 where
    pub some : 1 ≤ length (top_of new).items
    pub one : IsOneFetch zone reserve (top_of new).items new
    pub fetches : fetches_of new ≡ fetches_of old ++ cause 6 (length (top_of new).items) 0 ∷ []
    pub ledger : ledger_of new ≡ ledger_of old

  -- The fetch was refused so. No item came; the fetch is listed, and its refusal counted and kept.
  pub record FetchTurnsAway (zone : Zone T K H P g k h) (reserve : Bool) (refusal : Refusal) (old new : SeatCache T H P g h) : Type 0 where
    pub none : (top_of new).items ≡ []
    pub fetches : fetches_of new ≡ fetches_of old ++ refusal_cause refusal ∷ []
    pub counted : CountsTurned (ledger_of old) (ledger_of new) refusal
    pub one : IsOneRefusal zone reserve refusal new
    pub names : Names zone reserve refusal

  -- why no item came
  abbrev pub FetchRefuses : Zone T K H P g k h → Bool → SeatCache T H P g h → SeatCache T H P g h → AllocRefused → Type 0
  FetchRefuses zone reserve old new (Refused refusal) = FetchTurnsAway zone reserve refusal old new
  FetchRefuses zone reserve old new Memory = FetchWantsMemory old new
