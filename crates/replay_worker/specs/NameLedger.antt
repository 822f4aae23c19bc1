-- What a bind or an unbind counts in the seat of the names' zone (own).
use Rattle.std.specs.Prelude.{◌≡◌, ◌⊎◌, ◌+◌, ◌≤◌, ◌<◌, ◌^◌, ℕ, Bool, true, false}
use Rattle.zone_stats.specs.declared.ledger.SeatLedger.{SeatLedger}
use Rattle.zone_stats.specs.declared.refusal.Refusal.{Refusal}
use Rattle.zone_stats.specs.declared.refusal.Refusal.TheVariants.{AtLimit, Full, Init}
use Rattle.zone_stats.specs.LedgerSteps.{HasRoom, CountsAlloc, CountsTurned, CountsFree}

-- a bind counts a request and a free
pub record HasRoomToBind (ledger : SeatLedger) : Type 0 where
  pub now : HasRoom ledger
  pub later : ledger.requests + 1 < 2 ^ 63

-- What the zone of names refuses, which has so many slabs at most and no reserve: it has all its slabs, or its hooks refused an entry without words, or its fetch found a limit, and as many entries outside or more. It is made without a limit; that none was set no clause says.
abbrev pub NamesRefuse : ℕ → Refusal → Type 0
NamesRefuse slabs (AtLimit out limit) = (limit ≤ out) × (0 < limit)
NamesRefuse slabs (Full most made) = most ≡ slabs
NamesRefuse slabs (Init code) = code ≡ 255
NamesRefuse slabs refusal = ⊥

-- one free more
abbrev pub CountsOneFree : SeatLedger → SeatLedger → Type 0
CountsOneFree old new = (crossed : Bool) × CountsFree old new crossed

-- nothing more, or one free
abbrev pub MayCountFree : SeatLedger → SeatLedger → Type 0
MayCountFree old new = (new ≡ old) ⊎ CountsOneFree old new

-- A bind got an entry, and freed the one that the row had, if there was one.
pub record CountsBind (old new : SeatLedger) : Type 0 where
  pub between : SeatLedger
  pub alloc : CountsAlloc old between
  pub evicts : MayCountFree between new

-- A bind got an entry that the row didn't take, for such a cause, and freed it again.
pub record CountsGivenBack (Cause : Type 0) (old new : SeatLedger) : Type 0 where
  pub cause : Cause
  pub between : SeatLedger
  pub alloc : CountsAlloc old between
  pub back : CountsOneFree between new

-- A bind got no entry: its zone refused one, which is the refusal that its one fetch found.
pub record CountsRefused (slabs : ℕ) (IsFound : Refusal → Type 0) (old new : SeatLedger) : Type 0 where
  pub refusal : Refusal
  pub turned : CountsTurned old new refusal
  pub fits : NamesRefuse slabs refusal
  pub found : IsFound refusal

-- what a bind counts, by whether it bound
abbrev pub BindCounts : ℕ → (Refusal → Type 0) → Type 0 → Bool → SeatLedger → SeatLedger → Type 0
BindCounts slabs IsFound Cause true old new = CountsBind old new
BindCounts slabs IsFound Cause false old new = CountsRefused slabs IsFound old new ⊎ CountsGivenBack Cause old new

-- what an unbind counts, by whether it took the key out
abbrev pub UnbindCounts : Bool → SeatLedger → SeatLedger → Type 0
UnbindCounts true old new = CountsOneFree old new
UnbindCounts false old new = new ≡ old
