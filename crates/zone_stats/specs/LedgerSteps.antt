-- What a count does to a seat's ledger (own).
use Rattle.std.specs.Prelude.{◌≡◌, ℕ, ◌+◌, ◌<◌, ◌^◌, Bool, Some, None, if◌then◌else◌}
use Rattle.zone_stats.specs.declared.refusal.Refusal.{Refusal}
use Rattle.zone_stats.specs.declared.refusal.Refusal.TheVariants.{Ctor}
use Rattle.zone_stats.specs.declared.ledger.SeatLedger.{SeatLedger}

-- requests and frees are far below what a `u64` holds, so one more of each can be counted
pub record HasRoom (ledger : SeatLedger) : Type 0 where
  pub requests : ledger.requests < 2 ^ 63
  pub frees : ledger.frees < 2 ^ 63

-- nothing was counted yet
pub record IsNew (ledger : SeatLedger) : Type 0 where
  pub requests : ledger.requests ≡ 0
  pub allocs : ledger.allocs ≡ 0
  pub fails : ledger.fails ≡ 0
  pub turned : ledger.turned ≡ 0
  pub frees : ledger.frees ≡ 0
  pub cross : ledger.cross ≡ 0
  pub last : ledger.last ≡ None

-- one request more, which got an item
pub record CountsAlloc (old new : SeatLedger) : Type 0 where
  pub requests : new.requests ≡ old.requests + 1
  pub allocs : new.allocs ≡ old.allocs + 1
  pub fails : new.fails ≡ old.fails
  pub turned : new.turned ≡ old.turned
  pub frees : new.frees ≡ old.frees
  pub cross : new.cross ≡ old.cross
  pub last : new.last ≡ old.last

-- one request more, which was turned away by this refusal
pub record CountsTurned (old new : SeatLedger) (refusal : Refusal) : Type 0 where
  pub requests : new.requests ≡ old.requests + 1
  pub allocs : new.allocs ≡ old.allocs
  pub fails : new.fails ≡ old.fails + 1
  pub turned : new.turned ≡ old.turned + 1
  pub frees : new.frees ≡ old.frees
  pub cross : new.cross ≡ old.cross
  pub last : new.last ≡ Some refusal

-- one request more, whose item the zone's `ctor` refused with this code
pub record CountsCtor (old new : SeatLedger) (code : ℕ) : Type 0 where
  pub requests : new.requests ≡ old.requests + 1
  pub allocs : new.allocs ≡ old.allocs
  pub fails : new.fails ≡ old.fails + 1
  pub turned : new.turned ≡ old.turned
  pub frees : new.frees ≡ old.frees
  pub cross : new.cross ≡ old.cross
  pub last : new.last ≡ Some (Ctor code)

-- one item more was freed, of another domain or of the seat's own
pub record CountsFree (old new : SeatLedger) (crossed : Bool) : Type 0 where
  pub requests : new.requests ≡ old.requests
  pub allocs : new.allocs ≡ old.allocs
  pub fails : new.fails ≡ old.fails
  pub turned : new.turned ≡ old.turned
  pub frees : new.frees ≡ old.frees + 1
  pub cross : new.cross ≡ old.cross + (if crossed then 1 else 0)
  pub last : new.last ≡ old.last
