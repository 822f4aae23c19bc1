-- Own: what a refused request comes to, in a pool's own words.
use Rattle.std.specs.Prelude.{◌≡◌, ◌+◌, ℕ, Bool, Some}
use Rattle.zone_stats.specs.declared.ledger.SeatLedger.{SeatLedger}
use Rattle.zone_stats.specs.declared.refusal.Refusal.{Refusal}
use Rattle.zone_stats.specs.declared.refusal.Refusal.TheVariants.{Ctor}
use Rattle.zone_stats.specs.LedgerSteps.{HasRoom}
use Rattle.uma_zone.specs.Alloc.{Names}
use Rattle.uma_zone.specs.Zone.{zone_hooks, zone_index}
use Rattle.uma_zone.specs.declared.zone.Zone.{Zone}
use Rattle.uma.specs.declared.local.Local.{Local}
use Rattle.uma.specs.declared.pool.Pool.{Pool}
use Rattle.uma.specs.declared.refused.Refused.{Refused}
use Rattle.uma.specs.declared.refused.Refused.TheVariants.{Turned, Counts, Memory}
use Rattle.uma.specs.Local.{ledger_in, pool_of}

-- One request more failed, with this refusal. As many items are allocated and not freed as before.
pub record CountsFail (old new : SeatLedger) (refusal : Refusal) : Type 0 where
  pub requests : new.requests ≡ old.requests + 1
  pub allocs : new.allocs ≡ old.allocs
  pub fails : new.fails ≡ old.fails + 1
  pub frees : new.frees ≡ old.frees
  pub last : new.last ≡ Some refusal

-- Why a zone turns a request away: its `ctor` refuses some item for this argument with that code, or what is named was found: the limit, only reserved items for a request without the right to these, all slabs in use, or an `init` that refuses.
module _ {T K H P : Type 0} {g k h : _} where
  abbrev pub IsCause : Zone T K H P g k h → ℕ → Bool → Refusal → Type 0
  IsCause zone arg reserve (Ctor code) = (body : T) × (k.refuses_ctor (zone_hooks zone) body (zone_index zone) arg ≡ Some code)
  IsCause zone arg reserve refusal = Names zone reserve refusal

module _ {T K : Type 0} {g k : _} where
  -- why a pool turns a request away
  abbrev pub TurnsAway : Pool T K g k → ℕ → Bool → Refusal → Type 0
  TurnsAway pool arg reserve refusal = IsCause pool.zone arg reserve refusal

  -- as many items are allocated and not freed
  abbrev pub KeepsOut : Local T K g k → Local T K g k → Type 0
  KeepsOut old new = ((ledger_in new).allocs ≡ (ledger_in old).allocs) × ((ledger_in new).frees ≡ (ledger_in old).frees)

  -- What was turned away is counted, and has its cause. Where the counts are full, or memory is wanting, nothing is counted.
  abbrev pub TellsRefusal : ℕ → Bool → Local T K g k → Local T K g k → Refused → Type 0
  TellsRefusal arg reserve old new (Turned refusal) = CountsFail (ledger_in old) (ledger_in new) refusal × TurnsAway (pool_of old) arg reserve refusal
  TellsRefusal arg reserve old new Counts = (ledger_in new ≡ ledger_in old) × (HasRoom (ledger_in old) → ⊥)
  TellsRefusal arg reserve old new Memory = ledger_in new ≡ ledger_in old
  TellsRefusal arg reserve old new _ = ⊥
