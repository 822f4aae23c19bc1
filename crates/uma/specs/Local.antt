-- Own: what contracts see of a local, and what its calls do.
use Rattle.std.specs.Prelude.{◌≡◌, ◌<◌, ℕ, Bool, true, false, [], length, slice_set}
use Rattle.zone_stats.specs.declared.ledger.SeatLedger.{SeatLedger}
use Rattle.zone_stats.specs.LedgerSteps.{HasRoom, CountsFree, IsNew}
use Rattle.uma_seat.specs.Seat.{ledger_of, spares_of, usable_of, shelf_of, freed_of, HasNoCross}
use Rattle.uma_seat.specs.Stack.{stack_at, with_item, is_filled_by_one}
use Rattle.uma_zone.specs.declared.zone.alloc.AllocRefused.TheVariants as zone
use Rattle.uma_zone.specs.Alloc.{Serves, AllocIsRefused}
use Rattle.uma_zone.specs.Free.{Frees as FreesOfZone}
use Rattle.uma_life.specs.declared.states.Live.{Live}
use Rattle.uma_life.specs.Live.{live_domain}
use Rattle.uma.specs.declared.pool.Pool.{Pool}
use Rattle.uma.specs.declared.local.Local.{Local}
use Rattle.uma.specs.declared.refused.Refused.{Refused}
use Rattle.uma.specs.declared.refused.Refused.TheVariants.{Turned, Counts, Memory}
use Rattle.uma.specs.Pool.{pool_plan}

module _ {T K : Type 0} {g k : _} where
  -- the pool that it is of
  abbrev pub pool_of : Local T K g k → Pool T K g k
  pool_of local = local.pool.now

  -- what it counted
  abbrev pub ledger_in : Local T K g k → SeatLedger
  ledger_in local = ledger_of local.seat

  -- it has an empty bucket for what is freed
  abbrev pub CanHold : Local T K g k → Type 0
  CanHold local = 0 < length (spares_of local.seat)

  -- the items that a request can have here are the same
  abbrev pub KeepsUsable : Local T K g k → Local T K g k → Type 0
  KeepsUsable old new = usable_of new.seat ≡ usable_of old.seat

  -- It is of the same pool, and counted nothing.
  pub record KeepsLocal (old new : Local T K g k) : Type 0 where
    pub pool : pool_of new ≡ pool_of old
    pub ledger : ledger_in new ≡ ledger_in old

  -- An item was allocated, as the pool's zone tells: the one that was freed last here, or else one that its domain listed, or one of a single fetch with that right to what is reserved. Its `ctor` took it with this argument, and one request and one alloc are counted.
  abbrev pub Allocs : ℕ → Bool → Local T K g k → Live T g → Local T K g k → Type 0
  Allocs arg reserve old held new = Serves (pool_of old).zone (record { arg = arg; reserve = reserve }) old.seat held new.seat

  -- Why a request got no item, and what that did, as the pool's zone tells:
  -- 1. What turned it away is counted: its single fetch found the limit, only reserved items, all slabs in use or an `init` that refuses, or `ctor` refused an item, which lies here again.
  -- 2. The counts are full.
  -- 3. Memory is wanting. Then nothing is counted.
  abbrev pub RefusesAlloc : ℕ → Bool → Local T K g k → Local T K g k → Refused → Type 0
  RefusesAlloc arg reserve old new (Turned refusal) = AllocIsRefused (pool_of old).zone (record { arg = arg; reserve = reserve }) old.seat new.seat (zone.Refused refusal)
  RefusesAlloc arg reserve old new Counts = KeepsLocal old new × KeepsUsable old new × (HasRoom (ledger_in old) → ⊥)
  RefusesAlloc arg reserve old new Memory = AllocIsRefused (pool_of old).zone (record { arg = arg; reserve = reserve }) old.seat new.seat zone.Memory
  RefusesAlloc arg reserve old new _ = ⊥

  -- In a pool without readers: the item passed `dtor` and lies here, on top of the bucket of its domain, as the pool's zone tells.
  abbrev pub Puts : Local T K g k → Live T g → Local T K g k → Type 0
  Puts old held new = FreesOfZone (pool_of old).zone old.seat held new.seat

  -- In a pool with readers: the item stays built, and lies on top of the deferred bucket of its domain, where it doesn't fill that.
  abbrev pub Defers : Local T K g k → Live T g → Local T K g k → Type 0
  Defers old held new = is_filled_by_one (stack_at (freed_of old.seat) (live_domain held)) ≡ false
      → freed_of new.seat ≡ slice_set (freed_of old.seat) (live_domain held) (with_item (stack_at (freed_of old.seat) (live_domain held)) held)

  -- The item was freed, and one free is counted. First the local got ready, with a bucket to put it into, by which the items that a request can have stay. In a pool with readers they are still the same after the free.
  pub record Frees (old : Local T K g k) (held : Live T g) (new : Local T K g k) : Type 0 where
    pub ready : Local T K g k
    pub kept : KeepsLocal old ready
    pub usable : KeepsUsable old ready
    pub put : (pool_plan (pool_of ready)).smr ≡ false → Puts ready held new
    pub deferred : (pool_plan (pool_of ready)).smr ≡ true → Defers ready held new
    pub unseen : (pool_plan (pool_of ready)).smr ≡ true → KeepsUsable ready new
    pub crossed : Bool
    pub counted : CountsFree (ledger_in old) (ledger_in new) crossed

  -- Why nothing can be freed here: the counts are full, or there is no bucket for it, and no memory for one.
  abbrev pub IsNotReady : Local T K g k → Refused → Type 0
  IsNotReady local Counts = HasRoom (ledger_in local) → ⊥
  IsNotReady local Memory = CanHold local → ⊥
  IsNotReady local _ = ⊥

  -- nothing is cached here that could be given back
  pub record HasNoItem (local : Local T K g k) : Type 0 where
    pub usable : usable_of local.seat ≡ []
    pub crossed : HasNoCross local.seat
    pub shelf : shelf_of local.seat ≡ []

  -- a local of this pool that has counted nothing
  pub record IsNewLocal (pool : Pool T K g k) (local : Local T K g k) : Type 0 where
    pub of_pool : pool_of local ≡ pool
    pub ledger : IsNew (ledger_in local)
