-- Own: what a local knows of its directory, and how its calls end. A record of a row is what its word says from one store to the next, so whatever a known record binds was bound by some worker.
use Rattle.std.specs.Prelude.{◌≡◌, ℕ, List, Option, Some}
use Rattle.smr_clock.specs.declared.polls.Overtaken.{Overtaken}
use Rattle.smr_clock.specs.Belongs.{view}
use Rattle.smr_clock.specs.Sections.{Misses}
use Rattle.zone_stats.specs.declared.ledger.SeatLedger.{SeatLedger}
use Rattle.zone_stats.specs.LedgerSteps.{HasRoom}
use Rattle.uma_seat.specs.Seat.{ledger_of}
use Rattle.name_rows.specs.declared.names.Bound.{Bound}
use Rattle.name_rows.specs.declared.names.Record.{Record}
use Rattle.name_rows.specs.Records.{In}
use Rattle.name_cache.specs.declared.binding.BindRefused.{BindRefused}
use Rattle.name_cache.specs.declared.binding.BindRefused.TheVariants as cache
use Rattle.name_cache.specs.declared.binding.Receipt.{Receipt}
use Rattle.name_cache.specs.Bind.{Binds, HasRoomToBind, RefusesToBind, WantsMemory}
use Rattle.name_cache.specs.Cache.{cache_zone, row_count}
use Rattle.name_cache.specs.Known.{IsAbove, known_in}
use Rattle.name_cache.specs.Look.{Looks}
use Rattle.name_cache.specs.Unbind.{FindsUnbound, Unbinds}
use Rattle.uma.specs.declared.directory.Directory.{Directory}
use Rattle.uma.specs.declared.directory.DirectoryLocal.{DirectoryLocal}
use Rattle.uma.specs.declared.plan.NamePlan.{NamePlan}
use Rattle.uma.specs.declared.refused.Refused.{Refused}
use Rattle.uma.specs.declared.refused.Refused.TheVariants.{Taken, Turned, Unripe, Worn, Late, Counts, Memory}
use Rattle.name_rows.specs.contracts.names.NamesHost.TheImpl.{ghosts as names}
use Rattle.uma.specs.NoPass.{HasNoPass}

-- what it was made with
abbrev pub directory_plan : Directory → NamePlan
directory_plan directory = directory.plan

-- the directory that a local is of
abbrev pub directory_of : DirectoryLocal → Directory
directory_of local = local.directory.now

-- what a local counted
abbrev pub counted_by : DirectoryLocal → SeatLedger
counted_by local = ledger_of local.seat

-- Why a directory gives no local: each of its workers has one, or memory is wanting, and then its pass is there for another.
abbrev pub RefusesWay : Directory → Refused → Type 0
RefusesWay directory (Taken workers) = (workers ≡ directory.plan.workers) × HasNoPass names directory.clock
RefusesWay directory Memory = Unit {0}
RefusesWay directory _ = ⊥

-- ---- what it knows

-- the records that it knows
abbrev pub known_to : DirectoryLocal → List Record
known_to local = known_in (view local.pass)

-- what it knew it still knows
abbrev pub StillKnows : DirectoryLocal → DirectoryLocal → Type 0
StillKnows old new = (r : Record) → In r (known_to old) → In r (known_to new)

-- A known record bound the name to the value.
pub record WasBound (name value : ℕ) (known : List Record) : Type 0 where
  pub at : Record
  pub knows : In at known
  pub bound : Bound
  pub content : at.content ≡ Some bound
  pub named : bound.key ≡ name
  pub valued : bound.value ≡ value

-- nothing was looked at, counted or changed
pub record KeepsAll (old new : DirectoryLocal) : Type 0 where
  pub pass : new.pass ≡ old.pass
  pub seat : new.seat ≡ old.seat

-- ---- how its calls end

-- The name is bound as the cache of names says, by the record that the receipt names; each record that was known of its row is older.
abbrev pub BindsName : ℕ → ℕ → DirectoryLocal → DirectoryLocal → Type 0
BindsName name value old new =
    (receipt : Receipt)
    × Binds (cache_zone (directory_of old).cache) (row_count (directory_of old).cache) name value (view old.pass) old.seat receipt (view new.pass) new.seat
    × IsAbove receipt.row receipt.version (view old.pass)

-- the cache of names tells why the name isn't bound
abbrev pub IsNotBound : ℕ → DirectoryLocal → DirectoryLocal → BindRefused → Type 0
IsNotBound name old new refused = RefusesToBind (cache_zone (directory_of old).cache) (row_count (directory_of old).cache) name (view old.pass) old.seat (view new.pass) new.seat refused

-- Why the name isn't bound: a request and a free more can't be counted, or else as the cache of names says.
abbrev pub RefusesBind : ℕ → DirectoryLocal → DirectoryLocal → Refused → Type 0
RefusesBind name old new Counts = (HasRoomToBind (counted_by old) → ⊥) × KeepsAll old new
RefusesBind name old new (Turned refusal) = IsNotBound name old new (cache.Zone refusal)
RefusesBind name old new (Unripe read stamp) = IsNotBound name old new (cache.Unripe read stamp)
RefusesBind name old new (Worn row version) = IsNotBound name old new (cache.Worn row version)
RefusesBind name old new Memory = IsNotBound name old new cache.Memory
RefusesBind name old new _ = ⊥

-- The name was bound to the value, and is taken out as the cache of names says, by the record that the receipt names; each record that was known of its row is older.
abbrev pub TakesOut : ℕ → ℕ → DirectoryLocal → DirectoryLocal → Type 0
TakesOut name value old new =
    (receipt : Receipt) × Unbinds (row_count (directory_of old).cache) name value (view old.pass) old.seat receipt (view new.pass) new.seat × IsAbove receipt.row receipt.version (view old.pass)

-- The row doesn't bind the name.
abbrev pub FindsNone : ℕ → DirectoryLocal → DirectoryLocal → Type 0
FindsNone name old new = FindsUnbound (row_count (directory_of old).cache) name (view old.pass) old.seat (view new.pass) new.seat

-- Why nothing was taken out: a free more can't be counted, or memory was wanting.
abbrev pub RefusesUnbind : DirectoryLocal → DirectoryLocal → Refused → Type 0
RefusesUnbind old new Counts = (HasRoom (counted_by old) → ⊥) × KeepsAll old new
RefusesUnbind old new Memory = WantsMemory old.seat new.seat
RefusesUnbind old new _ = ⊥

-- The name was looked up in a section.
abbrev pub LooksUp : ℕ → Option ℕ → DirectoryLocal → DirectoryLocal → Type 0
LooksUp name found old new = Looks name (view old.pass) found (view new.pass) × (new.seat ≡ old.seat)

-- The clock went on by its window while the section was entered: nothing was looked up.
abbrev pub IsLate : DirectoryLocal → DirectoryLocal → Refused → Type 0
IsLate old new Late = ((late : Overtaken) × Misses (view old.pass) late (view new.pass)) × (new.seat ≡ old.seat)
IsLate old new _ = ⊥
