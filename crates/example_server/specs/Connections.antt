-- Own: what becomes of a worker's connections.
use Rattle.std.specs.Prelude.{◌≡◌, ◌+◌, ℕ, List, [], ◌∷◌, ◌++◌, Bool, false, take, drop}
use Rattle.uma.specs.LedgerSteps.{HasRoom, CountsAlloc, CountsFree}
use Rattle.uma.specs.Local.{CanHold, ledger_in, pool_of}
use Rattle.uma.specs.Data.{number_of}
use Rattle.uma.specs.Refusing.{TellsRefusal}
use Rattle.uma.specs.SeatLedger.{SeatLedger}
use Rattle.uma.specs.declared.refused.Refused.{Refused}
use Rattle.example_server.specs.declared.connections.Connections.{Connections}
use Rattle.example_server.specs.declared.connections.Held.{Held}

-- the connections that are held, the last opened at the end
abbrev pub held_in : Connections → List Held
held_in connections = connections.held.items

-- what the worker's local of the pool counted
abbrev pub counts_in : Connections → SeatLedger
counts_in connections = ledger_in connections.local

-- they are of the same pool
abbrev pub KeepsPlace : Connections → Connections → Type 0
KeepsPlace old new = pool_of new.local ≡ pool_of old.local

-- one more can be closed
abbrev pub IsReady : Connections → Type 0
IsReady connections = HasRoom (counts_in connections) × CanHold connections.local

-- Nothing was counted, and the same connections of the same pool are held.
pub record KeepsPool (old new : Connections) : Type 0 where
  pub pool : KeepsPlace old new
  pub ledger : counts_in new ≡ counts_in old
  pub held : held_in new ≡ held_in old

-- The pool opened a connection and counted it; it is held now, behind those that were.
pub record Opens (session peer number : ℕ) (old new : Connections) : Type 0 where
  pub held : Held
  pub of_session : held.session ≡ session
  pub to_peer : held.peer ≡ peer
  pub numbered : number_of held.item ≡ number
  pub all : held_in new ≡ held_in old ++ held ∷ []
  pub counted : CountsAlloc (counts_in old) (counts_in new)

-- Why no connection to this peer was opened, as the pool tells; the same connections are held.
abbrev pub RefusesOpen : ℕ → Connections → Connections → Refused → Type 0
RefusesOpen peer old new why = TellsRefusal peer false old.local new.local why × (held_in new ≡ held_in old)

-- The connection at this place is closed: it is counted as freed, and all others are held as before.
pub record Closes (place : ℕ) (old new : Connections) : Type 0 where
  pub left : held_in new ≡ take place (held_in old) ++ drop (place + 1) (held_in old)
  pub crossed : Bool
  pub counted : CountsFree (counts_in old) (counts_in new) crossed
