-- How the calls behind the lines of names answer (own).
use Rattle.std.specs.Prelude.{◌≡◌, ◌⊎◌, ℕ, Bool, true, false, List, [], ◌++◌, Option, Some, None}
use Rattle.uma_life.specs.declared.states.Ticket.{Ticket}
use Rattle.zone_stats.specs.declared.ledger.SeatLedger.{SeatLedger}
use Rattle.zone_stats.specs.declared.refusal.Refusal.{Refusal}
use Rattle.replay_worker.specs.Knowing.{Knowledge, Binds, Unbinds, FindsUnbound}
use Rattle.replay_worker.specs.NameLedger.{BindCounts, UnbindCounts}

-- what a bind leaves known: where it bound, the new record
abbrev pub Bound : {V : Type 0} → Knowledge V → ℕ → ℕ → ℕ → V → Bool → V → Type 0
Bound Knows rows key value v true v' = Binds Knows rows key value v v'
Bound Knows rows key value v false v' = Unit {0}

-- what an unbind leaves known
abbrev pub Unbound : {V : Type 0} → Knowledge V → ℕ → ℕ → V → Bool → V → Type 0
Unbound Knows rows key v true v' = Unbinds Knows rows key v v'
Unbound Knows rows key v false v' = FindsUnbound Knows rows key v v'

-- Both ledgers are there, and what one counts more is this; or there is none.
abbrev pub OnBoth : (SeatLedger → SeatLedger → Type 0) → Option SeatLedger → Option SeatLedger → Type 0
OnBoth Counts (Some old) (Some new) = Counts old new
OnBoth Counts None None = Unit {0}
OnBoth Counts old new = ⊥

-- what a bind counts
abbrev pub CountedBind : ℕ → (Refusal → Type 0) → Type 0 → Bool → Option SeatLedger → Option SeatLedger → Type 0
CountedBind slabs IsFound Cause done old new = OnBoth (BindCounts slabs IsFound Cause done) old new

-- what an unbind counts
abbrev pub CountedUnbind : Bool → Option SeatLedger → Option SeatLedger → Type 0
CountedUnbind done old new = OnBoth (UnbindCounts done) old new

-- What a bind does to the usable entries of its seat: what was usable and what it brought is what is usable now and what it handed out. What it brought is nothing, or came as `Came` says.
pub record MovesEntries (Came : List Ticket → Type 0) (old new : List Ticket) : Type 0 where
  pub brought : List Ticket
  pub handed : List Ticket
  pub balance : new ++ handed ≡ old ++ brought
  pub come : (brought ≡ []) ⊎ Came brought
