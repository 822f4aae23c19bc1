-- Own: what a call of a cache does to its seat before it looks at a row.
use Rattle.std.specs.Prelude.{◌≡◌, [], length, false}
use Rattle.zone_stats.specs.LedgerSteps.{CountsAlloc}
use Rattle.zone_stats.specs.declared.refusal.Refusal.{Refusal}
use Rattle.uma_seat.specs.Seat.{shelf_of, spares_of, ledger_of, IsSameSeat, KeepsTop, KeepsPlain, KeepsFreed, KeepsCounts, KeepsMisses}
use Rattle.uma_zone.specs.declared.zone.alloc.AllocAsk.{AllocAsk}
use Rattle.uma_zone.specs.Alloc.{Serves, TurnsAway}
use Rattle.name_cache.specs.Types.{ZoneOfEntries, EntrySeat, LiveEntry}

-- What a bind asks of the zone: `ctor` of an entry doesn't look at its argument, and a bind has no right to the reserve.
abbrev pub entry_ask : AllocAsk
entry_ask = record { arg = 0; reserve = false }

-- The seat has room: its shelf is flushed, and it has two spares. It is made for the same, and its usable and its deferred items, its ledger, its fetches and its misses are as they were.
pub record MakesRoom (old new : EntrySeat) : Type 0 where
  pub shelf : shelf_of new ≡ []
  pub spares : length (spares_of new) ≡ 2
  pub same : IsSameSeat old new
  pub top : KeepsTop old new
  pub plain : KeepsPlain old new
  pub freed : KeepsFreed old new
  pub counts : KeepsCounts old new
  pub misses : KeepsMisses old new

-- Room was made, and then the zone turned the request for an entry away. The deferred items are as they were.
pub record TurnsEntryAway (zone : ZoneOfEntries) (refusal : Refusal) (old new : EntrySeat) : Type 0 where
  pub turned : TurnsAway zone false refusal old new
  pub freed : KeepsFreed old new
  pub shelf : shelf_of new ≡ []

-- Room was made, and then the zone handed out an entry for a request, which is counted. The deferred items are as they were.
pub record Allocates (zone : ZoneOfEntries) (old : EntrySeat) (handed : LiveEntry) (new : EntrySeat) : Type 0 where
  pub room : EntrySeat
  pub made : MakesRoom old room
  pub served : Serves zone entry_ask room handed new
  pub counted : CountsAlloc (ledger_of old) (ledger_of new)
  pub freed : KeepsFreed old new
  pub shelf : shelf_of new ≡ []
