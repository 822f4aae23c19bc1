-- What a worker's counts of names have to do with the lines so far, of which the last one comes first (own).
use Rattle.std.specs.Prelude.{◌≡◌, ◌≤◌, ◌+◌, ℕ, List, Some, IfSome, IsTrue}
use Rattle.smr_clock.specs.declared.clock.Clock.{Clock}
use Rattle.smr_clock.specs.Belongs.{clock_id}
use Rattle.trace_text.specs.Lines.{Line}
use Rattle.zone_stats.specs.declared.ledger.SeatLedger.{SeatLedger}
use Rattle.zone_stats.specs.declared.refusal.Refusal.{Refusal}
use Rattle.replay_worker.specs.declared.name_calls.NameCalls.{Ghosts as NameGhosts}
use Rattle.replay_worker.specs.declared.name_work.NameCounts.{NameCounts}
use Rattle.replay_worker.specs.declared.name_work.NameWork.{NameWork}
use Rattle.replay_worker.specs.Counting.{looks, binds, unbinds}
use Rattle.replay_worker.specs.NameLedger.{NamesRefuse}

-- Each line of names is counted, and no look is late whose section isn't.
pub record NameCountsStand (n : ℕ) (lines : List Line) (late : ℕ) (counts : NameCounts) : Type 0 where
  pub looks_add_up : counts.hits + counts.misses + counts.late ≡ looks n lines
  pub binds_add_up : counts.binds + counts.refused ≡ binds n lines
  pub unbound : counts.unbound ≤ unbinds n lines
  pub late_few : counts.late ≤ late

-- The ledger of worker `n`'s seat of the names, whose zone has so many slabs at most. So many of its binds were refused.
pub record NameLedgerStands (slabs n : ℕ) (lines : List Line) (refused : ℕ) (ledger : SeatLedger) : Type 0 where
  -- each bind is a request
  pub requests : ledger.requests ≡ binds n lines
  -- a request that failed was turned away, and its bind refused
  pub turned : ledger.fails ≤ ledger.turned
  pub fails : ledger.fails ≤ refused
  -- a line frees one entry at most
  pub frees : ledger.frees ≤ binds n lines + unbinds n lines
  pub kept : (refusal : Refusal) → ledger.last ≡ Some refusal → NamesRefuse slabs refusal

module _ {N H C S P : Type 0} (names : NameGhosts N H C S P) (cache : C) where
  -- where names are served the readers go by this clock
  abbrev pub NamesOfClock : Clock H P → Type 0
  NamesOfClock clock = IsTrue names.serves → clock_id clock ≡ names.clock_of cache

  -- What worker `n` has of the names: the seat is the cache's, and what it counted stands for the lines. So many of its sections were late.
  pub record NamesStand (n : ℕ) (lines : List Line) (late : ℕ) (name_work : NameWork N H C S P) : Type 0 where
    pub seat : names.IsSeat cache name_work.seat
    pub counts : NameCountsStand n lines late name_work.counts
    pub ledger : IfSome (names.counted name_work.seat) (NameLedgerStands (names.sizes_of cache).slabs n lines name_work.counts.refused)
