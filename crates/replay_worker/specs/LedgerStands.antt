-- What a worker's ledger of one zone has to do with the lines so far, of which the last one comes first (own).
use Rattle.std.specs.Prelude.{◌≡◌, ◌≤◌, ◌<◌, ◌+◌, ℕ, List, Some}
use Rattle.trace_text.specs.Lines.{Line}
use Rattle.zone_stats.specs.declared.ledger.SeatLedger.{SeatLedger}
use Rattle.zone_stats.specs.declared.refusal.Refusal.{Refusal}
use Rattle.zone_stats.specs.declared.refusal.Refusal.TheVariants.{Ctor}
use Rattle.replay_worker.specs.Counting.{asked, argued, asked_with, freed}

-- one of the worker's requests of the zone has this argument
abbrev pub HasAsked : ℕ → ℕ → ℕ → List Line → Type 0
HasAsked n z code lines = 0 < asked_with n z code lines

-- What a ledger keeps: `ctor`'s refusal has an argument above 0 of one of the worker's requests; another one names what its zone has.
abbrev pub KeptFits : (Refusal → Type 0) → ℕ → ℕ → List Line → Refusal → Type 0
KeptFits Names n z lines (Ctor code) = (0 < code) × HasAsked n z code lines
KeptFits Names n z lines refusal = Names refusal

-- The ledger of worker `n`'s seat of the zone at place `z`. What a refusal names of the zone is given.
pub record LedgerStands (Names : Refusal → Type 0) (n z : ℕ) (lines : List Line) (ledger : SeatLedger) : Type 0 where
  -- each request of the lines ended
  pub requests : ledger.requests ≡ asked n z lines
  -- only a request with an argument is refused by `ctor`, and each such request failed
  pub some_args : ledger.fails ≤ ledger.turned + argued n z lines
  pub all_args : argued n z lines ≤ ledger.fails
  -- each free is one of a line that frees a slot with an item of the zone
  pub frees : ledger.frees ≤ freed n z lines
  pub kept : (refusal : Refusal) → ledger.last ≡ Some refusal → KeptFits Names n z lines refusal
