-- The first ledgers were tested.
use Rattle.std.proofs.Common.{◌≡◌, ◌<◌, ℕ, Some}
use Rattle.std.specs.List.{slice_get}
use Rattle.zone_stats.specs.declared.ledger.SeatLedger.{SeatLedger}
use Rattle.uma_replay.specs.Limits.{KeepsOneOf}
use Rattle.uma_replay.proofs.limits.check_ledgers.Given as goal

abbrev pub invariant-loop-number : goal.invariant-loop-number
invariant-loop-number l = (n : ℕ) (ledger : SeatLedger) → n < l.number → slice_get l.ledgers n ≡ Some ledger → KeepsOneOf l.limits ledger
