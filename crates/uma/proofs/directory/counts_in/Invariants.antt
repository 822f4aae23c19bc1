use Rattle.std.proofs.Common.{◌≡◌, map, take}
use Rattle.uma.proofs.directory.counts_in.Given as goal

abbrev pub invariant-loop-ledger : goal.invariant-loop-ledger
invariant-loop-ledger l = l.counts.items ≡ map (λ ledger. ledger.counts) (take l.ledger-index l.ledgers)
