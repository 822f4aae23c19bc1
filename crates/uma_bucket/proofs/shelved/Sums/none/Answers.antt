use Rattle.uma_bucket.proofs.Added.{is_nothing}
use Rattle.uma_bucket.proofs.shelved.Sums.none.Goals as goal

pub returns : goal.returns
returns c = is_nothing _ (λ i. record { tally = c.none.ensures i; deferred = 0 })
