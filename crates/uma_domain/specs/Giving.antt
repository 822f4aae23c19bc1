-- Own: what the calls by which a domain gives buckets back take, and what they leave.
use Rattle.std.specs.Prelude.{◌≡◌, [], Result, IfOk, OnErr}
use Rattle.std.specs.List.{All}
use Rattle.uma_domain.specs.declared.lists.Lists.{Lists}
use Rattle.uma_domain.specs.declared.trims.Taken.{Taken}
use Rattle.uma_domain.specs.Listed.{listed}
use Rattle.uma_domain.specs.Lists.{lists_identity, plain_in, loose_in, sealed_in, working_in, missed_in}
use Rattle.uma_domain.specs.Taken.{taken_in, IsTakenOf}
use Rattle.uma_domain.specs.Trim.{Trims, TakesAll}
use Rattle.uma_domain.specs.Working.{after, begun, working_set}

module _ {T H P : Type 0} {g h : _} where
  -- what the domain didn't use since the last trim is taken, and a new interval begins
  pub record TrimsUnused (old : Lists T H P g h) (taken : Taken T H P g h) (new : Lists T H P g h) : Type 0 where
    pub trims : Trims (working_set (working_in old)) (working_in old).count (plain_in old) (sealed_in old) (taken_in taken) (plain_in new) (sealed_in new)
    pub begins : working_in new ≡ begun (listed (plain_in new) (loose_in new) (sealed_in new))

  -- every candidate is taken, and the interval goes on
  pub record TakesCandidates (old : Lists T H P g h) (taken : Taken T H P g h) (new : Lists T H P g h) : Type 0 where
    pub takes : TakesAll (plain_in old) (sealed_in old) (taken_in taken) (sealed_in new)
    pub none_left : plain_in new ≡ []
    pub goes_on : working_in new ≡ after (working_in old) (listed (plain_in new) (loose_in new) (sealed_in new))

  -- What is taken is of the domain. Where memory is wanting nothing changes, and loose buckets and misses never do.
  pub record GivesOwn {E : Type 0} (old : Lists T H P g h) (result : Result (Taken T H P g h) E) (new : Lists T H P g h) : Type 0 where
    pub of_domain : IfOk result (λ taken. All (IsTakenOf (lists_identity old)) (taken_in taken))
    pub unchanged : OnErr result ((plain_in new ≡ plain_in old) × (sealed_in new ≡ sealed_in old) × (working_in new ≡ working_in old))
    pub loose : loose_in new ≡ loose_in old
    pub missed : missed_in new ≡ missed_in old
    pub identity : lists_identity new ≡ lists_identity old
