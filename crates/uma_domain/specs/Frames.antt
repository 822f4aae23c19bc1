-- Own: what the calls on a domain's lists leave of them, and of a pass, as it was.
use Rattle.std.specs.Prelude.{◌≡◌, ◌≤◌}
use Rattle.smr_clock.specs.declared.clock.Clock.{Clock}
use Rattle.smr_clock.specs.declared.pass.Pass.{Pass}
use Rattle.smr_clock.specs.Belongs.{IsPassOf, view, holder}
use Rattle.uma_domain.specs.declared.lists.Lists.{Lists}
use Rattle.uma_domain.specs.Lists.{lists_identity, plain_in, loose_in, sealed_in, working_in, missed_in}

module _ {T H P : Type 0} {g h : _} where
  -- each list and its counts are as they were
  pub record KeepsListed (old new : Lists T H P g h) : Type 0 where
    pub plain : plain_in new ≡ plain_in old
    pub loose : loose_in new ≡ loose_in old
    pub sealed : sealed_in new ≡ sealed_in old
    pub working : working_in new ≡ working_in old
    pub identity : lists_identity new ≡ lists_identity old

  -- and so are the misses
  pub record KeepsAll (old new : Lists T H P g h) : Type 0 where
    pub kept : KeepsListed old new
    pub missed : missed_in new ≡ missed_in old

  -- all but the plain list and the counts
  pub record KeepsButPlain (old new : Lists T H P g h) : Type 0 where
    pub loose : loose_in new ≡ loose_in old
    pub sealed : sealed_in new ≡ sealed_in old
    pub missed : missed_in new ≡ missed_in old
    pub identity : lists_identity new ≡ lists_identity old

  -- all but the loose list and the counts
  pub record KeepsButLoose (old new : Lists T H P g h) : Type 0 where
    pub plain : plain_in new ≡ plain_in old
    pub sealed : sealed_in new ≡ sealed_in old
    pub missed : missed_in new ≡ missed_in old
    pub identity : lists_identity new ≡ lists_identity old

  -- all but the sealed list and the counts
  pub record KeepsButSealed (old new : Lists T H P g h) : Type 0 where
    pub plain : plain_in new ≡ plain_in old
    pub loose : loose_in new ≡ loose_in old
    pub missed : missed_in new ≡ missed_in old
    pub identity : lists_identity new ≡ lists_identity old

  -- all but the sealed list, whose buckets were polled, and the misses
  pub record KeepsButPolled (old new : Lists T H P g h) : Type 0 where
    pub plain : plain_in new ≡ plain_in old
    pub loose : loose_in new ≡ loose_in old
    pub working : working_in new ≡ working_in old
    pub identity : lists_identity new ≡ lists_identity old

  -- all but the loose and the sealed list
  pub record KeepsButSealing (old new : Lists T H P g h) : Type 0 where
    pub plain : plain_in new ≡ plain_in old
    pub working : working_in new ≡ working_in old
    pub missed : missed_in new ≡ missed_in old
    pub identity : lists_identity new ≡ lists_identity old

  -- all but what a take of candidates may change: the plain and the sealed list, and the counts
  pub record KeepsButCandidates (old new : Lists T H P g h) : Type 0 where
    pub loose : loose_in new ≡ loose_in old
    pub missed : missed_in new ≡ missed_in old
    pub identity : lists_identity new ≡ lists_identity old

module _ {H P : Type 0} {h : _} where
  -- the pass is of this clock, in the phase that it was in, and has seen what it had; what its host put into it is as it was
  pub record KeepsPass (clock : Clock H P) (old new : Pass H P h) : Type 0 where
    pub own : IsPassOf clock new
    pub phase : (holder new).phase ≡ (holder old).phase
    pub seen : (holder old).seen ≤ (holder new).seen
    pub host : (view new).host ≡ (view old).host

module _ {T H P : Type 0} {g h : _} where
  -- tries to seal leave the plain list, the counts and the misses, and the pass so
  pub record KeepsButTried (clock : Clock H P) (pass pass' : Pass H P h) (old new : Lists T H P g h) : Type 0 where
    pub kept : KeepsPass clock pass pass'
    pub plain : plain_in new ≡ plain_in old
    pub working : working_in new ≡ working_in old
    pub missed : missed_in new ≡ missed_in old
    pub identity : lists_identity new ≡ lists_identity old
