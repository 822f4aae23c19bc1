-- Own: what a look for a bucket asks of the domain and of the share of its misses, and what it comes to.
use Rattle.std.specs.Prelude.{◌≡◌, ◌+◌, ◌-◌, ℕ, Bool, true, [], ◌∷◌, ◌++◌, Option, IfSome, IfNone}
use Rattle.deed_book.specs.declared.fail_book.FailShare.{FailShare}
use Rattle.deed_book.specs.FailShare.{causes_in, share_table}
use Rattle.smr_clock.specs.declared.clock.Clock.{Clock}
use Rattle.smr_clock.specs.Belongs.{clock_id}
use Rattle.uma_bucket.specs.declared.bucket.Bucket.{Bucket}
use Rattle.uma_bucket.specs.declared.freed.Ripe.{Ripe}
use Rattle.uma_domain.specs.declared.lists.Lists.{Lists}
use Rattle.uma_domain.specs.Frames.{KeepsListed}
use Rattle.uma_domain.specs.Identity.{Identity}
use Rattle.uma_domain.specs.Listed.{IsPlainOf, IsRipeOf, plain_len, ripe_len}
use Rattle.uma_domain.specs.Lists.{lists_identity, plain_in, loose_in, sealed_in, working_in, missed_in, IsRaised}
use Rattle.uma_domain.specs.Scans.{AllStay, TakesRipe}
use Rattle.uma_domain.specs.Working.{after}

-- The share is of the domain's book of misses, and has no cause.
pub record IsNewShare (identity : Identity) (opened : FailShare) : Type 0 where
  pub share : causes_in opened ≡ []
  pub book : share_table opened ≡ identity.misses

-- The domain is of this kind, and the share is of its book of misses.
pub record CanLook (deferred : Bool) (identity : Identity) (misses : FailShare) : Type 0 where
  pub kind : identity.smr ≡ deferred
  pub share : share_table misses ≡ identity.misses

module _ {H P : Type 0} where
  -- and the clock is that of the domain's notes
  pub record CanPoll (identity : Identity) (clock : Clock H P) (misses : FailShare) : Type 0 where
    pub look : CanLook true identity misses
    pub here : clock_id clock ≡ identity.clock

-- What a look takes from the lists of a domain is of that domain, and the share is as it was. Where it finds nothing, that is one miss more in the share.
pub record LooksUnderLock {B : Type 0} (IsOfDomain Takes : B → Type 0) (FindsNone : Type 0) (was : FailShare) (result : Option B) (is : FailShare) : Type 0 where
  pub of_domain : IfSome result IsOfDomain
  pub hit : IfSome result (λ _. is ≡ was)
  pub raised : IfNone result (IsRaised was is)
  pub taken : IfSome result Takes
  pub looked : IfNone result FindsNone

module _ {T H P : Type 0} {g h : _} where
  -- One more miss is in the book and in the share, and what is listed is as it was.
  pub record CountsMiss (old : Lists T H P g h) (was : FailShare) (new : Lists T H P g h) (is : FailShare) : Type 0 where
    pub missed : missed_in new ≡ missed_in old + 1
    pub raised : IsRaised was is
    pub kept : KeepsListed old new

  -- A bucket that a look took is of the domain, and is no longer counted. Where it found none, that is one miss more, in the book and in the share.
  pub record CountsLook {B : Type 0} (IsOfDomain : B → Type 0) (len : B → ℕ) (old : Lists T H P g h) (was : FailShare) (result : Option B) (new : Lists T H P g h) (is : FailShare) : Type 0 where
    pub of_domain : IfSome result IsOfDomain
    pub working : IfSome result (λ bucket. working_in new ≡ after (working_in old) ((working_in old).count - len bucket))
    pub hit : IfSome result (λ _. (missed_in new ≡ missed_in old) × (is ≡ was))
    pub still : IfNone result (working_in new ≡ working_in old)
    pub miss : IfNone result (missed_in new ≡ missed_in old + 1)
    pub raised : IfNone result (IsRaised was is)
    pub loose : loose_in new ≡ loose_in old
    pub identity : lists_identity new ≡ lists_identity old

  -- The newest plain bucket is taken; none where there is none.
  pub record TakesNewestPlain (old : Lists T H P g h) (was : FailShare) (result : Option (Bucket T g)) (new : Lists T H P g h) (is : FailShare) : Type 0 where
    pub newest : IfSome result (λ bucket. plain_in old ≡ plain_in new ++ bucket ∷ [])
    pub none : IfNone result ((plain_in old ≡ []) × (plain_in new ≡ []))
    pub counts : CountsLook (IsPlainOf (lists_identity old).home) plain_len old was result new is
    pub sealed : sealed_in new ≡ sealed_in old

  -- The oldest sealed bucket whose poll says yes is taken; none where each one's poll says no.
  pub record TakesFirstRipe (old : Lists T H P g h) (was : FailShare) (result : Option (Ripe T H P g h)) (new : Lists T H P g h) (is : FailShare) : Type 0 where
    pub oldest : IfSome result (λ ripe. TakesRipe (sealed_in old) ripe (sealed_in new))
    pub none : IfNone result (AllStay (sealed_in old) (sealed_in new))
    pub counts : CountsLook (IsRipeOf (lists_identity old)) ripe_len old was result new is
    pub plain : plain_in new ≡ plain_in old
