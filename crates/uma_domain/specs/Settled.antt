-- Own: what a settle comes to: buckets that came by the inbox are listed as the newest of their kinds, in the order in which they were popped.
use Rattle.std.specs.Prelude.{◌≡◌, ◌≤◌, ◌<◌, ◌+◌, ℕ, Bool, true, false, List, ◌++◌, length, sum_by, Option, Some, None, Result, IfOk, OnErr}
use Rattle.std.specs.List.{filter_map}
use Rattle.inbox.specs.Inbox.{items_of, popped_by}
use Rattle.inbox.specs.Rule.{AreAll}
use Rattle.uma_bucket.specs.declared.bucket.Bucket.{Bucket}
use Rattle.uma_bucket.specs.declared.freed.Loose.{Loose}
use Rattle.uma_bucket.specs.declared.freed.Sealed.{Sealed}
use Rattle.uma_bucket.specs.declared.shelved.Shelved.{Shelved}
use Rattle.uma_bucket.specs.declared.shelved.Shelved.TheVariants.{Plain as Plain', Loose as Loose', Sealed as Sealed'}
use Rattle.uma_bucket.specs.declared.shelved.Sums.{Sums}
use Rattle.uma_bucket.specs.Shelved.{count_of}
use Rattle.uma_bucket.specs.Sums.{nothing_held, Adds}
use Rattle.uma_domain.specs.declared.lists.Lists.{Lists}
use Rattle.uma_domain.specs.declared.locked.Locked.{Locked}
use Rattle.uma_domain.specs.Lists.{lists_identity, plain_in, loose_in, sealed_in, working_in, missed_in}
use Rattle.uma_domain.specs.Sums.{times_listed, deferred_listed}
use Rattle.uma_domain.specs.Working.{after}

module _ {T H P : Type 0} {g h : _} where
  -- the bucket, where it is of the kind
  abbrev pub plain_of : Shelved T H P g h → Option (Bucket T g)
  plain_of (Plain' number bucket) = Some bucket
  plain_of (Loose' number bucket) = None
  plain_of (Sealed' number bucket) = None

  abbrev pub loose_of : Shelved T H P g h → Option (Loose T g)
  loose_of (Plain' number bucket) = None
  loose_of (Loose' number bucket) = Some bucket
  loose_of (Sealed' number bucket) = None

  abbrev pub sealed_of : Shelved T H P g h → Option (Sealed T H P g h)
  sealed_of (Plain' number bucket) = None
  sealed_of (Loose' number bucket) = None
  sealed_of (Sealed' number bucket) = Some bucket

  -- These buckets are listed, in their order, as the newest of their kinds.
  pub record AreListed (came : List (Shelved T H P g h)) (was is : Lists T H P g h) : Type 0 where
    pub plain : plain_in is ≡ plain_in was ++ filter_map plain_of came
    pub loose : loose_in is ≡ loose_in was ++ filter_map loose_of came
    pub sealed : sealed_in is ≡ sealed_in was ++ filter_map sealed_of came
    pub working : working_in is ≡ after (working_in was) ((working_in was).count + sum_by count_of came)
    pub missed : missed_in is ≡ missed_in was
    pub identity : lists_identity is ≡ lists_identity was

  -- So many buckets were popped, and are listed in the order popped.
  pub record Settles (was : Locked T H P g h) (count : ℕ) (is : Locked T H P g h) : Type 0 where
    pub came : List (Shelved T H P g h)
    pub popped : items_of is.taker ≡ items_of was.taker ++ came
    pub listed : AreListed came was.lists is.lists
    pub counted : count ≡ length came

  -- Some buckets were, and are listed; the rest is in the inbox.
  pub record SettlesSome (was is : Locked T H P g h) : Type 0 where
    pub count : ℕ
    pub settles : Settles was count is

  -- These are the sums of what is listed after a settle. Where that listed fewer than 65,536 buckets, the inbox was empty at a step of it.
  pub record SumsSettled (was : Locked T H P g h) (sums : Sums) (is : Locked T H P g h) : Type 0 where
    pub count : ℕ
    pub settles : Settles was count is
    pub all : count < 65536 → AreAll (popped_by is.taker)
    pub adds : Adds (times_listed (plain_in is.lists) (loose_in is.lists) (sealed_in is.lists)) (deferred_listed (loose_in is.lists) (sealed_in is.lists)) nothing_held sums

  -- One bucket is settled, or there was none, and the inbox was empty at a step of the call. Where memory is wanting, none is.
  pub record SettlesNext {E : Type 0} (was : Locked T H P g h) (result : Result Bool E) (is : Locked T H P g h) : Type 0 where
    pub one : IfOk result (λ more. more ≡ true → Settles was 1 is)
    pub none : IfOk result (λ more. more ≡ false → Settles was 0 is)
    pub all : IfOk result (λ more. more ≡ false → AreAll (popped_by is.taker))
    pub stays : OnErr result (Settles was 0 is)
    pub identity : lists_identity is.lists ≡ lists_identity was.lists

  -- So many buckets are settled, 65,536 at most; where they are fewer, the inbox was empty at a step of the call. Where memory is wanting, some are.
  pub record SettlesAll {E : Type 0} (was : Locked T H P g h) (result : Result ℕ E) (is : Locked T H P g h) : Type 0 where
    pub settled : IfOk result (λ count. Settles was count is)
    pub most : IfOk result (λ count. count ≤ 65536)
    pub all : IfOk result (λ count. count < 65536 → AreAll (popped_by is.taker))
    pub stays : OnErr result (SettlesSome was is)
    pub identity : lists_identity is.lists ≡ lists_identity was.lists
