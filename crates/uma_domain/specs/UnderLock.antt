-- Own: what a call of a domain did to its lists. They lie behind a lock, so each record names the lists of this very domain as the call found them under the lock, and as it left them. `kept` says what of them it left as it was.
use Rattle.std.specs.Prelude.{◌≡◌, ◌+◌, ◌-◌, ◌<◌, ◌≤◌, ◌⊎◌, ℕ, [], ◌∷◌, ◌++◌, Result, IfOk, IfErr, OnOk, OnErr}
use Rattle.std.specs.List.{All}
use Rattle.smr_clock.specs.declared.view.View.{View}
use Rattle.inbox.specs.declared.inbox.Port.{Port}
use Rattle.inbox.specs.Inbox.{port_number, sent_by, turned_by, popped_by}
use Rattle.inbox.specs.Rule.{AreAll}
use Rattle.uma_bucket.specs.declared.bucket.Bucket.{Bucket}
use Rattle.uma_bucket.specs.declared.shelved.InboxKey.{InboxKey}
use Rattle.uma_bucket.specs.declared.freed.Loose.{Loose}
use Rattle.uma_bucket.specs.declared.freed.Sealed.{Sealed}
use Rattle.uma_bucket.specs.declared.freed.Ripe.{Ripe}
use Rattle.uma_bucket.specs.declared.shelved.Shelved.{Shelved}
use Rattle.uma_bucket.specs.declared.shelved.Shelved.TheVariants.{Plain as Plain', Loose as Loose', Sealed as Sealed'}
use Rattle.uma_bucket.specs.declared.shelved.Sums.{Sums}
use Rattle.uma_bucket.specs.Inboxes.{port_origin}
use Rattle.uma_domain.specs.declared.domain.Domain.{Domain}
use Rattle.uma_domain.specs.declared.lists.Lists.{Lists}
use Rattle.uma_domain.specs.declared.locked.Locked.{Locked}
use Rattle.uma_domain.specs.declared.trims.Taken.{Taken}
use Rattle.uma_domain.specs.Domain.{domain_identity}
use Rattle.uma_domain.specs.Frames.{KeepsAll, KeepsListed, KeepsButPlain, KeepsButLoose, KeepsButSealed, KeepsButPolled, KeepsButSealing, KeepsButCandidates}
use Rattle.uma_domain.specs.Listed.{listed, plain_len, loose_len, sealed_len, ripe_len}
use Rattle.uma_domain.specs.Lists.{lists_identity, plain_in, loose_in, sealed_in, working_in, missed_in}
use Rattle.uma_domain.specs.Scans.{AllStay, TakesRipe}
use Rattle.uma_domain.specs.Settled.{Settles, SettlesSome, SumsSettled}
use Rattle.uma_domain.specs.Taken.{taken_in, IsTakenOf}
use Rattle.uma_domain.specs.Tries.{SealsEach}
use Rattle.uma_domain.specs.Trim.{Trims, TakesAll}
use Rattle.uma_domain.specs.Working.{after, begun, working_set}

module _ {T H P : Type 0} {g h : _} where
  -- these are lists of the domain
  abbrev pub AreListsOf : Domain T H P g h → Lists T H P g h → Type 0
  AreListsOf domain lists = lists_identity lists ≡ domain_identity domain

  -- the bucket is the newest plain one, and its items are counted
  pub record PutsPlain (domain : Domain T H P g h) (bucket : Bucket T g) : Type 0 where
    pub was : Lists T H P g h
    pub is : Lists T H P g h
    pub of_domain : AreListsOf domain was
    pub newest : plain_in is ≡ plain_in was ++ bucket ∷ []
    pub counted : working_in is ≡ after (working_in was) ((working_in was).count + plain_len bucket)
    pub kept : KeepsButPlain was is

  -- the bucket is the newest loose one, and its items are counted
  pub record PutsLoose (domain : Domain T H P g h) (bucket : Loose T g) : Type 0 where
    pub was : Lists T H P g h
    pub is : Lists T H P g h
    pub of_domain : AreListsOf domain was
    pub newest : loose_in is ≡ loose_in was ++ bucket ∷ []
    pub counted : working_in is ≡ after (working_in was) ((working_in was).count + loose_len bucket)
    pub kept : KeepsButLoose was is

  -- the bucket is the newest sealed one, and its items are counted
  pub record PutsSealed (domain : Domain T H P g h) (bucket : Sealed T H P g h) : Type 0 where
    pub was : Lists T H P g h
    pub is : Lists T H P g h
    pub of_domain : AreListsOf domain was
    pub newest : sealed_in is ≡ sealed_in was ++ bucket ∷ []
    pub counted : working_in is ≡ after (working_in was) ((working_in was).count + sealed_len bucket)
    pub kept : KeepsButSealed was is

  -- the bucket is the newest of its kind
  abbrev pub PutsShelved : Domain T H P g h → Shelved T H P g h → Type 0
  PutsShelved domain (Plain' number bucket) = PutsPlain domain bucket
  PutsShelved domain (Loose' number bucket) = PutsLoose domain bucket
  PutsShelved domain (Sealed' number bucket) = PutsSealed domain bucket

  -- as it lies in the domain's own inbox, where it needs no number of a domain
  abbrev pub unnumbered : Shelved T H P g h → Shelved T H P g h
  unnumbered (Plain' number bucket) = Plain' 0 bucket
  unnumbered (Loose' number bucket) = Loose' 0 bucket
  unnumbered (Sealed' number bucket) = Sealed' 0 bucket

  -- The bucket is the last that the port pushed into the domain's inbox. Or the inbox handed it back, and it is the newest of its kind in the domain's lists.
  pub record HandsOver (domain : Domain T H P g h) (was : Port (Shelved T H P g h) (InboxKey H P)) (shelved : Shelved T H P g h) (is : Port (Shelved T H P g h) (InboxKey H P)) : Type 0 where
    pub went : (sent_by is ≡ sent_by was ++ unnumbered shelved ∷ []) ⊎ ((sent_by is ≡ sent_by was) × (turned_by is ≡ turned_by was + 1) × PutsShelved domain shelved)

  -- A put of a bucket by a port hands it over, or it comes back, and the port pushed nothing. The port is of the same inbox, with the same number.
  pub record PutsByPort {B : Type 0} (domain : Domain T H P g h) (was : Port (Shelved T H P g h) (InboxKey H P)) (bucket : B) (shelved : Shelved T H P g h) (result : Result (Unit {0}) B) (is : Port (Shelved T H P g h) (InboxKey H P)) : Type 0 where
    pub port : port_origin is ≡ port_origin was
    pub number : port_number is ≡ port_number was
    pub back : IfErr result (λ b. b ≡ bucket)
    pub put : OnOk result (HandsOver domain was shelved is)
    pub still : OnErr result (sent_by is ≡ sent_by was)
    pub turned : OnErr result (turned_by is ≡ turned_by was + 1)

  -- so many buckets of the domain's inbox are listed, 65,536 at most; where they are fewer, the inbox was empty at a step of the call
  pub record SettlesInbox (domain : Domain T H P g h) (count : ℕ) : Type 0 where
    pub was : Locked T H P g h
    pub is : Locked T H P g h
    pub of_domain : AreListsOf domain was.lists
    pub settles : Settles was count is
    pub most : count ≤ 65536
    pub all : count < 65536 → AreAll (popped_by is.taker)

  -- some buckets of the domain's inbox are listed, and the rest is in the inbox
  pub record SettlesPart (domain : Domain T H P g h) : Type 0 where
    pub was : Locked T H P g h
    pub is : Locked T H P g h
    pub of_domain : AreListsOf domain was.lists
    pub settles : SettlesSome was is

  -- the bucket was the newest plain one, and is taken with its items
  pub record TakesPlain (domain : Domain T H P g h) (bucket : Bucket T g) : Type 0 where
    pub was : Lists T H P g h
    pub is : Lists T H P g h
    pub of_domain : AreListsOf domain was
    pub newest : plain_in was ≡ plain_in is ++ bucket ∷ []
    pub counted : working_in is ≡ after (working_in was) ((working_in was).count - plain_len bucket)
    pub kept : KeepsButPlain was is

  -- no plain bucket was listed, and one more miss is counted
  pub record FindsNoPlain (domain : Domain T H P g h) : Type 0 where
    pub was : Lists T H P g h
    pub is : Lists T H P g h
    pub of_domain : AreListsOf domain was
    pub none : plain_in was ≡ []
    pub missed : missed_in is ≡ missed_in was + 1
    pub kept : KeepsListed was is

  -- the bucket was the oldest sealed one whose poll said yes, and is taken with its items
  pub record TakesOldestRipe (domain : Domain T H P g h) (ripe : Ripe T H P g h) : Type 0 where
    pub was : Lists T H P g h
    pub is : Lists T H P g h
    pub of_domain : AreListsOf domain was
    pub oldest : TakesRipe (sealed_in was) ripe (sealed_in is)
    pub counted : working_in is ≡ after (working_in was) ((working_in was).count - ripe_len ripe)
    pub kept : KeepsButSealed was is

  -- each sealed bucket that was listed was polled once, which said no, and one more miss is counted
  pub record FindsNoneRipe (domain : Domain T H P g h) : Type 0 where
    pub was : Lists T H P g h
    pub is : Lists T H P g h
    pub of_domain : AreListsOf domain was
    pub said_no : AllStay (sealed_in was) (sealed_in is)
    pub missed : missed_in is ≡ missed_in was + 1
    pub kept : KeepsButPolled was is

  -- Each loose bucket tried once to be sealed, by a pass whose view was v before and v' after, and so many were.
  pub record SealsLoose (domain : Domain T H P g h) (copied : P → P) (v : View P) (count : ℕ) (v' : View P) : Type 0 where
    pub was : Lists T H P g h
    pub is : Lists T H P g h
    pub of_domain : AreListsOf domain was
    pub tried : SealsEach copied (domain_identity domain).clock v (loose_in was) (sealed_in was) count (loose_in is) (sealed_in is) v'
    pub kept : KeepsButSealing was is

  -- what wasn't in use since the last trim is taken, and a new interval begins
  pub record TakesUnused (domain : Domain T H P g h) (taken : Taken T H P g h) : Type 0 where
    pub was : Lists T H P g h
    pub is : Lists T H P g h
    pub of_domain : AreListsOf domain was
    pub trimmed : Trims (working_set (working_in was)) (working_in was).count (plain_in was) (sealed_in was) (taken_in taken) (plain_in is) (sealed_in is)
    pub kept : KeepsButCandidates was is
    pub begins : working_in is ≡ begun (listed (plain_in is) (loose_in is) (sealed_in is))

  -- every candidate is taken, and the interval goes on
  pub record TakesEach (domain : Domain T H P g h) (taken : Taken T H P g h) : Type 0 where
    pub was : Lists T H P g h
    pub is : Lists T H P g h
    pub of_domain : AreListsOf domain was
    pub all : TakesAll (plain_in was) (sealed_in was) (taken_in taken) (sealed_in is)
    pub none_left : plain_in is ≡ []
    pub kept : KeepsButCandidates was is
    pub goes_on : working_in is ≡ after (working_in was) (listed (plain_in is) (loose_in is) (sealed_in is))

  -- the lists are as they were
  pub record KeepsLists (domain : Domain T H P g h) : Type 0 where
    pub was : Lists T H P g h
    pub is : Lists T H P g h
    pub of_domain : AreListsOf domain was
    pub kept : KeepsAll was is

  -- What is taken is as is said of it, and of the domain. Where memory is wanting the lists are as they were.
  pub record GivesUnderLock {E : Type 0} (domain : Domain T H P g h) (Takes : Taken T H P g h → Type 0) (result : Result (Taken T H P g h) E) : Type 0 where
    pub of_domain : IfOk result (λ given. All (IsTakenOf (domain_identity domain)) (taken_in given))
    pub taken : IfOk result Takes
    pub unchanged : OnErr result (KeepsLists domain)

  -- so many items were listed
  pub record CountsListed (domain : Domain T H P g h) (count : ℕ) : Type 0 where
    pub was : Lists T H P g h
    pub of_domain : AreListsOf domain was
    pub all : count ≡ listed (plain_in was) (loose_in was) (sealed_in was)

  -- so many items were listed at the least and at the most since the last trim
  pub record TellsWorking (domain : Domain T H P g h) (least greatest : ℕ) : Type 0 where
    pub was : Lists T H P g h
    pub of_domain : AreListsOf domain was
    pub same_least : least ≡ (working_in was).least
    pub same_greatest : greatest ≡ (working_in was).greatest

  -- these are the sums of what is listed after a settle
  pub record SumsListed (domain : Domain T H P g h) (sums : Sums) : Type 0 where
    pub was : Locked T H P g h
    pub is : Locked T H P g h
    pub of_domain : AreListsOf domain was.lists
    pub adds : SumsSettled was sums is
