-- What a call of a domain did to its lists, from what the lists' own call did.
use Rattle.std.proofs.Common.{◌≡◌, ℕ, Option, Some, None, IfSome, IfNone, Result, Ok, Err, IfOk, OnOk, OnErr, All, sym, ◌∙◌, subst}
use Rattle.deed_book.specs.declared.fail_book.FailShare.{FailShare}
use Rattle.smr_clock.specs.declared.clock.Clock.{Clock}
use Rattle.smr_clock.specs.declared.pass.Pass.{Pass}
use Rattle.smr_clock.specs.declared.clock.Setup.{Setup}
use Rattle.smr_clock.specs.declared.view.View.{View}
use Rattle.smr_clock.specs.Belongs.{TableId}
use Rattle.uma_bucket.specs.declared.bucket.Bucket.{Bucket}
use Rattle.uma_bucket.specs.declared.freed.Loose.{Loose}
use Rattle.uma_bucket.specs.declared.freed.Sealed.{Sealed}
use Rattle.uma_bucket.specs.declared.freed.Ripe.{Ripe}
use Rattle.uma_bucket.specs.declared.shelved.Sums.{Sums}
use Rattle.uma_domain.specs.declared.domain.Domain.{Domain}
use Rattle.uma_domain.specs.declared.lists.Lists.{Lists}
use Rattle.uma_domain.specs.declared.locked.Locked.{Locked}
use Rattle.uma_domain.specs.declared.trims.Taken.{Taken}
use Rattle.uma_domain.specs.Domain.{domain_identity}
use Rattle.uma_domain.specs.Frames.{KeepsButPlain, KeepsButLoose, KeepsButSealed, KeepsButTried}
use Rattle.uma_domain.specs.Giving.{TrimsUnused, TakesCandidates, GivesOwn}
use Rattle.uma_domain.specs.Identity.{Identity}
use Rattle.uma_domain.specs.Listed.{plain_len, loose_len, sealed_len}
use Rattle.uma_domain.specs.Lists.{lists_identity, plain_in, loose_in, sealed_in, working_in}
use Rattle.uma_domain.specs.Looks.{TakesNewestPlain, TakesFirstRipe}
use Rattle.uma_domain.specs.Puts.{ListsNewest}
use Rattle.uma_domain.specs.Settled.{SettlesAll, SettlesSome, SumsSettled}
use Rattle.uma_domain.specs.Taken.{taken_in, IsTakenOf}
use Rattle.uma_domain.specs.Tries.{SealsEach}
use Rattle.uma_domain.specs.UnderLock.{AreListsOf, PutsPlain, PutsLoose, PutsSealed, TakesPlain, FindsNoPlain, TakesOldestRipe, FindsNoneRipe, SealsLoose, TakesUnused, TakesEach, KeepsLists, SettlesInbox, SettlesPart, SumsListed}

module _ {T H P : Type 0} {g h : _} (domain : Domain T H P g h) (was is : Lists T H P g h) (of : AreListsOf domain was) where
  pub puts_plain : {NoRoom : Type 0} (bucket : Bucket T g) (result : Result (Unit {0}) (Bucket T g)) → ListsNewest bucket (plain_len bucket) NoRoom (plain_in was) (working_in was) result (plain_in is) (working_in is) → KeepsButPlain was is → OnOk result (PutsPlain domain bucket)
  puts_plain bucket (Ok done) lists kept = record { was = was; is = is; of_domain = of; newest = lists.newest; counted = lists.working; kept = kept }
  puts_plain bucket (Err back) lists kept = tt

  pub puts_loose : {NoRoom : Type 0} (bucket : Loose T g) (result : Result (Unit {0}) (Loose T g)) → ListsNewest bucket (loose_len bucket) NoRoom (loose_in was) (working_in was) result (loose_in is) (working_in is) → KeepsButLoose was is → OnOk result (PutsLoose domain bucket)
  puts_loose bucket (Ok done) lists kept = record { was = was; is = is; of_domain = of; newest = lists.newest; counted = lists.working; kept = kept }
  puts_loose bucket (Err back) lists kept = tt

  pub puts_sealed : {NoRoom : Type 0} (bucket : Sealed T H P g h) (result : Result (Unit {0}) (Sealed T H P g h)) → ListsNewest bucket (sealed_len bucket) NoRoom (sealed_in was) (working_in was) result (sealed_in is) (working_in is) → KeepsButSealed was is → OnOk result (PutsSealed domain bucket)
  puts_sealed bucket (Ok done) lists kept = record { was = was; is = is; of_domain = of; newest = lists.newest; counted = lists.working; kept = kept }
  puts_sealed bucket (Err back) lists kept = tt

  pub takes_plain : (share : FailShare) (result : Option (Bucket T g)) (share' : FailShare) → TakesNewestPlain was share result is share' → IfSome result (TakesPlain domain)
  takes_plain share None share' took = tt
  takes_plain share (Some bucket) share' took = record {
    was = was;
    is = is;
    of_domain = of;
    newest = took.newest;
    counted = took.counts.working;
    kept = record { loose = took.counts.loose; sealed = took.sealed; missed = took.counts.hit.0; identity = took.counts.identity };
  }

  pub finds_no_plain : (share : FailShare) (result : Option (Bucket T g)) (share' : FailShare) → TakesNewestPlain was share result is share' → IfNone result (FindsNoPlain domain)
  finds_no_plain share None share' took = record {
    was = was;
    is = is;
    of_domain = of;
    none = took.none.0;
    missed = took.counts.miss;
    kept = record { plain = took.none.1 ∙ sym took.none.0; loose = took.counts.loose; sealed = took.sealed; working = took.counts.still; identity = took.counts.identity };
  }
  finds_no_plain share (Some bucket) share' took = tt

  pub takes_oldest : (share : FailShare) (result : Option (Ripe T H P g h)) (share' : FailShare) → TakesFirstRipe was share result is share' → IfSome result (TakesOldestRipe domain)
  takes_oldest share None share' took = tt
  takes_oldest share (Some ripe) share' took = record {
    was = was;
    is = is;
    of_domain = of;
    oldest = took.oldest;
    counted = took.counts.working;
    kept = record { plain = took.plain; loose = took.counts.loose; missed = took.counts.hit.0; identity = took.counts.identity };
  }

  pub finds_none_ripe : (share : FailShare) (result : Option (Ripe T H P g h)) (share' : FailShare) → TakesFirstRipe was share result is share' → IfNone result (FindsNoneRipe domain)
  finds_none_ripe share None share' took = record {
    was = was;
    is = is;
    of_domain = of;
    said_no = took.none;
    missed = took.counts.miss;
    kept = record { plain = took.plain; loose = took.counts.loose; working = took.counts.still; identity = took.counts.identity };
  }
  finds_none_ripe share (Some ripe) share' took = tt

  pub seals_loose : (copied : P → P) (clock : Clock H P) (here : TableId × Setup) (pass pass' : Pass H P h) (v : View P) (count : ℕ) (v' : View P) → here ≡ (domain_identity domain).clock → SealsEach copied here v (loose_in was) (sealed_in was) count (loose_in is) (sealed_in is) v' → KeepsButTried clock pass pass' was is → SealsLoose domain copied v count v'
  seals_loose copied clock here pass pass' v count v' own tried kept = record {
    was = was;
    is = is;
    of_domain = of;
    tried = subst (λ (id : TableId × Setup). SealsEach copied id v (loose_in was) (sealed_in was) count (loose_in is) (sealed_in is) v') own tried;
    kept = record { plain = kept.plain; working = kept.working; missed = kept.missed; identity = kept.identity };
  }

  pub takes_unused : {E : Type 0} (result : Result (Taken T H P g h) E) → IfOk result (λ taken. TrimsUnused was taken is) → GivesOwn was result is → IfOk result (TakesUnused domain)
  takes_unused (Ok taken) trimmed own = record { was = was; is = is; of_domain = of; trimmed = trimmed.trims; kept = record { loose = own.loose; missed = own.missed; identity = own.identity }; begins = trimmed.begins }
  takes_unused (Err e) trimmed own = tt

  pub takes_each : {E : Type 0} (result : Result (Taken T H P g h) E) → IfOk result (λ taken. TakesCandidates was taken is) → GivesOwn was result is → IfOk result (TakesEach domain)
  takes_each (Ok taken) all own = record { was = was; is = is; of_domain = of; all = all.takes; none_left = all.none_left; kept = record { loose = own.loose; missed = own.missed; identity = own.identity }; goes_on = all.goes_on }
  takes_each (Err e) all own = tt

  pub taken_own : {E : Type 0} (result : Result (Taken T H P g h) E) → IfOk result (λ taken. All (IsTakenOf (lists_identity was)) (taken_in taken)) → IfOk result (λ taken. All (IsTakenOf (domain_identity domain)) (taken_in taken))
  taken_own result own = subst (λ (id : Identity). IfOk result (λ taken. All (IsTakenOf id) (taken_in taken))) of own

  pub keeps_lists : {E : Type 0} (result : Result (Taken T H P g h) E) → GivesOwn was result is → OnErr result (KeepsLists domain)
  keeps_lists (Ok taken) own = tt
  keeps_lists (Err e) own = record {
    was = was;
    is = is;
    of_domain = of;
    kept = record {
      kept = record { plain = own.unchanged.0; loose = own.loose; sealed = own.unchanged.1; working = own.unchanged.2; identity = own.identity };
      missed = own.missed;
    };
  }

-- by the inbox
module _ {T H P : Type 0} {g h : _} (domain : Domain T H P g h) (was is : Locked T H P g h) (of : AreListsOf domain was.lists) where
  pub settles_inbox : {E : Type 0} (result : Result ℕ E) → SettlesAll was result is → IfOk result (SettlesInbox domain)
  settles_inbox (Ok count) all = record { was = was; is = is; of_domain = of; settles = all.settled; most = all.most; all = all.all }
  settles_inbox (Err e) all = tt

  pub settles_part : {A E : Type 0} (result : Result A E) → OnErr result (SettlesSome was is) → OnErr result (SettlesPart domain)
  settles_part (Ok count) settles = tt
  settles_part (Err e) settles = record { was = was; is = is; of_domain = of; settles = settles }

  pub sums_listed : {E : Type 0} (result : Result Sums E) → IfOk result (λ sums. SumsSettled was sums is) → IfOk result (SumsListed domain)
  sums_listed (Ok sums) adds = record { was = was; is = is; of_domain = of; adds = adds }
  sums_listed (Err e) adds = tt
