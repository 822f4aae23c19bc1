-- Buckets that come by the inbox: they may be pushed, they may be listed, and one after another they are listed.
use Rattle.std.proofs.Common.{◌≡◌, ◌+◌, ℕ, List, [], ◌++◌, length-append, map, Option, Result, Ok, Err, OnErr, sum_by, min, max, refl, sym, ap, ◌∙◌, subst, append_assoc, arith}
use Rattle.std.proofs.lemmas.List.{append-nil}
use Rattle.std.proofs.lemmas.List.Elements.{All-nil, All-cons, All-head, filter_map-append}
use Rattle.std.proofs.lemmas.List.Sums.{sum_by-append}
use Rattle.std.specs.List.{filter_map}
use Rattle.smr_clock.specs.declared.clock.Setup.{Setup}
use Rattle.smr_clock.specs.Belongs.{TableId}
use Rattle.inbox.specs.Inbox.{items_of, popped_by}
use Rattle.inbox.specs.Views.{item_of}
use Rattle.uma_bucket.specs.declared.bucket.Bucket.{Bucket}
use Rattle.uma_bucket.specs.declared.freed.Loose.{Loose}
use Rattle.uma_bucket.specs.declared.freed.Sealed.{Sealed}
use Rattle.uma_bucket.specs.declared.shelved.Shelved.{Shelved}
use Rattle.uma_bucket.specs.declared.shelved.Shelved.TheVariants.{Plain as Plain', Loose as Loose', Sealed as Sealed'}
use Rattle.uma_bucket.specs.Home.{Home}
use Rattle.uma_bucket.specs.Inboxes.{InboxOrigin}
use Rattle.uma_bucket.specs.Shelved.{count_of, CanBeListed}
use Rattle.uma_domain.specs.declared.lists.Lists.{Lists}
use Rattle.uma_domain.specs.declared.locked.Locked.{Locked}
use Rattle.uma_domain.specs.declared.lists.Working.{Working}
use Rattle.uma_domain.specs.Frames.{KeepsAll}
use Rattle.uma_domain.specs.Identity.{Identity, origin_of}
use Rattle.uma_domain.specs.Listed.{IsPlainOf, IsLooseOf, IsSealedOf}
use Rattle.uma_domain.specs.Lists.{plain_in, loose_in, sealed_in, working_in}
use Rattle.uma_domain.specs.Settled.{plain_of, loose_of, sealed_of, AreListed, Settles}
use Rattle.uma_domain.specs.Working.{after, IsBounded}

-- more of nothing is listed, and more after more
still : (w : Working) (more : ℕ) → IsBounded w → more ≡ 0 → w ≡ after w (w.count + more)
still w more bounded none = λ i. record { count = count i; least = least i; greatest = greatest i }
  where
    count : w.count ≡ w.count + more
    count = omega (arith, none)

    least : w.least ≡ min w.least (w.count + more)
    least = omega (arith, bounded.above_least)

    greatest : w.greatest ≡ max w.greatest (w.count + more)
    greatest = omega (arith, none, bounded.below_greatest)

onward : (w : Working) (a b both : ℕ) → IsBounded w → both ≡ a + b → after (after w (w.count + a)) (w.count + a + b) ≡ after w (w.count + both)
onward w a b both bounded is = λ i. record { count = count i; least = least i; greatest = greatest i }
  where
    count : w.count + a + b ≡ w.count + both
    count = omega (arith, is)

    least : min (min w.least (w.count + a)) (w.count + a + b) ≡ min w.least (w.count + both)
    least = omega (arith, is, bounded.above_least)

    greatest : max (max w.greatest (w.count + a)) (w.count + a + b) ≡ max w.greatest (w.count + both)
    greatest = omega (arith, is)

module _ {T H P : Type 0} {g h : _} where
  -- what a domain may list may go into its inbox
  pub sealed_fits : (origin : InboxOrigin) (identity : Identity) (bucket : Sealed T H P g h) → origin ≡ origin_of identity → IsSealedOf identity bucket → CanBeListed origin.home origin.clock (Sealed' 0 bucket)
  sealed_fits origin identity bucket same of =
      subst (λ (o : InboxOrigin). CanBeListed o.home o.clock (Sealed' 0 bucket)) (sym same) (record {
        filled = of.bucket.some;
        at_home = of.bucket.at_home;
        of_clock = All-cons (λ (own : TableId × Setup). own ≡ identity.clock) _ [] of.clock (All-nil (λ (own : TableId × Setup). own ≡ identity.clock));
      })

  -- and what comes out of it the domain may list
  pub plain_may : (home : Home) (clock : TableId × Setup) (number : ℕ) (bucket : Bucket T g) → CanBeListed {T = T} {H = H} {P = P} {g = g} {h = h} home clock (Plain' number bucket) → IsPlainOf home bucket
  plain_may home clock number bucket can = record { some = can.filled; at_home = can.at_home }

  pub loose_may : (home : Home) (clock : TableId × Setup) (number : ℕ) (bucket : Loose T g) → CanBeListed {T = T} {H = H} {P = P} {g = g} {h = h} home clock (Loose' number bucket) → IsLooseOf home bucket
  loose_may home clock number bucket can = record { some = can.filled; at_home = can.at_home }

  pub sealed_may : (identity : Identity) (number : ℕ) (bucket : Sealed T H P g h) → CanBeListed identity.home identity.clock (Sealed' number bucket) → IsSealedOf identity bucket
  sealed_may identity number bucket can = record { bucket = record { some = can.filled; at_home = can.at_home }; clock = All-head (λ (own : TableId × Setup). own ≡ identity.clock) _ [] can.of_clock }

  -- ---- what is listed

  pub none_listed : (was is : Lists T H P g h) → KeepsAll was is → AreListed [] was is
  none_listed was is all = record {
    plain = all.kept.plain ∙ sym (append-nil (plain_in was));
    loose = all.kept.loose ∙ sym (append-nil (loose_in was));
    sealed = all.kept.sealed ∙ sym (append-nil (sealed_in was));
    working = all.kept.working ∙ still (working_in was) _ was.bounded refl;
    missed = all.missed;
    identity = all.kept.identity;
  }

  pub all_kept : (lists : Lists T H P g h) → KeepsAll lists lists
  all_kept lists = record { kept = record { plain = refl; loose = refl; sealed = refl; working = refl; identity = refl }; missed = refl }

  more_of : {A : Type 0} (of : Shelved T H P g h → Option A) (was mid is : List A) (first then : List (Shelved T H P g h)) → mid ≡ was ++ filter_map of first → is ≡ mid ++ filter_map of then → is ≡ was ++ filter_map of (first ++ then)
  more_of of was mid is first then one two =
      two ∙ ap (λ l. l ++ filter_map of then) one ∙ append_assoc was (filter_map of first) (filter_map of then) ∙ ap (λ l. was ++ l) (sym (filter_map-append of first then))

  pub more_listed : (was mid is : Lists T H P g h) (first then : List (Shelved T H P g h)) → AreListed first was mid → AreListed then mid is → AreListed (first ++ then) was is
  more_listed was mid is first then one two = record {
    plain = more_of plain_of (plain_in was) (plain_in mid) (plain_in is) first then one.plain two.plain;
    loose = more_of loose_of (loose_in was) (loose_in mid) (loose_in is) first then one.loose two.loose;
    sealed = more_of sealed_of (sealed_in was) (sealed_in mid) (sealed_in is) first then one.sealed two.sealed;
    working = two.working ∙ ap (λ (w : Working). after w (w.count + sum_by count_of then)) one.working
        ∙ onward (working_in was) (sum_by count_of first) (sum_by count_of then) (sum_by count_of (first ++ then)) was.bounded (sum_by-append count_of first then);
    missed = two.missed ∙ one.missed;
    identity = two.identity ∙ one.identity;
  }

  -- ---- what is settled

  pub none_settled : (was is : Locked T H P g h) → popped_by is.taker ≡ popped_by was.taker → AreListed [] was.lists is.lists → Settles was 0 is
  none_settled was is popped listed = record { came = []; popped = ap (map item_of) popped ∙ sym (append-nil (items_of was.taker)); listed = listed; counted = refl }

  pub more_settled : (was mid is : Locked T H P g h) (many more : ℕ) → Settles was many mid → Settles mid more is → Settles was (many + more) is
  more_settled was mid is many more one two = record {
    came = one.came ++ two.came;
    popped = two.popped ∙ ap (λ l. l ++ two.came) one.popped ∙ append_assoc (items_of was.taker) one.came two.came;
    listed = more_listed was.lists mid.lists is.lists one.came two.came one.listed two.listed;
    counted = let all = length-append one.came two.came in omega (arith, all, one.counted, two.counted);
  }

-- what is so in each case
pub any_err : {A E F : Type 0} (result : Result A E) → F → OnErr result F
any_err (Ok value) so = tt
any_err (Err e) so = so
