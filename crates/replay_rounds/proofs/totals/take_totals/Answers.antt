use Rattle.std.proofs.Common.{◌≡◌, ℕ, ◌^◌, ◌∙◌, List, Some, ap, sym, subst, length, map}
use Rattle.std.specs.Prelude.{slice_get}
use Rattle.uma_bucket.specs.declared.shelved.Sums.{Sums}
use Rattle.uma_bucket.specs.Sums.{AreOfAtMost}
use Rattle.replay_rounds.specs.Taking.{TakesKegs}
use Rattle.replay_rounds.proofs.Closing.{all_close}
use Rattle.replay_rounds.proofs.Collected.{has_seats, all_small}
use Rattle.replay_rounds.proofs.totals.take_totals.Goals as goal

pub all_sums-requires-clause-seats : goal.all_sums-requires-clause-seats
all_sums-requires-clause-seats g c = has_seats c.args.zones.now c.args.clock.now c.args.workers.now c.requires.fits

pub take_kegs-requires-clause-sums : goal.take_kegs-requires-clause-sums
take_kegs-requires-clause-sums g c =
    let P : List Sums → Type 0 = λ l. (n : ℕ) (s : Sums) → slice_get l n ≡ Some s → AreOfAtMost (2 ^ 35) s in
    record {
      count = ap length c.as_slice.ensures.value ∙ c.in_ok-sums.ensures.count;
      small = subst P (sym c.as_slice.ensures.value) (all_small c.args.zones.now c.args.workers.now c.in_ok-sums.sums.items c.in_ok-sums.ensures);
    }

pub returns-clause-closes : goal.returns-clause-closes
returns-clause-closes g c =
    let K : List Sums → Type 0 = λ l. TakesKegs c.args.head.now c.args.zones.now c.args.workers.now l c.args.head.now.zones c.in_ok-kegs.kegs.censuses.items c.in_ok-kegs.kegs.tallies.items in
    let deferred = c.in_ok-deferred.ensures ∙ ap (map (λ (s : Sums). s.deferred)) c.as_slice-2.ensures.value in
    all_close c.args.head.now c.args.clock.now c.args.zones.now c.args.workers.now c.take_kegs.new.workers c.in_ok-sums.sums.items c.in_ok-deferred.deferred.items c.in_ok-kegs.kegs.censuses.items c.in_ok-kegs.kegs.tallies.items
    c.requires.head c.requires.zones c.in_ok-kegs.ensures.workers c.in_ok-sums.ensures deferred (subst K c.as_slice.ensures.value c.in_ok-kegs.ensures.kegs)
