-- How a seat without a usable item gets some, or none.
use Rattle.std.proofs.Common.{◌≡◌, ◌<◌, ℕ, Bool, true, false, cond, List, [], ◌∷◌, ◌++◌, length, Result, Ok, Err, IfErr, OnOk, inl, inr, refl, sym, ap, ◌∙◌, subst, arith}
use Rattle.deed_book.specs.declared.fail_book.FailShare.{FailShare}
use Rattle.deed_book.specs.FailViews.{cause}
use Rattle.zone_stats.specs.LedgerSteps.{CountsTurned}
use Rattle.smr_clock.specs.declared.view.View.{View}
use Rattle.uma_life.specs.declared.states.Cached.{Cached}
use Rattle.uma_bucket.specs.declared.bucket.Bucket.{Bucket}
use Rattle.uma_bucket.specs.Ripe.{ripe_knows}
use Rattle.uma_domain.specs.Lists.{IsRaised}
use Rattle.uma_seat.specs.declared.counts.Counts.{Counts}
use Rattle.uma_seat.specs.declared.rows.PlainRow.{PlainRow}
use Rattle.uma_seat.specs.declared.seat.SeatCache.{SeatCache}
use Rattle.uma_seat.specs.declared.seating.Seating.{Seating}
use Rattle.uma_seat.specs.Counts.{ledger_in, fetches_in}
use Rattle.uma_seat.specs.Fetches.{refusal_cause}
use Rattle.uma_seat.specs.Row.{stacks_of}
use Rattle.uma_seat.specs.Seat.{seat_domain, seat_smr, free_bucket, top_bucket, top_of, usable_of, ledger_of, fetches_of, misses_of, IsSameSeat, KeepsPlain, KeepsCounts, KeepsMisses}
use Rattle.uma_seat.specs.Stack.{stack_at}
use Rattle.locked_keg.specs.Seating.{KeepsAllButTop}
use Rattle.uma_zone.specs.Looked.{IsOfRipe}
use Rattle.uma_zone.specs.OwnDomain.{AreFoundIn, FindsNothing}
use Rattle.uma_zone.specs.Told.{TakesInNote}
use Rattle.uma_zone.proofs.Looks.{none_behind}
use Rattle.uma_zone.specs.declared.zone.alloc.AllocRefused.{AllocRefused}
use Rattle.uma_zone.specs.declared.zone.alloc.AllocRefused.TheVariants.{Refused, Memory}
use Rattle.uma_zone.specs.declared.domains.ZoneDomains.{ZoneDomains}
use Rattle.uma_zone.specs.declared.zone.Zone.{Zone}
use Rattle.uma_zone.specs.Zone.{zone_smr, zone_hooks}
use Rattle.uma_zone.specs.Alloc.{IsFilled, RefusesToTake}
use Rattle.uma_zone.specs.Fetch.{HasFetched, FetchRefuses}

-- the first of two lists is empty, where both together are
none_before : {X : Type 0} (xs ys : List X) → xs ++ ys ≡ [] → xs ≡ []
none_before [] ys none = refl
none_before (x ∷ xs) ys none = absurd (cc)

module _ {T H P : Type 0} {g h : _} where
  -- the allocation bucket of a seat is empty, where no item is usable
  pub top_empty : (seat : SeatCache T H P g h) → usable_of seat ≡ [] → (top_of seat).items ≡ []
  top_empty seat none = none_behind (cond (seat_smr seat) [] (free_bucket seat).items) (top_of seat).items none

  -- where no item of the other buckets is usable, those of the allocation bucket are all
  pub only_top : (old new : SeatCache T H P g h) → IsSameSeat old new → KeepsPlain old new → usable_of old ≡ [] → usable_of new ≡ (top_of new).items
  only_top old new same plain none =
      let front = none_before (cond (seat_smr old) [] (free_bucket old).items) (top_of old).items none in
      let front' : cond (seat_smr new) [] (free_bucket new).items ≡ [] = subst (λ (s : Seating H P). cond s.smr [] (stack_at (stacks_of new.plain) s.domain).items ≡ []) (sym same.0) (subst (λ (r : PlainRow T g). cond (seat_smr old) [] (stack_at (stacks_of r) (seat_domain old)).items ≡ []) (sym plain) front) in
      ap (λ (l : List (Cached T g)). l ++ (top_of new).items) front'

  -- none is usable still, where the allocation bucket is empty and the others are as they were
  pub still_none : (old new : SeatCache T H P g h) → IsSameSeat old new → KeepsPlain old new → (top_of new).items ≡ [] → usable_of old ≡ [] → usable_of new ≡ []
  still_none old new same plain empty none = only_top old new same plain none ∙ empty

  -- a look that found some took in the note of a ripe bucket, or did nothing by its pass
  pub told_by_look : (them : ZoneDomains T H P g h) (merged : P → P → P) (leaves : T → ℕ → T → Type 0) (v mid v' : View P) (bucket : Bucket T g) (smr found : Bool) → found ≡ true → mid.host ≡ v.host → (smr ≡ true → found ≡ true → IsOfRipe them merged leaves mid bucket v') → (smr ≡ false → v' ≡ mid)
      → TakesInNote merged v.host v'.host
  told_by_look them merged leaves v mid v' bucket true found is same ripe plain =
      let r = ripe refl is in
      inr ((ripe_knows r.ripe).host, ap (λ (w : View P). w.host) r.absorbed ∙ ap (λ (p : P). merged p (ripe_knows r.ripe).host) same)
  told_by_look them merged leaves v mid v' bucket false found is same ripe plain = inl (ap (λ (w : View P). w.host) (plain refl) ∙ same)

module _ {T K H P : Type 0} {g k h : _} where
  -- the look found some
  pub found_some : (zone : Zone T K H P g k h) (reserve : Bool) (old mid new : SeatCache T H P g h) (merged : P → P → P) (v v' : View P) (found : Bool) → found ≡ true → usable_of old ≡ []
      → IsSameSeat old mid → (found ≡ true → AreFoundIn zone.domains (seat_domain mid) (k.leaves_dtor (zone_hooks zone)) (top_of new).items)
      → KeepsCounts old mid → KeepsMisses old mid → KeepsCounts mid new → (found ≡ true → KeepsMisses mid new) → (found ≡ true → 0 < length (top_of new).items)
      → (zone_smr zone ≡ true → found ≡ true → IsOfRipe zone.domains merged (k.leaves_dtor (zone_hooks zone)) v (top_bucket new) v') → IsFilled zone reserve old new
  found_some zone reserve old mid new merged v v' found is none same own counts misses counts' misses' some ripe =
      let kept : new.counts ≡ old.counts = counts' ∙ counts in
      record {
        some = omega (arith, some is);
        from = inl record {
          empty = none;
          fetches = ap fetches_in kept;
          misses = misses' is ∙ misses;
          own = subst (λ (n : ℕ). AreFoundIn zone.domains n (k.leaves_dtor (zone_hooks zone)) (top_of new).items) (ap (λ (s : Seating H P). s.domain) same.0) (own is);
          reused = λ smr. let r = ripe smr is in record { ripe = r.ripe; of_clock = r.of_clock; finished = r.finished; expired = r.expired; over = r.over };
        };
        ledger = ap ledger_in kept;
      }

  -- why the fetch behind a look that found nothing gave none
  fetch_refused : (zone : Zone T K H P g k h) (reserve : Bool) (old seen new : SeatCache T H P g h) (why : AllocRefused) → usable_of old ≡ [] → IsSameSeat old new → KeepsPlain old new
      → KeepsCounts old seen → FindsNothing zone.domains (seat_domain old) → IsRaised (misses_of old) (misses_of new) → FetchRefuses zone reserve seen new why → RefusesToTake zone reserve old new why
  fetch_refused zone reserve old seen new (Refused refusal) none same plain counts looked missed why = record {
    empty = none;
    still = still_none old new same plain why.none none;
    looked = looked;
    missed = missed;
    fetches = subst (λ (c : Counts). fetches_of new ≡ fetches_in c ++ refusal_cause refusal ∷ []) counts why.fetches;
    counted = subst (λ (c : Counts). CountsTurned (ledger_in c) (ledger_of new) refusal) counts why.counted;
    one = why.one;
    names = why.names;
  }
  fetch_refused zone reserve old seen new Memory none same plain counts looked missed why = record {
    empty = none;
    still = still_none old new same plain why.none none;
    ledger = why.ledger ∙ ap ledger_in counts;
    fetches = elim why.fetches [
      | inl unlisted ↦ inl (unlisted ∙ ap fetches_in counts)
      | inr listed ↦ inr (missed, subst (λ (c : Counts). fetches_of new ≡ fetches_in c ++ cause 7 0 0 ∷ []) counts listed)
    ];
  }

  -- why a fill gave none, once the flush is done
  pub fill_refused : (zone : Zone T K H P g k h) (reserve : Bool) (old mid seen new : SeatCache T H P g h) (result : Result (Unit {0}) AllocRefused) → usable_of old ≡ []
      → IsSameSeat old mid → KeepsPlain old mid → KeepsCounts old mid → KeepsMisses old mid
      → IsSameSeat mid seen → KeepsPlain mid seen → KeepsCounts mid seen → FindsNothing zone.domains (seat_domain mid) → IsRaised (misses_of mid) (misses_of seen)
      → KeepsAllButTop seen new → IfErr result (FetchRefuses zone reserve seen new) → IfErr result (RefusesToTake zone reserve old new)
  fill_refused zone reserve old mid seen new (Ok done) none same plain counts misses same' plain' counts' looked missed rest why = why
  fill_refused zone reserve old mid seen new (Err e) none same plain counts misses same' plain' counts' looked missed rest why =
      let raised : IsRaised (misses_of old) (misses_of new) = subst (λ (s : FailShare). IsRaised s (misses_of new)) misses (subst (λ (s : FailShare). IsRaised (misses_of mid) s) (sym rest.misses) missed) in
      let own : FindsNothing zone.domains (seat_domain old) = subst (λ (n : ℕ). FindsNothing zone.domains n) (ap (λ (s : Seating H P). s.domain) same.0) looked in
      fetch_refused zone reserve old seen new e none (rest.same.0 ∙ same'.0 ∙ same.0, rest.same.1 ∙ same'.1 ∙ same.1) (rest.plain ∙ plain' ∙ plain) (counts' ∙ counts) own raised why

  -- the look found nothing, and the fetch behind it gave some
  pub fetched_some : (zone : Zone T K H P g k h) (reserve : Bool) (old mid seen new : SeatCache T H P g h) (result : Result (Unit {0}) AllocRefused) → usable_of old ≡ []
      → IsSameSeat old mid → KeepsCounts old mid → KeepsMisses old mid → KeepsCounts mid seen → FindsNothing zone.domains (seat_domain mid) → IsRaised (misses_of mid) (misses_of seen)
      → KeepsAllButTop seen new → OnOk result (HasFetched zone reserve seen new) → OnOk result (IsFilled zone reserve old new)
  fetched_some zone reserve old mid seen new (Err e) none same counts misses counts' looked missed rest got = got
  fetched_some zone reserve old mid seen new (Ok done) none same counts misses counts' looked missed rest got = record {
    some = got.some;
    from = inr record {
      empty = none;
      looked = subst (λ (n : ℕ). FindsNothing zone.domains n) (ap (λ (s : Seating H P). s.domain) same.0) looked;
      missed = subst (λ (s : FailShare). IsRaised s (misses_of new)) misses (subst (λ (s : FailShare). IsRaised (misses_of mid) s) (sym rest.misses) missed);
      one = got.one;
      fetches = subst (λ (c : Counts). fetches_of new ≡ fetches_in c ++ cause 6 (length (top_of new).items) 0 ∷ []) (counts' ∙ counts) got.fetches;
    };
    ledger = got.ledger ∙ ap ledger_in (counts' ∙ counts);
  }
