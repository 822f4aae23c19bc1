-- The sums of the zone of the names: of the workers' seats one after another, and of all.
use Rattle.std.proofs.Common.{◌≡◌, ℕ, ◌+◌, ◌*◌, ◌<◌, ◌≤◌, ◌^◌, List, Bool, true, false, cond, length, take, take_all, get_or, refl, sym, ap, ◌∙◌, subst, arith, le_refl}
use Rattle.std.proofs.lemmas.List.Elements.{All-get_or}
use Rattle.std.proofs.lemmas.List.Sums.{sum_by_more}
use Rattle.std.specs.Prelude.{◌==◌}
use Rattle.uma_bucket.specs.declared.shelved.Sums.{Sums}
use Rattle.uma_bucket.specs.Sums.{nothing_held, Adds, AreOfAtMost, Balance}
use Rattle.uma_bucket.proofs.Added.{fewer, none_passed}
use Rattle.uma_bucket.proofs.Tallied.{both_show}
use Rattle.uma_keg.specs.declared.census.Census.{Census}
use Rattle.uma_keg.specs.Census.{census_counts, census_tally}
use Rattle.uma_life.specs.declared.tally.TallySum.{TallySum}
use Rattle.uma_life.specs.Hook.{Hook, Ctor, Dtor}
use Rattle.uma_life.specs.Sum.{AreBelow, sum_of}
use Rattle.replay_worker.specs.declared.name_calls.NameCalls.{Ghosts as NameGhosts}
use Rattle.replay_worker.specs.declared.name_work.NameWork.{NameWork}
use Rattle.replay_worker.specs.NameSums.{HasLinked}
use Rattle.replay_rounds.proofs.Modulo.{shows_as}
use Rattle.uma_replay.specs.Names.{AreNameSums, AreSeatSums, AreSeats, NamesClose, seats_passed, seats_waiting}

-- ---- on numbers

seat_room : (i count : ℕ) → i < count → count ≤ 16 → 704 * i ≤ 2 ^ 62
seat_room i count below few = omega arith

one_more : (i : ℕ) → 704 * i + 704 ≡ 704 * (i + 1)
one_more i = omega arith

seats_fit : (count : ℕ) → count ≤ 16 → 704 * count ≤ 2 ^ 35
seats_fit count few = omega arith

zero_more : (n m : ℕ) → n ≡ 0 → n + m ≡ m
zero_more n m none = omega arith

next_sum : (so now next other here more : ℕ) → now ≡ so → next ≡ now + other → other ≡ here → more ≡ so + here → next ≡ more
next_sum so now next other here more e1 e2 e3 e4 = omega arith

sum_fits : (a : ℕ) → a ≤ 2 ^ 36 * 2 ^ 64 → a < 2 ^ 127
sum_fits a most = omega arith

census_fits : (a : ℕ) → a < 2 ^ 121 → a < 2 ^ 127
census_fits a below = omega arith

add_le : (own more all sum : ℕ) → own ≡ more → all ≡ sum + own → more ≤ all
add_le own more all sum e1 e2 = omega arith

both_le : (a b c all : ℕ) → b ≤ c → all ≡ a + c → a + b ≤ all
both_le a b c all most is = omega arith

-- ---- one seat after another

module _ {N H C S Part : Type 0} (names : NameGhosts N H C S Part) (name_works : List (NameWork N H C S Part)) where
  pub no_seat : (sums : Sums) → ((count : ℕ) → AreOfAtMost count sums) → ((zone : ℕ) → Balance zone sums) → sums ≡ nothing_held → AreSeatSums names 0 name_works sums
  no_seat sums few balance none = record {
    few = few (704 * 0);
    passed = λ hook. ap (λ (s : Sums). sum_of s.tally hook) none ∙ none_passed hook;
    waiting = ap (λ (s : Sums). s.deferred) none;
    balance = λ cache are. balance 0;
  }

  pub seat_room_left : (i : ℕ) (sums : Sums) → i < length name_works → length name_works ≤ 16 → AreSeatSums names i name_works sums → AreOfAtMost (2 ^ 62) sums
  seat_room_left i sums below few so = fewer sums (704 * i) (2 ^ 62) (seat_room i (length name_works) below few) so.few

  pub one_seat_more : (i : ℕ) (name_work : NameWork N H C S Part) (sums others next : Sums) → i < length name_works → name_work ≡ get_or name_works i name_work → AreSeatSums names i name_works sums
      → Adds (names.passed name_work.seat) (names.deferred name_work.seat) nothing_held others → AreOfAtMost 704 others → ((cache : C) → names.IsSeat cache name_work.seat → Balance 0 others)
      → Adds (sum_of others.tally) others.deferred sums next
      → ((count more : ℕ) → AreOfAtMost count sums → AreOfAtMost more others → AreOfAtMost (count + more) next)
      → ((n : ℕ) → Balance n sums → Balance n others → Balance n next)
      → AreSeatSums names (i + 1) name_works next
  one_seat_more i name_work sums others next below is so own few_own balance_own adds few balance = record {
    few = (let P : ℕ → Type 0 = λ n. AreOfAtMost n next in subst P (one_more i) (few (704 * i) 704 so.few few_own));
    passed = λ hook.
        let f = λ (g : NameWork N H C S Part). names.passed g.seat hook in
        let here : sum_of others.tally hook ≡ f (get_or name_works i name_work) = own.tally hook ∙ (zero_more (sum_of nothing_held.tally hook) (f name_work) (none_passed hook) ∙ ap f is) in
        next_sum (seats_passed names hook (take i name_works)) (sum_of sums.tally hook) (sum_of next.tally hook) (sum_of others.tally hook) (f (get_or name_works i name_work)) _ (so.passed hook) (adds.tally hook) here (sum_by_more f name_works i name_work below);
    waiting =
        let f = λ (g : NameWork N H C S Part). names.deferred g.seat in
        let here : others.deferred ≡ f (get_or name_works i name_work) = own.deferred_too ∙ (zero_more 0 (f name_work) refl ∙ ap f is) in
        next_sum (seats_waiting names (take i name_works)) sums.deferred next.deferred others.deferred (f (get_or name_works i name_work)) _ so.waiting adds.deferred_too here (sum_by_more f name_works i name_work below);
    balance = λ cache are.
        let P : NameWork N H C S Part → Type 0 = λ g. names.IsSeat cache g.seat in
        balance 0 (so.balance cache are) (balance_own cache (subst P (sym is) (All-get_or P name_works i name_work below are)));
  }

  pub all_seats : (i : ℕ) (sums : Sums) → i ≡ length name_works → AreSeatSums names i name_works sums → AreSeatSums names (length name_works) name_works sums
  all_seats i sums all so = let P : ℕ → Type 0 = λ n. AreSeatSums names n name_works sums in subst P all so

  whole : take (length name_works) name_works ≡ name_works
  whole = take_all (length name_works) name_works (le_refl (length name_works))

  pub of_seats : (sums : Sums) → length name_works ≤ 16 → AreSeatSums names (length name_works) name_works sums → AreOfAtMost (2 ^ 35) sums
  of_seats sums few so = fewer sums (704 * length name_works) (2 ^ 35) (seats_fit (length name_works) few) so.few

-- ---- with what the domains list and the rows link

with_rest : (b : Bool) (dtors more_dtors all_dtors deferred more_deferred all_deferred linked : ℕ) → all_dtors ≡ dtors + more_dtors → all_deferred ≡ deferred + more_deferred
    → (dtors + cond b (deferred + linked) 0) + (more_dtors + cond b more_deferred 0) ≡ all_dtors + cond b (all_deferred + linked) 0
with_rest true dtors more_dtors all_dtors deferred more_deferred all_deferred linked e1 e2 = omega arith
with_rest false dtors more_dtors all_dtors deferred more_deferred all_deferred linked e1 e2 = omega arith

linked_more : (rows : ℕ) (sums others next : Sums) → HasLinked rows sums → Balance 0 others → Adds (sum_of others.tally) others.deferred sums next → HasLinked rows next
linked_more rows sums others next has balance adds = record {
  linked = has.linked;
  few = has.few;
  balance = λ zone below.
      shows_as _ _ _ _ (sym (adds.tally (Ctor zone)))
      (with_rest (0 == zone) (sum_of sums.tally (Dtor zone)) (sum_of others.tally (Dtor zone)) (sum_of next.tally (Dtor zone)) sums.deferred others.deferred next.deferred has.linked (adds.tally (Dtor zone)) adds.deferred_too)
      (both_show (sum_of sums.tally (Ctor zone)) (sum_of sums.tally (Dtor zone) + cond (0 == zone) (sums.deferred + has.linked) 0) (sum_of others.tally (Ctor zone)) (sum_of others.tally (Dtor zone) + cond (0 == zone) others.deferred 0)
      (has.balance zone below) (balance zone below));
}

same_sum : 2 ^ 35 + 2 ^ 35 ≡ 2 ^ 36
same_sum = omega arith

-- the order in which two counts are added
twice : (pairs deferred linked dtors sum : ℕ) → dtors ≡ pairs + sum → pairs + (sum + (deferred + linked)) ≡ dtors + deferred + linked
twice pairs deferred linked dtors sum is = omega arith

zero_below : 0 < 8
zero_below = omega arith

module _ {N H C S Part : Type 0} (names : NameGhosts N H C S Part) (cache : C) (name_works : List (NameWork N H C S Part)) where
  pub name_sums_of : (rest seats sums : Sums) → length name_works ≤ 16 → AreSeats names cache name_works → AreSeatSums names (length name_works) name_works seats → AreOfAtMost (2 ^ 35) rest → HasLinked (names.sizes_of cache).rows rest
      → Adds (sum_of seats.tally) seats.deferred rest sums → ((count more : ℕ) → AreOfAtMost count rest → AreOfAtMost more seats → AreOfAtMost (count + more) sums) → AreNameSums names cache name_works sums
  name_sums_of rest seats sums few are so few_rest has adds few_sums = record {
    few = (let P : ℕ → Type 0 = λ n. AreOfAtMost n sums in subst P same_sum (few_sums (2 ^ 35) (2 ^ 35) few_rest (of_seats names name_works seats few so)));
    passed = λ hook. add_le (sum_of seats.tally hook) (seats_passed names hook name_works) (sum_of sums.tally hook) (sum_of rest.tally hook) (so.passed hook ∙ ap (seats_passed names hook) (whole names name_works)) (adds.tally hook);
    waiting = add_le seats.deferred (seats_waiting names name_works) sums.deferred rest.deferred (so.waiting ∙ ap (seats_waiting names) (whole names name_works)) adds.deferred_too;
    links = linked_more (names.sizes_of cache).rows rest seats sums has (so.balance cache are) adds;
  }

  pub names_close : (census : Census) (tally : TallySum) (sums : Sums) → names.IsCensus cache census → (census_counts census).per_slab ≡ 64 → (census_counts census).cap ≡ (names.sizes_of cache).slabs → (census_counts census).reserve ≡ 0 → AreNameSums names cache name_works sums
      → ((hook : Hook) → sum_of tally hook ≡ sum_of (census_tally census) hook + sum_of sums.tally hook) → NamesClose names cache name_works census tally sums.deferred
  names_close census tally sums own per_slab cap reserve are adds =
      let has = are.links in
      record {
        own = own;
        cap = cap;
        reserve = reserve;
        per_slab = per_slab;
        hooks = λ hook. both_le (sum_of (census_tally census) hook) (seats_passed names hook name_works) (sum_of sums.tally hook) (sum_of tally hook) (are.passed hook) (adds hook);
        waiting = are.waiting;
        linked = has.linked;
        few = has.few;
        pairs =
            shows_as _ _ _ _ (sym (adds (Ctor 0))) (twice (sum_of (census_tally census) (Dtor 0)) sums.deferred has.linked (sum_of tally (Dtor 0)) (sum_of sums.tally (Dtor 0)) (adds (Dtor 0)))
            (both_show (sum_of (census_tally census) (Ctor 0)) (sum_of (census_tally census) (Dtor 0)) (sum_of sums.tally (Ctor 0)) (sum_of sums.tally (Dtor 0) + (sums.deferred + has.linked))
            (census.paired.builds 0 zero_below) (has.balance 0 zero_below));
      }

-- ---- that the sums fit

pub sums_below : (sums : Sums) → AreOfAtMost (2 ^ 36) sums → AreBelow (2 ^ 127) sums.tally
sums_below sums few hook = sum_fits (sum_of sums.tally hook) (few.tally hook)

pub census_below : (tally : TallySum) → AreBelow (2 ^ 121) tally → AreBelow (2 ^ 127) tally
census_below tally below hook = census_fits (sum_of tally hook) (below hook)

pub rest_room : (sums : Sums) → AreOfAtMost (2 ^ 35) sums → AreOfAtMost (2 ^ 62) sums
rest_room sums few = fewer sums (2 ^ 35) (2 ^ 62) (omega arith) few

pub seat_few : (sums : Sums) → AreOfAtMost 704 sums → AreOfAtMost (2 ^ 62) sums
seat_few sums few = fewer sums 704 (2 ^ 62) (omega arith) few
