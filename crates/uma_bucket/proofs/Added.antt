-- What is added to sums: the tallies of a room, one item after another.
use Rattle.std.proofs.Common.{◌≡◌, ◌<◌, ◌≤◌, ◌+◌, ◌*◌, ◌^◌, ◌%◌, ◌==◌, ℕ, Bool, true, false, cond, List, [], ◌∷◌, length, get_or, replicate, take, inl, inr, refl, sym, ap, ◌∙◌, subst, arith}
use Rattle.std.specs.List.{sum_by, filter_map, list_all, cons_option}
use Rattle.std.proofs.lemmas.List.{length-take, get_or-replicate, get_or_past}
use Rattle.std.proofs.lemmas.Bool.{cases_lt}
use Rattle.std.proofs.lemmas.List.Sums.{sum_by-cons, sum_by-le}
use Rattle.uma_life.specs.declared.tally.ZoneTallySum.{ZoneTallySum}
use Rattle.uma_life.specs.declared.states.Ticket.{Ticket}
use Rattle.uma_life.specs.Hook.{Hook, KegInit, ZoneInit, Ctor, Dtor, ZoneFini, KegFini}
use Rattle.uma_life.specs.Sum.{sum_of, zone_sums, no_zone_sums, AreBelow}
use Rattle.uma_life.specs.Trail.{ShowsSame}
use Rattle.uma_life.specs.declared.states.Cached.{Cached}
use Rattle.uma_life.specs.declared.states.Outside.{Outside}
use Rattle.uma_life.specs.Outside.{is_live, cached_where, live_where}
use Rattle.uma_life.proofs.Outsides.{cached_there, live_there}
use Rattle.uma_bucket.specs.declared.freed.Freed.{Freed}
use Rattle.uma_bucket.specs.declared.shelved.Sums.{Sums}
use Rattle.uma_bucket.specs.Room.{is_cached, is_freed, cached_in, freed_in, freed_of, times_held}
use Rattle.uma_bucket.specs.Home.{Home, AreHome}
use Rattle.uma_bucket.specs.Sums.{nothing_held, times_cached, times_freed, Adds, AddsItems, AreOfAtMost, Balance, IsNothing, Joins}
use Rattle.uma_bucket.proofs.Rooms.{first_passes, isnt_live}
use Rattle.uma_bucket.proofs.Tallied.{trail_times, both_show}

module _ {T : Type 0} {g : _} where
  -- one item passed each hook fewer than 2^64 times
  held_times : (hook : Hook) (x : Outside T g) → times_held hook x < 2 ^ 64
  held_times hook x = trail_times _ _ x.at.trail hook

  pub all_times : (hook : Hook) (xs : List (Outside T g)) → sum_by (times_held hook) xs ≤ length xs * 2 ^ 64
  all_times hook xs = sum_by-le (times_held hook) (2 ^ 64) xs (λ k d within. let few : times_held hook (get_or xs k d) < 2 ^ 64 = held_times hook (get_or xs k d) in omega arith)

  one_cached : (hook : Hook) (x : Outside T g) (built : Bool) (is : is_live x ≡ built) → built ≡ false → (cs : List (Cached T g)) → times_held hook x + times_cached hook cs ≡ times_cached hook (cons_option (cached_where x built is) cs)
  unfolding cached_there
  one_cached hook x true is unbuilt cs = absurd (cc)
  one_cached hook x false is unbuilt cs = sym (sum_by-cons _ (cached_there x is) cs)

  one_freed : (hook : Hook) (x : Outside T g) (built : Bool) (is : is_live x ≡ built) → built ≡ true → (fs : List (Freed T g)) → times_held hook x + times_freed hook fs ≡ times_freed hook (cons_option (freed_of (live_where x built is)) fs)
  unfolding live_there
  one_freed hook x true is built_so fs =
      let item : Freed T g = record { live = live_there x is } in
      sym (sum_by-cons _ item fs)
  one_freed hook x false is built_so fs = absurd (cc)

  pub cached_times : (hook : Hook) (xs : List (Outside T g)) → list_all is_cached xs ≡ true → sum_by (times_held hook) xs ≡ times_cached hook (filter_map cached_in xs)
  cached_times hook [] all = refl
  cached_times hook (x ∷ xs) all =
      let each = first_passes is_cached x xs all in
      sum_by-cons (times_held hook) x xs ∙ ap (λ (n : ℕ). times_held hook x + n) (cached_times hook xs each.1) ∙ one_cached hook x (is_live x) refl (isnt_live (is_live x) each.0) (filter_map cached_in xs)

  pub freed_times : (hook : Hook) (xs : List (Outside T g)) → list_all is_freed xs ≡ true → sum_by (times_held hook) xs ≡ times_freed hook (filter_map freed_in xs)
  freed_times hook [] all = refl
  freed_times hook (x ∷ xs) all =
      let each = first_passes is_freed x xs all in
      sum_by-cons (times_held hook) x xs ∙ ap (λ (n : ℕ). times_held hook x + n) (freed_times hook xs each.1) ∙ one_freed hook x (is_live x) refl each.0 (filter_map freed_in xs)

  -- there is room for the tally of one item more
  pub room_left : (was now : Sums) (xs : List (Outside T g)) (i : ℕ) → AreOfAtMost (2 ^ 62) was → length xs ≤ 64 → Adds (λ hook. sum_by (times_held hook) (take i xs)) 0 was now → AreBelow (2 ^ 127) now.tally
  room_left was now xs i room few adds hook =
      let front : sum_by (times_held hook) (take i xs) ≤ length (take i xs) * 2 ^ 64 = all_times hook (take i xs) in
      let short = length-take i xs in
      omega (arith, room.tally hook, adds.tally hook)

-- the sums are those of more items
pub more_of : (was is : Sums) (times : Hook → ℕ) (items deferred count : ℕ) → Adds times deferred was is → ((hook : Hook) → times hook ≤ items * 2 ^ 64) → deferred ≤ items → AreOfAtMost count was → AreOfAtMost (count + items) is
more_of was is times items deferred count adds few within at =
    record {
      tally = λ hook. let a = adds.tally hook in let b = few hook in let c = at.tally hook in omega arith;
      deferred = let a = adds.deferred_too in let b = at.deferred in omega arith;
    }

both_there : (b : Bool) (m n : ℕ) → cond b m 0 + cond b n 0 ≡ cond b (m + n) 0
both_there true m n = refl
both_there false m n = refl

-- the sums balance still, where what is added does
pub still_balance : (zone : ℕ) (was is : Sums) (times : Hook → ℕ) (deferred : ℕ) → Adds times deferred was is
    → ((other : ℕ) → other < 8 → ShowsSame (times (Ctor other)) (times (Dtor other) + cond (zone == other) deferred 0)) → Balance zone was → Balance zone is
still_balance zone was is times deferred adds each before other small =
    let b = zone == other in
    let ctors : sum_of is.tally (Ctor other) ≡ sum_of was.tally (Ctor other) + times (Ctor other) = adds.tally (Ctor other) in
    let dtors : sum_of is.tally (Dtor other) ≡ sum_of was.tally (Dtor other) + times (Dtor other) = adds.tally (Dtor other) in
    let held_open : cond b was.deferred 0 + cond b deferred 0 ≡ cond b is.deferred 0 = both_there b was.deferred deferred ∙ ap (λ (n : ℕ). cond b n 0) (sym adds.deferred_too) in
    let all = both_show _ _ _ _ (before other small) (each other small) in
    let total : sum_of was.tally (Dtor other) + cond b was.deferred 0 + (times (Dtor other) + cond b deferred 0) ≡ sum_of is.tally (Dtor other) + cond b is.deferred 0 = omega (arith, held_open, dtors) in
    ap (λ (n : ℕ). n % 2 ^ 64) ctors ∙ all ∙ ap (λ (n : ℕ). n % 2 ^ 64) total

nothing_there : (b : Bool) (m : ℕ) → m ≡ m + cond b 0 0
nothing_there true m = omega arith
nothing_there false m = omega arith

-- what is added where nothing is deferred
pub still_balance_cached : (zone : ℕ) (was is : Sums) (times : Hook → ℕ) → Adds times 0 was is
    → ((other : ℕ) → other < 8 → ShowsSame (times (Ctor other)) (times (Dtor other))) → Balance zone was → Balance zone is
still_balance_cached zone was is times adds each before =
    still_balance zone was is times 0 adds (λ other small. each other small ∙ ap (λ (n : ℕ). n % 2 ^ 64) (nothing_there (zone == other) (times (Dtor other)))) before

-- ---- two sums

pub few_joined : (was others is : Sums) (count more : ℕ) → Adds (sum_of others.tally) others.deferred was is → AreOfAtMost count was → AreOfAtMost more others → AreOfAtMost (count + more) is
few_joined was others is count more adds here there =
    record {
      tally = λ hook. let a = adds.tally hook in let b = here.tally hook in let c = there.tally hook in omega arith;
      deferred = let a = adds.deferred_too in let b = here.deferred in let c = there.deferred in omega arith;
    }

-- ---- the sums of nothing

no_zones : (zone : ℕ) → zone_sums (replicate 8 no_zone_sums) zone ≡ no_zone_sums
no_zones zone = elim (cases_lt zone 8) [
  | inl within ↦ get_or-replicate 8 zone no_zone_sums no_zone_sums within
  | inr past ↦ get_or_past (replicate 8 no_zone_sums) zone no_zone_sums past
]

pub none_passed : (hook : Hook) → sum_of nothing_held.tally hook ≡ 0
none_passed KegInit = refl
none_passed (ZoneInit zone) = ap (λ (s : ZoneTallySum). s.inits) (no_zones zone)
none_passed (Ctor zone) = ap (λ (s : ZoneTallySum). s.ctors) (no_zones zone)
none_passed (Dtor zone) = ap (λ (s : ZoneTallySum). s.dtors) (no_zones zone)
none_passed (ZoneFini zone) = ap (λ (s : ZoneTallySum). s.finis) (no_zones zone)
none_passed KegFini = refl

pub none_few : (sums : Sums) → sums ≡ nothing_held → (count : ℕ) → AreOfAtMost count sums
none_few sums none count =
    subst (λ (s : Sums). AreOfAtMost count s) (sym none) (record { tally = λ hook. let zero : sum_of nothing_held.tally hook ≡ 0 = none_passed hook in omega arith; deferred = omega arith })

pub none_balance : (sums : Sums) → sums ≡ nothing_held → (zone : ℕ) → Balance zone sums
none_balance sums none zone =
    subst (λ (s : Sums). Balance zone s) (sym none)
    (λ other small.
    let ctors : sum_of nothing_held.tally (Ctor other) ≡ 0 = none_passed (Ctor other) in
    let dtors : sum_of nothing_held.tally (Dtor other) ≡ 0 = none_passed (Dtor other) in
    ap (λ (n : ℕ). n % 2 ^ 64) (ctors ∙ sym dtors ∙ nothing_there (zone == other) (sum_of nothing_held.tally (Dtor other))))

-- the sums of few items are those of more
pub fewer : (sums : Sums) (few more : ℕ) → few ≤ more → AreOfAtMost few sums → AreOfAtMost more sums
fewer sums few more less at = record { tally = λ hook. let a = at.tally hook in omega arith; deferred = let a = at.deferred in omega arith }

-- ---- what calls answer, from what they add

pub is_nothing : (sums : Sums) → sums ≡ nothing_held → IsNothing sums
is_nothing sums none = record { none = none; few = none_few sums none; balance = none_balance sums none }

pub joins : (was others is : Sums) → Adds (sum_of others.tally) others.deferred was is → Joins was others is
joins was others is adds =
    record {
      adds = adds;
      few = λ count more here there. few_joined was others is count more adds here there;
      balance = λ zone here there. still_balance zone was is (sum_of others.tally) others.deferred adds there here;
    }

pub adds_items : (times : Hook → ℕ) (deferred items : ℕ) (tickets : List Ticket) (was is : Sums) → Adds times deferred was is
    → (Adds times deferred was is → (count : ℕ) → AreOfAtMost count was → AreOfAtMost (count + items) is)
    → (Adds times deferred was is → (home : Home) → AreHome home tickets → Balance home.zone was → Balance home.zone is)
    → AddsItems times deferred items tickets was is
adds_items times deferred items tickets was is adds few balance = record { adds = adds; few = few adds; balance = balance adds }
