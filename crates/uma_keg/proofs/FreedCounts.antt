-- How many slabs are wholly free, before and after one is given up, and how many are given up at once.
use Rattle.std.proofs.Common.{◌≡◌, ◌≢◌, ◌≤◌, ◌<◌, ◌+◌, ◌-◌, ◌*◌, ◌/◌, ◌%◌, ◌^◌, ◌⊎◌, ◌&&◌, ◌==◌, ℕ, zero, suc, Bool, true, false, nat_lt, min, Option, Some, None, is_some, refl, inl, inr, arith, sym, ap, ◌∙◌, eq-eqb}
use Rattle.std.specs.Prelude.{if◌then◌else◌}
use Rattle.std.proofs.lemmas.Bool.{cases_eq, cases_lt, cases_Bool}
use Rattle.std.proofs.lemmas.Bool.Decides.{nat_tests}
use Rattle.std.proofs.lemmas.Nat.{div_below, le-div, div-mul-add, div-add-mod'}
use Rattle.std.proofs.Math.Nat.{mod-lt}
use Rattle.uma_keg.specs.KegLaw.{is_free_place}
use Rattle.uma_slabs.specs.Places.{KegPlaces, place_at, domain_at, free_count}
use Rattle.uma_slabs.specs.Dropping.{IsWhollyFree, IsUsedUp, HasNoneWhollyFree, Drops}
use Rattle.uma_keg.specs.Tallies.{sum_below}
use Rattle.uma_keg.specs.FreeSlabs.{count_below, free_places, is_wholly_free, wholly_free_count, slabs_to_free}

-- ---- how many numbers pass a test

count_all : (test : ℕ → Bool) (n : ℕ) → ((i : ℕ) → i < n → test i ≡ true) → count_below test n ≡ n
unfolding sum_below
count_all test zero all = refl
count_all test (suc n) all =
    let rest : count_below test n ≡ n = count_all test n (λ i low. all i (omega arith)) in
    rw (all n (omega arith)) (omega (arith, rest))

count_none : (test : ℕ → Bool) (n : ℕ) → ((i : ℕ) → i < n → test i ≡ false) → count_below test n ≡ 0
unfolding sum_below
count_none test zero none = refl
count_none test (suc n) none =
    let rest : count_below test n ≡ 0 = count_none test n (λ i low. none i (omega arith)) in
    rw (none n (omega arith)) (omega (arith, rest))

count_few : (test : ℕ → Bool) (n : ℕ) → count_below test n ≤ n
unfolding sum_below
count_few test zero = omega arith
count_few test (suc n) = elim (cases_Bool (test n)) [
  | inl holds ↦ rw holds (omega (arith, count_few test n))
  | inr fails ↦ rw fails (omega (arith, count_few test n))
]

all_counted : (test : ℕ → Bool) (n : ℕ) → count_below test n ≡ n → (i : ℕ) → i < n → test i ≡ true
unfolding sum_below
all_counted test zero all i low = absurd (omega (arith, low))
all_counted test (suc n) all i low = elim (cases_Bool (test n)) [
  | inl holds ↦
      let total = rw holds at all in
      let rest : count_below test n ≡ n = omega (arith, total) in
      elim (cases_eq i n) [ inl at ↦ rw at holds | inr other ↦ all_counted test n rest i (omega (arith, low, other)) ]
  | inr fails ↦
      let total = rw fails at all in
      absurd (omega (arith, total, count_few test n))
]

count_some : (test : ℕ → Bool) (n i : ℕ) → i < n → test i ≡ true → 1 ≤ count_below test n
unfolding sum_below
count_some test zero i low holds = absurd (omega (arith, low))
count_some test (suc n) i low holds = elim (cases_eq i n) [
  | inl at ↦ let here : test n ≡ true = ap test (sym at) ∙ holds in rw here (omega arith)
  | inr other ↦ omega (arith, count_some test n i (omega (arith, low, other)) holds)
]

count_same : (f h : ℕ → Bool) (n : ℕ) → ((i : ℕ) → i < n → f i ≡ h i) → count_below f n ≡ count_below h n
unfolding sum_below
count_same f h zero same = refl
count_same f h (suc n) same =
    let rest : count_below f n ≡ count_below h n = count_same f h n (λ i low. same i (omega arith)) in
    let one : Bool → ℕ = λ b. if b then 1 else 0 in
    omega (arith, rest, ap one (same n (omega arith)))

-- one number passes no more
count_less : (f h : ℕ → Bool) (n at : ℕ) → at < n → f at ≡ true → h at ≡ false → ((i : ℕ) → i ≢ at → h i ≡ f i) → count_below f n ≡ count_below h n + 1
unfolding sum_below
count_less f h zero at low holds fails others = absurd (omega (arith, low))
count_less f h (suc n) at low holds fails others =
    let one : Bool → ℕ = λ b. if b then 1 else 0 in
    elim (cases_eq at n) [
      | inl same ↦
          let rest : count_below h n ≡ count_below f n = count_same h f n (λ i below. others i (λ e. omega (arith, below, same, e))) in
          omega (arith, rest, ap one (ap f (sym same) ∙ holds), ap one (ap h (sym same) ∙ fails))
      | inr other ↦
          let rest : count_below f n ≡ count_below h n + 1 = count_less f h n at (omega (arith, low, other)) holds fails others in
          omega (arith, rest, ap one (others n (λ e. other (sym e))))
    ]

-- ---- the wholly free slabs

both_true : (a b : Bool) → (a && b) ≡ true → (a ≡ true) × (b ≡ true)
both_true true true e = (refl, refl)
both_true true false e = absurd cc
both_true false b e = absurd cc

and_true : (a b : Bool) → a ≡ true → b ≡ true → (a && b) ≡ true
and_true a b holds too = rw (holds, too) refl

same_number : (m n : ℕ) → (m == n) ≡ true → m ≡ n
same_number m n e = grind (arith, nat_tests)

some_true : (o : Option Bool) → is_free_place o ≡ true → o ≡ Some true
some_true None e = absurd cc
some_true (Some true) e = refl
some_true (Some false) e = absurd cc

whole_is : (k : KegPlaces) (index : ℕ) → IsWhollyFree k index → is_wholly_free k index ≡ true
unfolding free_places
whole_is k index whole =
    let all : free_places k index ≡ k.per_slab = count_all (λ place. is_free_place (place_at k (index * k.per_slab + place))) k.per_slab
    (λ place low. ap is_free_place (whole.free (index * k.per_slab + place) (div-mul-add index k.per_slab place low))) in
    and_true (is_some (domain_at k index)) (free_places k index == k.per_slab) whole.is_in (eq-eqb (free_places k index) k.per_slab all)

whole_of : (k : KegPlaces) (index : ℕ) → 1 ≤ k.per_slab → is_wholly_free k index ≡ true → IsWhollyFree k index
unfolding free_places
whole_of k index some is =
    let both = both_true (is_some (domain_at k index)) (free_places k index == k.per_slab) is in
    let all : free_places k index ≡ k.per_slab = same_number (free_places k index) k.per_slab both.1 in
    record {
      is_in = both.0;
      free = λ n at.
          let place = n % k.per_slab in
          let low : place < k.per_slab = mod-lt n some in
          let here = all_counted (λ p. is_free_place (place_at k (index * k.per_slab + p))) k.per_slab all place low in
          let number : index * k.per_slab + place ≡ n = ap (λ i. i * k.per_slab + place) (sym at) ∙ div-add-mod' n k.per_slab in
          some_true (place_at k n) (ap (λ m. is_free_place (place_at k m)) (sym number) ∙ here);
    }

not_in : (o : Option ℕ) (b : Bool) → o ≡ None → (is_some o && b) ≡ false
not_in o b none = rw none refl

same_places : (old new : KegPlaces) (index other : ℕ) → Drops old index new → other ≢ index → free_places new other ≡ free_places old other
unfolding free_places
same_places old new index other drops apart =
    ap (λ p. count_below (λ place. is_free_place (place_at new (other * p + place))) p) drops.per_slab
    ∙ (count_same (λ place. is_free_place (place_at new (other * old.per_slab + place))) (λ place. is_free_place (place_at old (other * old.per_slab + place))) old.per_slab
    (λ place low. ap is_free_place (drops.other_places (other * old.per_slab + place) (λ at. apart (sym (div-mul-add other old.per_slab place low) ∙ at)))))

same_test : (old new : KegPlaces) (index other : ℕ) → Drops old index new → other ≢ index → is_wholly_free new other ≡ is_wholly_free old other
same_test old new index other drops apart =
    let domain : domain_at new other ≡ domain_at old other = drops.other_slabs other apart in
    let places : free_places new other ≡ free_places old other = same_places old new index other drops apart in
    let size : new.per_slab ≡ old.per_slab = drops.per_slab in
    rw (domain, places, size) refl

-- one slab fewer is wholly free once one is given up
pub one_fewer : (old new : KegPlaces) (index : ℕ) → Drops old index new → wholly_free_count old ≡ wholly_free_count new + 1
unfolding wholly_free_count
one_fewer old new index drops =
    count_less (is_wholly_free old) (is_wholly_free new) old.cap index drops.within (whole_is old index drops.whole)
    (not_in (domain_at new index) (free_places new index == new.per_slab) drops.absent)
    (λ other apart. same_test old new index other drops apart)
    ∙ ap (λ n. count_below (is_wholly_free new) n + 1) (sym drops.cap)

none_whole : (k : KegPlaces) → 1 ≤ k.per_slab → HasNoneWhollyFree k → wholly_free_count k ≡ 0
unfolding wholly_free_count
none_whole k some none = count_none (is_wholly_free k) k.cap (λ index low. elim (cases_Bool (is_wholly_free k index)) [
  | inl holds ↦ absurd (none index (whole_of k index some holds))
  | inr fails ↦ fails
])

-- ---- how many are given up at once

-- what the giving up comes to, by numbers
record Ends (p free left reserve whole rest count : ℕ) : Type 0 where
  pub some : 1 ≤ p
  pub free_fewer : left + count * p ≡ free
  pub whole_fewer : whole ≡ rest + count
  pub kept : 0 < count → reserve ≤ left
  pub stops : (rest ≡ 0) ⊎ (left < reserve + p)

least : (p free left reserve whole rest count : ℕ) → Ends p free left reserve whole rest count → count ≡ min ((free - reserve) / p) whole
least p free left reserve whole rest count ends =
    let enough : count ≤ (free - reserve) / p = elim (cases_lt 0 count) [
      | inl some ↦ le-div count (free - reserve) p ends.some (omega (arith, ends.kept some, ends.free_fewer))
      | inr none ↦ omega arith
    ] in
    elim ends.stops [
      | inl none ↦ omega (arith, enough, none, ends.whole_fewer)
      | inr short ↦
          let next : (count + 1) * p ≡ count * p + p = omega arith in
          let no_more : (free - reserve) / p < count + 1 = div_below (free - reserve) p (count + 1) ends.some (omega (arith, next, short, ends.free_fewer, ends.some)) in
          omega (arith, enough, no_more, ends.whole_fewer)
    ]

-- what is known where no further slab is given up
pub record Stops (old new : KegPlaces) (reserve count : ℕ) : Type 0 where
  pub some : 1 ≤ old.per_slab
  pub per_slab : new.per_slab ≡ old.per_slab
  pub cap : new.cap ≡ old.cap
  pub made : new.made ≡ old.made
  pub free_fewer : free_count new + count * old.per_slab ≡ free_count old
  pub whole_fewer : wholly_free_count old ≡ wholly_free_count new + count
  pub kept : 0 < count → reserve ≤ free_count new
  pub used_up : IsUsedUp old → count ≡ 0
  pub no_more : IsUsedUp new ⊎ (HasNoneWhollyFree new ⊎ (free_count new < reserve + new.per_slab))

pub freed_count : (old new : KegPlaces) (reserve count : ℕ) → Stops old new reserve count → count ≡ slabs_to_free old reserve
unfolding slabs_to_free
freed_count old new reserve count stops = elim (cases_Bool (nat_lt (2 ^ 40 - old.cap) old.made)) [
  | inl is ↦ rw is (stops.used_up (is_below (2 ^ 40 - old.cap) old.made is))
  | inr not_used_up ↦ rw not_used_up
      (least old.per_slab (free_count old) (free_count new) reserve (wholly_free_count old) (wholly_free_count new) count (record {
        some = stops.some;
        free_fewer = stops.free_fewer;
        whole_fewer = stops.whole_fewer;
        kept = stops.kept;
        stops = elim stops.no_more [
          | inl used_up ↦ absurd (not_below (2 ^ 40 - old.cap) old.made not_used_up (omega (arith, used_up, stops.cap, stops.made)))
          | inr either ↦ elim either [
            | inl none ↦ inl (none_whole new (omega (arith, stops.some, stops.per_slab)) none)
            | inr short ↦ inr (omega (arith, short, stops.per_slab))
          ]
        ];
      }))
]
  where
    is_below : (m n : ℕ) → nat_lt m n ≡ true → m < n
    is_below m n e = grind (arith, nat_tests)

    not_below : (m n : ℕ) → nat_lt m n ≡ false → m < n → ⊥
    not_below m n e less = grind (arith, nat_tests)
