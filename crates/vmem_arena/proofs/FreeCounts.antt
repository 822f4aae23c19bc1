-- What is counted of the free and taken ranges.
use Rattle.std.proofs.Common.{◌≡◌, ℕ, ◌+◌, ◌<◌, ◌≤◌, Bool, true, false, not, cond, nat_le, ◌&&◌, List, [], ◌∷◌, ◌++◌, find, Some, None, if◌then◌else◌, refl, ap, sym, subst, ◌∙◌, arith}
use Rattle.std.specs.List.{AllByRecursion}
use Rattle.std.proofs.lemmas.Bool.Decides.{nat_tests}
use Rattle.std.proofs.lemmas.List.Elements.{All-from_recursion}
use Rattle.vmem_arena.specs.declared.free.Range.{Range}
use Rattle.vmem_arena.specs.declared.free.Fit.{Fit}
use Rattle.vmem_arena.specs.Fits.{is_before, passing, Ascend, largest_size}
use Rattle.vmem_arena.specs.Kept.{fit_of, free_passing}
use Rattle.vmem_arena.specs.Tags.{range_end, free_size, free_total, greatest_free}
use Rattle.vmem_arena.specs.Take.{IsNoBetter, IsBestFit}
use Rattle.vmem_arena.proofs.FitOrder.{is_fit}
use Rattle.vmem_arena.proofs.FitLists.{passing-append, none_passing, around}
use Rattle.vmem_arena.specs.Steps.{AreFits, BeginFrom, BeginBelow, Spaced}

pub free_total-append : (xs ys : List Range) → free_total (xs ++ ys) ≡ free_total xs + free_total ys
free_total-append [] ys = omega arith
free_total-append (x ∷ xs) ys = omega (arith, free_total-append xs ys)

zero_cond : (b : Bool) (n : ℕ) → cond b 1 0 + n ≡ 0 → b ≡ false
zero_cond true n h = absurd (omega arith)
zero_cond false n h = refl

zero_rest : (b : Bool) (n : ℕ) → cond b 1 0 + n ≡ 0 → n ≡ 0
zero_rest true n h = absurd (omega arith)
zero_rest false n h = omega arith

-- none passes
pub none_each : {X : Type 0} (test : X → Bool) (xs : List X) → passing test xs ≡ 0 → AllByRecursion (λ x. test x ≡ false) xs
none_each test [] h = tt
none_each test (x ∷ xs) h = (zero_cond (test x) _ h, none_each test xs (zero_rest (test x) _ h))

pub each_weaker : {X : Type 0} (P Q : X → Type 0) → ((x : X) → P x → Q x) → (xs : List X) → AllByRecursion P xs → AllByRecursion Q xs
each_weaker P Q f [] h = tt
each_weaker P Q f (x ∷ xs) h = (f x h.0, each_weaker P Q f xs h.1)

-- ---- the first fit that is as large
pub record Found (test : Fit → Bool) (fits : List Fit) (f : Fit) : Type 0 where
  pub before : List Fit
  pub after : List Fit
  pub is : fits ≡ before ++ f ∷ after
  pub none : passing test before ≡ 0
  pub passes : test f ≡ true

found_cases : (test : Fit → Bool) (b : Bool) (x : Fit) (xs : List Fit) (f : Fit) → test x ≡ b → (find test xs ≡ Some f → Found test xs f) → cond b (Some x) (find test xs) ≡ Some f → Found test (x ∷ xs) f
found_cases test true x xs f e later is =
    let same : x ≡ f = cc is in
    record { before = []; after = xs; is = ap (λ y. y ∷ xs) same; none = refl; passes = subst (λ y. test y ≡ true) same e }
found_cases test false x xs f e later is =
    let h = later is in
    record { before = x ∷ h.before; after = h.after; is = ap (λ l. x ∷ l) h.is; none = rw e (omega (arith, h.none)); passes = h.passes }

pub found : (test : Fit → Bool) (xs : List Fit) (f : Fit) → find test xs ≡ Some f → Found test xs f
found test [] f is = cc is
found test (x ∷ xs) f is = found_cases test (test x) x xs f refl (found test xs f) is

missed_cases : (test : Fit → Bool) (b : Bool) (x : Fit) (xs : List Fit) → test x ≡ b → (find test xs ≡ None → passing test xs ≡ 0) → cond b (Some x) (find test xs) ≡ None → passing test (x ∷ xs) ≡ 0
missed_cases test true x xs e later is = cc is
missed_cases test false x xs e later is = rw e (omega (arith, later is))

pub missed : (test : Fit → Bool) (xs : List Fit) → find test xs ≡ None → passing test xs ≡ 0
missed test [] is = refl
missed test (x ∷ xs) is = missed_cases test (test x) x xs refl (missed test xs) is

abbrev pub holds : ℕ → Fit → Bool
holds n f = nat_le n f.size

abbrev better : ℕ → Fit → Fit → Bool
better n f y = holds n y && is_before y f

better_holds : (n : ℕ) (f y : Fit) → better n f y ≡ true → holds n y ≡ true
better_holds n f y h = grind (arith, nat_tests)

better_before : (n : ℕ) (f y : Fit) → better n f y ≡ true → is_before y f ≡ true
better_before n f y h = grind (arith, nat_tests)

itself_not : (n : ℕ) (f : Fit) → better n f f ≡ false
itself_not n f = grind (arith, nat_tests)

-- none is as large and before the first that is as large
none_better : (n : ℕ) (fits : List Fit) (f : Fit) → Ascend fits → Found (holds n) fits f → passing (better n f) fits ≡ 0
none_better n fits f s h =
    let a = around h.before f h.after (subst Ascend h.is s) in
    let l = none_passing (better n f) (holds n) (better_holds n f) h.before h.none in
    let r = none_passing (better n f) (λ y. is_before y f) (better_before n f) h.after a.high in
    let e = passing-append (better n f) h.before (f ∷ h.after) in
    let m = itself_not n f in
    rw h.is (rw m at e ∙ omega (arith, l, r))

-- ---- the range of a fit
pub one_at_least : {X : Type 0} (test : X → Bool) (before : List X) (f : X) (after : List X) → test f ≡ true → 1 ≤ passing test (before ++ f ∷ after)
one_at_least test before f after t =
    let e = passing-append test before (f ∷ after) in
    let g = rw t at e in
    omega (arith, g)

abbrev free_test : (Fit → Bool) → Range → Bool
free_test test r = not r.taken && test (fit_of r)

base_of : (k : Fit) (r : Range) → free_test (is_fit k) r ≡ true → r.base ≡ k.base
base_of k r h = grind (arith, nat_tests)

none_below : (k : Fit) (rs : List Range) → BeginBelow k.base rs → free_passing (is_fit k) rs ≡ 0
none_below k [] h = refl
none_below k (r ∷ rs) h =
    let low = h.0 in
    let n : free_test (is_fit k) r ≡ false = false_unless (free_test (is_fit k) r) (λ t. let e = base_of k r t in omega arith) in
    rw n (omega (arith, none_below k rs h.1))
  where
    false_unless : (b : Bool) → (b ≡ true → ⊥) → b ≡ false
    false_unless true h = absurd (h refl)
    false_unless false h = refl

none_behind : (k : Fit) (rs : List Range) → BeginFrom (k.base + 1) rs → free_passing (is_fit k) rs ≡ 0
none_behind k [] h = refl
none_behind k (r ∷ rs) h =
    let high = h.0 in
    let n : free_test (is_fit k) r ≡ false = false_unless (free_test (is_fit k) r) (λ t. let e = base_of k r t in omega arith) in
    rw n (omega (arith, none_behind k rs h.1))
  where
    false_unless : (b : Bool) → (b ≡ true → ⊥) → b ≡ false
    false_unless true h = absurd (h refl)
    false_unless false h = refl

pub record IsRangeOf (k : Fit) (r : Range) : Type 0 where
  pub free : r.taken ≡ false
  pub size : r.size ≡ k.size
  pub base : r.base ≡ k.base

range_by : (k : Fit) (r : Range) (b : Bool) → free_test (is_fit k) r ≡ b → 1 ≤ cond b 1 0 → IsRangeOf k r
range_by k r true e h =
    record { free = grind (arith, nat_tests); size = grind (arith, nat_tests); base = base_of k r e }
range_by k r false e h = absurd (omega arith)

-- the range that begins where a fit does is that fit's
pub range_of_fit : (fits : List Fit) (pre : List Range) (r : Range) (post : List Range) (k : Fit) → AreFits fits (pre ++ r ∷ post) → BeginBelow r.base pre → BeginFrom (r.base + 1) post → 1 ≤ passing (is_fit k) fits → r.base ≡ k.base → IsRangeOf k r
range_of_fit fits pre r post k same low high some e =
    let a = passing-append (free_test (is_fit k)) pre (r ∷ post) in
    let l = none_below k pre (subst (λ n. BeginBelow n pre) e low) in
    let h = none_behind k post (subst (λ n. BeginFrom (n + 1) post) e high) in
    range_by k r (free_test (is_fit k) r) refl (omega (arith, a, l, h, same (is_fit k), some))

-- ---- the best fit
no_better : (n : ℕ) (f : Fit) (r s : Range) → IsRangeOf f r → free_test (better n f) s ≡ false → IsNoBetter n r s
no_better n f r s is h holds =
    let free = holds.free in
    let large = holds.holds in
    let size = is.size in
    let base = is.base in
    (grind (arith, nat_tests), λ e. grind (arith, nat_tests))

pub best_fit : (n : ℕ) (fits : List Fit) (ranges : List Range) (f : Fit) (r : Range) → Ascend fits → AreFits fits ranges → find (holds n) fits ≡ Some f → IsRangeOf f r → IsBestFit ranges n r
best_fit n fits ranges f r s same is of =
    let h = found (holds n) fits f is in
    let none = sym (same (better n f)) ∙ none_better n fits f s h in
    let each = none_each (free_test (better n f)) ranges none in
    let passes = h.passes in
    let size = of.size in
    record {
      holds = record { free = of.free; holds = grind (arith, nat_tests) };
      others = All-from_recursion (IsNoBetter n r) ranges (each_weaker _ (IsNoBetter n r) (λ s e. no_better n f r s of e) ranges each);
    }

-- ---- the largest
less_than : (n : ℕ) (fits : List Fit) → 0 < n → passing (holds n) fits ≡ 0 → largest_size fits < n
less_than n [] p h = omega arith
less_than n (f ∷ fs) p h =
    let t = zero_cond (holds n f) _ h in
    let l : f.size < n = grind (arith, nat_tests) in
    omega (arith, less_than n fs p (zero_rest (holds n f) _ h))

none_of_less : (n : ℕ) (fits : List Fit) → largest_size fits < n → passing (holds n) fits ≡ 0
none_of_less n [] h = refl
none_of_less n (f ∷ fs) h =
    let l : f.size < n = omega arith in
    let t : holds n f ≡ false = grind (arith, nat_tests) in
    rw t (omega (arith, none_of_less n fs (omega arith)))

free_less_by : (n : ℕ) (r : Range) (taken : Bool) → 0 < n → (not taken && nat_le n r.size) ≡ false → (if taken then 0 else r.size) < n
free_less_by n r true p h = p
free_less_by n r false p h = grind (arith, nat_tests)

pub greatest_less : (n : ℕ) (rs : List Range) → 0 < n → free_passing (holds n) rs ≡ 0 → greatest_free rs < n
greatest_less n [] p h = omega arith
greatest_less n (r ∷ rs) p h =
    let l = free_less_by n r r.taken p (zero_cond (free_test (holds n) r) _ h) in
    omega (arith, l, greatest_less n rs p (zero_rest (free_test (holds n) r) _ h))

none_free_by : (n : ℕ) (r : Range) (taken : Bool) → (if taken then 0 else r.size) < n → (not taken && nat_le n r.size) ≡ false
none_free_by n r true h = refl
none_free_by n r false h = grind (arith, nat_tests)

none_of_greatest : (n : ℕ) (rs : List Range) → greatest_free rs < n → free_passing (holds n) rs ≡ 0
none_of_greatest n [] h = refl
none_of_greatest n (r ∷ rs) h =
    let t : free_test (holds n) r ≡ false = none_free_by n r r.taken (omega arith) in
    rw t (omega (arith, none_of_greatest n rs (omega arith)))

pub largest_is : (fits : List Fit) (ranges : List Range) → AreFits fits ranges → largest_size fits ≡ greatest_free ranges
largest_is fits ranges same =
    let a = largest_size fits in
    let b = greatest_free ranges in
    let l = greatest_less (a + 1) ranges (omega arith) (sym (same (holds (a + 1))) ∙ none_of_less (a + 1) fits (omega arith)) in
    let g = less_than (b + 1) fits (omega arith) (same (holds (b + 1)) ∙ none_of_greatest (b + 1) ranges (omega arith)) in
    omega (arith, l, g)

-- no free range is as large
pub none_fits : (n : ℕ) (fits : List Fit) (ranges : List Range) → 0 < n → AreFits fits ranges → find (holds n) fits ≡ None → greatest_free ranges < n
none_fits n fits ranges p same is = greatest_less n ranges p (sym (same (holds n)) ∙ missed (holds n) fits is)

-- a free range is at most as large as the largest
pub free_le_greatest : (pre : List Range) (r : Range) (post : List Range) → r.taken ≡ false → r.size ≤ greatest_free (pre ++ r ∷ post)
free_le_greatest [] r post f =
    let e : free_size r ≡ r.size = rw f refl in
    omega (arith, e)
free_le_greatest (x ∷ pre) r post f = omega (arith, free_le_greatest pre r post f)

-- and as all that is free
pub free_le_total : (pre : List Range) (r : Range) (post : List Range) → r.taken ≡ false → r.size ≤ free_total (pre ++ r ∷ post)
free_le_total pre r post f =
    let e : free_size r ≡ r.size = rw f refl in
    omega (arith, free_total-append pre (r ∷ post), e)

-- what is free lies behind the first base and below the last end
pub total_within : (e most : ℕ) (rs : List Range) → BeginFrom e rs → Spaced rs → AllByRecursion (λ r. range_end r ≤ most) rs → e ≤ most → free_total rs + e ≤ most
total_within e most [] b s m l = omega arith
total_within e most (r ∷ rs) b s m l =
    let low = b.0 in
    let end = m.0 in
    let h = total_within (range_end r) most rs s.1 s.2 m.1 end in
    let f : free_size r ≤ r.size = free_size_le r.size r.taken in
    omega (arith, h, f)
  where
    free_size_le : (n : ℕ) (taken : Bool) → (if taken then 0 else n) ≤ n
    free_size_le n true = omega arith
    free_size_le n false = omega arith
