-- A room all of whose items pass the test of one kind: their list is as long as the room, and its last is the one that lies last.
use Rattle.std.proofs.Common.{◌≡◌, ◌<◌, ℕ, suc, List, [], ◌∷◌, ◌++◌, length, Bool, true, false, ◌&&◌, not, Option, Some, None, refl, sym, ap, ◌∙◌, get_or, arith}
use Rattle.std.specs.Prelude.{is_some}
use Rattle.std.specs.List.{filter_map, list_all, cons_option}
use Rattle.std.proofs.lemmas.List.Elements.{filter_map-append}
use Rattle.std.proofs.lemmas.List.Folds.{list_all-append}
use Rattle.std.proofs.lemmas.List.Sums.{AllPass-from_list_all}
use Rattle.uma_life.specs.declared.states.Outside.{Outside}
use Rattle.uma_life.specs.Outside.{is_live, cached_where, live_where}
use Rattle.uma_bucket.specs.Room.{is_cached, is_freed, cached_in, freed_in, freed_of}

-- a test passes exactly where a part is there
pub record Tests {X A : Type 0} (test : X → Bool) (part : X → Option A) : Type 0 where
  pub agree : (x : X) → is_some (part x) ≡ test x

cached_agree : {T : Type 0} {g : _} (x : Outside T g) (built : Bool) (is : is_live x ≡ built) → is_some (cached_where x built is) ≡ not built
cached_agree x true is = refl
cached_agree x false is = refl

freed_agree : {T : Type 0} {g : _} (x : Outside T g) (built : Bool) (is : is_live x ≡ built) → is_some (freed_of (live_where x built is)) ≡ built
freed_agree x true is = refl
freed_agree x false is = refl

pub cached_tests : {T : Type 0} {g : _} → Tests {X = Outside T g} is_cached cached_in
cached_tests = record { agree = λ x. cached_agree x (is_live x) refl }

pub freed_tests : {T : Type 0} {g : _} → Tests {X = Outside T g} is_freed freed_in
freed_tests = record { agree = λ x. freed_agree x (is_live x) refl }

one_more : {A : Type 0} (o : Option A) (here rest : Bool) (xs : List A) → is_some o ≡ here → (here && rest) ≡ true → (rest ≡ true) × (length (cons_option o xs) ≡ suc (length xs))
one_more None true rest xs agree all = absurd (cc)
one_more None false rest xs agree all = absurd (cc)
one_more (Some x) true rest xs agree all = (all, refl)
one_more (Some x) false rest xs agree all = absurd (cc)

-- how many there are
pub count : {X A : Type 0} (test : X → Bool) (part : X → Option A) → Tests test part → (xs : List X) → list_all test xs ≡ true → length (filter_map part xs) ≡ length xs
count test part tests [] all = refl
count test part tests (x ∷ xs) all =
    let more = one_more (part x) (test x) (list_all test xs) (filter_map part xs) (tests.agree x) all in
    more.1 ∙ ap suc (count test part tests xs more.0)

none_of : {X : Type 0} (xs : List X) → length xs ≡ 0 → xs ≡ []
none_of [] none = refl
none_of (x ∷ xs) none = absurd (omega (arith, none))

-- where none is listed none is there
pub none_there : {X A : Type 0} (test : X → Bool) (part : X → Option A) → Tests test part → (xs : List X) → list_all test xs ≡ true → filter_map part xs ≡ [] → xs ≡ []
none_there test part tests xs all none = none_of xs (sym (count test part tests xs all) ∙ ap length none)

pub all_push : {X : Type 0} (test : X → Bool) (xs : List X) (x : X) → list_all test xs ≡ true → test x ≡ true → list_all test (xs ++ x ∷ []) ≡ true
all_push test xs x all here = rw (list_all-append test xs (x ∷ []), all, here) refl

pub part_pop : {X A : Type 0} (part : X → Option A) (xs ys : List X) (x is : X) → xs ≡ ys ++ x ∷ [] → x ≡ is → filter_map part xs ≡ filter_map part ys ++ cons_option (part is) []
part_pop part xs ys x is was same = rw (was, same) (filter_map-append part ys (is ∷ []))

pub at_place : {X : Type 0} (test : X → Bool) (xs : List X) (i : ℕ) (x : X) → list_all test xs ≡ true → i < length xs → x ≡ get_or xs i x → test x ≡ true
at_place test xs i x all within there = ap test there ∙ AllPass-from_list_all test xs all i x within

both_pass : (a b : Bool) → (a && b) ≡ true → (a ≡ true) × (b ≡ true)
both_pass true true both = (refl, refl)
both_pass true false both = absurd (cc)
both_pass false b both = absurd (cc)

pub first_passes : {X : Type 0} (test : X → Bool) (x : X) (xs : List X) → list_all test (x ∷ xs) ≡ true → (test x ≡ true) × (list_all test xs ≡ true)
first_passes test x xs all = both_pass (test x) (list_all test xs) all

-- what lies last passes too
pub last_passes : {X : Type 0} (test : X → Bool) (xs ys : List X) (x : X) → xs ≡ ys ++ x ∷ [] → list_all test xs ≡ true → test x ≡ true
last_passes test xs ys x is all =
    let front : list_all test (ys ++ x ∷ []) ≡ (list_all test ys && list_all test (x ∷ [])) = list_all-append test ys (x ∷ []) in
    let both = both_pass (list_all test ys) (list_all test (x ∷ [])) (sym front ∙ ap (list_all test) (sym is) ∙ all) in
    (both_pass (test x) true both.1).0

pub isnt_live : (built : Bool) → not built ≡ true → built ≡ false
isnt_live true is = absurd (cc)
isnt_live false is = refl
