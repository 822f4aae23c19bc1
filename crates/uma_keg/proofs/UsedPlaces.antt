-- The numbers that are out by a keg's places are those that are outside by its book.
use Rattle.std.proofs.Common.{◌≡◌, ◌<◌, ◌+◌, ◌*◌, ◌/◌, ℕ, zero, suc, Bool, true, false, not, cond, List, [], ◌∷◌, Option, Some, None, is_some, length, get_or, sum_by, count_by, refl, arith, sym, ap, ◌∙◌}
use Rattle.std.proofs.lemmas.List.Sums.{sum_by-cons}
use Rattle.std.proofs.lemmas.Option.{slice_get-get_or}
use Rattle.uma_keg.specs.declared.home_items.HomeItems.{HomeItems}
use Rattle.uma_slabs.specs.Places.{KegPlaces, Slab, slab_at, place_at, places_by, out_count}
use Rattle.uma_keg.specs.KegLaw.{PlacesLaw, is_used_place}
use Rattle.uma_keg.specs.Tallies.{sum_below}
use Rattle.uma_slabs.specs.UsedPlaces.{AreEven}
use Rattle.uma_slabs.proofs.Slabs.{place_at-absent, place_at-number, slab_of-number}
use Rattle.uma_keg.proofs.TallyLaws.{sum_below-more, sum_below-none}

-- sums over the numbers below one

sum_same : (f h : ℕ → ℕ) (n : ℕ) → ((i : ℕ) → i < n → f i ≡ h i) → sum_below f n ≡ sum_below h n
unfolding sum_below
sum_same f h zero same = refl
sum_same f h (suc n) same =
    let rest = sum_same f h n (λ i below. same i (omega (arith, below))) in
    omega (arith, rest, same n (omega arith))

sum_front : (f : ℕ → ℕ) (n : ℕ) → sum_below f (suc n) ≡ f 0 + sum_below (λ i. f (suc i)) n
unfolding sum_below
sum_front f zero = omega arith
sum_front f (suc n) = omega (arith, sum_front f n)

sum_zeros : (f : ℕ → ℕ) (n : ℕ) → ((i : ℕ) → i < n → f i ≡ 0) → sum_below f n ≡ 0
unfolding sum_below
sum_zeros f zero none = refl
sum_zeros f (suc n) none = omega (arith, sum_zeros f n (λ i below. none i (omega (arith, below))), none n (omega arith))

-- a list's sum is that over its indices
sum_listed : {X : Type 0} (f : X → ℕ) (d : X) (xs : List X) → sum_by f xs ≡ sum_below (λ i. f (get_or xs i d)) (length xs)
sum_listed f d [] = sym (sum_below-none (λ i. f (get_or [] i d)))
sum_listed f d (x ∷ xs) =
    let front = sum_front (λ i. f (get_or (x ∷ xs) i d)) (length xs) in
    let rest = sum_listed f d xs in
    omega (arith, sum_by-cons f x xs, front, rest)

sum_split : (f : ℕ → ℕ) (m p : ℕ) → sum_below f (m + p) ≡ sum_below f m + sum_below (λ j. f (m + j)) p
sum_split f m zero = let same : m + 0 ≡ m = omega arith in ap (sum_below f) same ∙ omega (arith, sum_below-none (λ j. f (m + j)))
sum_split f m (suc p) =
    let next : m + suc p ≡ m + p + 1 = omega arith in
    let one : suc p ≡ p + 1 = omega arith in
    ap (sum_below f) next ∙ sum_below-more f (m + p) ∙ omega (arith, sum_split f m p, sum_below-more (λ j. f (m + j)) p) ∙ ap (λ q. sum_below f m + sum_below (λ j. f (m + j)) q) (sym one)

-- by slabs
sum_by_slabs : (f : ℕ → ℕ) (c p : ℕ) → sum_below f (c * p) ≡ sum_below (λ i. sum_below (λ j. f (i * p + j)) p) c
sum_by_slabs f zero p = let none : 0 * p ≡ 0 = omega arith in ap (sum_below f) none ∙ sum_below-none f ∙ sym (sum_below-none (λ i. sum_below (λ j. f (i * p + j)) p))
sum_by_slabs f (suc c) p =
    let next : suc c * p ≡ c * p + p = omega arith in
    let one : suc c ≡ c + 1 = omega arith in
    ap (sum_below f) next ∙ sum_split f (c * p) p ∙ ap (λ m. m + sum_below (λ j. f (c * p + j)) p) (sum_by_slabs f c p) ∙ sym (sum_below-more (λ i. sum_below (λ j. f (i * p + j)) p) c) ∙ ap (sum_below (λ i. sum_below (λ j. f (i * p + j)) p)) (sym one)

abbrev used_at : KegPlaces → ℕ → ℕ
used_at k n = cond (is_used_place (place_at k n)) 1 0

used_of : (b : Bool) → is_used_place (Some b) ≡ not b
used_of true = refl
used_of false = refl

-- the used places of a slab
slab_used : (k : KegPlaces) → AreEven k → (i : ℕ) (o : Option Slab) → slab_at k i ≡ o → sum_below (λ j. used_at k (i * k.per_slab + j)) k.per_slab ≡ places_by not o
slab_used k even i None is = sum_zeros (λ j. used_at k (i * k.per_slab + j)) k.per_slab (λ j below.
    let absent : slab_at k ((i * k.per_slab + j) / k.per_slab) ≡ None = rw (slab_of-number k.per_slab i j below) is in
    ap (λ (place : Option Bool). cond (is_used_place place) 1 0) (place_at-absent k (i * k.per_slab + j) absent))
slab_used k even i (Some s) is =
    let long = even.places i s is in
    let each : (j : ℕ) → j < k.per_slab → used_at k (i * k.per_slab + j) ≡ cond (not (get_or s.free j true)) 1 0 = λ j below.
    ap (λ (place : Option Bool). cond (is_used_place place) 1 0) (place_at-number k i j s is below ∙ slice_get-get_or s.free j true (omega (arith, long, below)))
    ∙ ap (λ (b : Bool). cond b 1 0) (used_of (get_or s.free j true)) in
    sum_same (λ j. used_at k (i * k.per_slab + j)) (λ j. cond (not (get_or s.free j true)) 1 0) k.per_slab each
    ∙ ap (sum_below (λ j. cond (not (get_or s.free j true)) 1 0)) (sym long)
    ∙ sym (sum_listed (λ (b : Bool). cond (not b) 1 0) true s.free)

pub out_by_places : (k : KegPlaces) → AreEven k → sum_below (used_at k) (k.cap * k.per_slab) ≡ out_count k
unfolding out_count
out_by_places k even =
    sum_by_slabs (used_at k) k.cap k.per_slab
    ∙ sum_same (λ i. sum_below (λ j. used_at k (i * k.per_slab + j)) k.per_slab) (λ i. places_by not (get_or k.slabs i None)) k.cap (λ i below. slab_used k even i (slab_at k i) refl)
    ∙ ap (sum_below (λ i. places_by not (get_or k.slabs i None))) (sym even.indices)
    ∙ sym (sum_listed (places_by not) None k.slabs)

pub out_by_book : {T : Type 0} {g : _} (places : KegPlaces) (zones : List (Option ℕ)) (home_items : HomeItems T g) → PlacesLaw places zones home_items → AreEven places → count_by is_some zones ≡ out_count places
out_by_book places zones home_items law even =
    sum_listed (λ (o : Option ℕ). cond (is_some o) 1 0) None zones
    ∙ sum_same (λ n. cond (is_some (get_or zones n None)) 1 0) (used_at places) (length zones) (λ n below. ap (λ (b : Bool). cond b 1 0) (law.outside n))
    ∙ ap (sum_below (used_at places)) law.numbers
    ∙ out_by_places places even
