-- Sums over what a test picks, on plain lists.
use Rattle.std.proofs.Common.{◌≡◌, ℕ, zero, suc, ◌+◌, ◌*◌, ◌<◌, ◌≤◌, List, [], ◌∷◌, map, Bool, true, false, cond, Option, None, Some, refl, sym, ap, ◌∙◌, subst, arith, length, drop, get_or, zero-le}
use Rattle.std.proofs.Math.Nat.{suc-mul}
use Rattle.std.proofs.Math.Seq.{drop-cons}
use Rattle.std.proofs.Math.ListN.{drop_of_length-le}
use Rattle.std.proofs.lemmas.List.Sums.{sum_by-cons}
use Rattle.std.proofs.lemmas.Option.{same_Some, none-some}
use Rattle.std.specs.Prelude.{slice_get}
use Rattle.std.specs.List.{sum_by, filter_map, cons_option}
use Rattle.std.specs.Option.{option_map_or}
use Rattle.uma_life.specs.Trail.{ShowsSame}
use Rattle.uma_bucket.proofs.Tallied.{both_show}
use Rattle.replay_rounds.specs.Picking.{picked}
use Rattle.replay_rounds.proofs.Modulo.{shows_as}

-- ---- plain numbers

shift : (z n : ℕ) → z + 1 + n ≡ z + suc n
shift z n = omega arith

here : (z : ℕ) → z + 0 ≡ z
here z = omega arith

regroup : (a b c d : ℕ) → a + b + (c + d) ≡ a + c + (b + d)
regroup a b c d = omega arith

not_zero : (n : ℕ) → suc n ≡ 0 → ⊥
not_zero n e = omega arith

not_suc : (n : ℕ) → 0 ≡ suc n → ⊥
not_suc n e = omega arith

one_less : (m n : ℕ) → suc m ≡ suc n → m ≡ n
one_less m n e = omega arith

none_plus : (a b : ℕ) → a ≡ 0 → b ≡ 0 → a + b ≡ 0
none_plus a b p q = omega arith

plus_none : (a b c : ℕ) → a ≡ c → b ≡ 0 → a + b ≡ c
plus_none a b c p q = omega arith

none_and : (a b c : ℕ) → a ≡ 0 → b ≡ c → a + b ≡ c
none_and a b c p q = omega arith

le_three : (a b c x y z : ℕ) → a ≤ b + c → x ≤ y + z → a + x ≤ b + y + (c + z)
le_three a b c x y z p q = omega arith

le_from : (a b c d : ℕ) → a ≡ b + c → c ≤ d → a ≤ b + d
le_from a b c d p q = omega arith

one_times : (n m a b : ℕ) → a ≤ m → b ≤ n * m → a + b ≤ suc n * m
one_times n m a b p q = rw suc-mul (rest n m a b p q)
  where
    rest : (n m a b : ℕ) → a ≤ m → b ≤ n * m → a + b ≤ n * m + m
    rest n m a b p q = omega arith

less_length : (n m : ℕ) → suc n ≡ suc m → n ≡ m
less_length n m e = omega arith

-- ---- what is picked

-- nothing
pub picked_none : {A B : Type 0} (test : ℕ → A → Bool) (term : B → ℕ) (z : ℕ) (ls : List A) (bs : List B) → ((n : ℕ) (a : A) → slice_get ls n ≡ Some a → test (z + n) a ≡ false) → picked test term z ls bs ≡ 0
unfolding picked
picked_none test term z [] bs never = refl
picked_none test term z (a ∷ ls) [] never = refl
picked_none {A} test term z (a ∷ ls) (b ∷ bs) never =
    let at : test z a ≡ false = ap (λ (m : ℕ). test m a) (sym (here z)) ∙ never 0 a refl in
    none_plus (cond (test z a) (term b) 0) (picked test term (z + 1) ls bs) (ap (λ (t : Bool). cond t (term b) 0) at)
    (picked_none test term (z + 1) ls bs (λ n x is. ap (λ (m : ℕ). test m x) (shift z n) ∙ never (suc n) x is))

false_of : (t : Bool) → (t ≡ true → ⊥) → t ≡ false
false_of true not = absurd (not refl)
false_of false not = refl

-- one place alone
pub picked_one : {A B : Type 0} (test : ℕ → A → Bool) (term : B → ℕ) (z : ℕ) (ls : List A) (bs : List B) (n : ℕ) (a : A) (b : B) → slice_get ls n ≡ Some a → slice_get bs n ≡ Some b → test (z + n) a ≡ true
    → ((m : ℕ) (x : A) → slice_get ls m ≡ Some x → test (z + m) x ≡ true → m ≡ n) → picked test term z ls bs ≡ term b
unfolding picked
picked_one test term z [] bs n a b is_a is_b holds only = absurd (none-some a is_a)
picked_one test term z (x ∷ ls) [] n a b is_a is_b holds only = absurd (none-some b is_b)
picked_one {A} {B} test term z (x ∷ ls) (y ∷ bs) zero a b is_a is_b holds only =
    let at : test z x ≡ true = ap (λ (v : A). test z v) (same_Some x a is_a) ∙ ap (λ (m : ℕ). test m a) (sym (here z)) ∙ holds in
    plus_none (cond (test z x) (term y) 0) (picked test term (z + 1) ls bs) (term b) (ap (λ (t : Bool). cond t (term y) 0) at ∙ ap term (same_Some y b is_b))
    (picked_none test term (z + 1) ls bs (λ m v is. false_of (test (z + 1 + m) v) (λ t. not_zero m (only (suc m) v is (ap (λ (k : ℕ). test k v) (sym (shift z m)) ∙ t)))))
picked_one {A} {B} test term z (x ∷ ls) (y ∷ bs) (suc n) a b is_a is_b holds only =
    let at : test z x ≡ false = false_of (test z x) (λ t. not_suc n (only 0 x refl (ap (λ (m : ℕ). test m x) (here z) ∙ t))) in
    none_and (cond (test z x) (term y) 0) (picked test term (z + 1) ls bs) (term b) (ap (λ (t : Bool). cond t (term y) 0) at)
    (picked_one test term (z + 1) ls bs n a b is_a is_b (ap (λ (m : ℕ). test m a) (shift z n) ∙ holds) (λ m v is t. one_less m n (only (suc m) v is (ap (λ (k : ℕ). test k v) (sym (shift z m)) ∙ t))))

shows_if : (t u : Bool) (c d e : ℕ) → ShowsSame c (d + cond u e 0) → ShowsSame (cond t c 0) (cond t d 0 + cond (cond t u false) e 0)
shows_if true u c d e same = same
shows_if false u c d e same = refl

-- Two sums that are equal modulo 2^64 but for a third: so are the terms, one by one.
pub picked_shows : {A B : Type 0} (test other : ℕ → A → Bool) (c d e : B → ℕ) (z : ℕ) (ls : List A) (bs : List B)
    → ((n : ℕ) (a : A) (b : B) → slice_get ls n ≡ Some a → slice_get bs n ≡ Some b → ShowsSame (c b) (d b + cond (other (z + n) a) (e b) 0))
    → ShowsSame (picked test c z ls bs) (picked test d z ls bs + picked (λ n a. cond (test n a) (other n a) false) e z ls bs)
unfolding picked
picked_shows test other c d e z [] bs each = refl
picked_shows test other c d e z (a ∷ ls) [] each = refl
picked_shows {A} {B} test other c d e z (a ∷ ls) (b ∷ bs) each =
    let P : ℕ → Type 0 = λ m. ShowsSame (c b) (d b + cond (other m a) (e b) 0) in
    let first = shows_if (test z a) (other z a) (c b) (d b) (e b) (subst P (here z) (each 0 a b refl refl)) in
    let rest = picked_shows test other c d e (z + 1) ls bs (λ n x y is_x is_y.
    let Q : ℕ → Type 0 = λ m. ShowsSame (c y) (d y + cond (other m x) (e y) 0) in
    subst Q (sym (shift z n)) (each (suc n) x y is_x is_y)) in
    let both = λ (n : ℕ) (v : A). cond (test n v) (other n v) false in
    let C = picked test c (z + 1) ls bs in
    let D = picked test d (z + 1) ls bs in
    let E = picked both e (z + 1) ls bs in
    let t : Bool = test z a in
    let u : Bool = both z a in
    shows_as (cond t (c b) 0 + C) (cond t (d b) 0 + cond u (e b) 0 + (D + E)) (cond t (c b) 0 + C) (cond t (d b) 0 + D + (cond u (e b) 0 + E)) refl (regroup (cond t (d b) 0) (cond u (e b) 0) D E)
    (both_show (cond t (c b) 0) (cond t (d b) 0 + cond u (e b) 0) C (D + E) first rest)

-- the next place of a list
next_of : {X : Type 0} (xs : List X) (i : ℕ) (d : X) → i < length xs → drop i xs ≡ get_or xs i d ∷ drop (i + 1) xs
next_of {X} xs i d below = drop-cons xs i d below ∙ ap (λ (n : ℕ). get_or xs i d ∷ drop n xs) (next i)
  where
    next : (i : ℕ) → suc i ≡ i + 1
    next i = omega arith

pub picked_next : {A B : Type 0} (test : ℕ → A → Bool) (term : B → ℕ) (ls : List A) (bs : List B) (i : ℕ) (a : A) (b : B) → i < length ls → i < length bs
    → picked test term i (drop i ls) (drop i bs) ≡ cond (test i (get_or ls i a)) (term (get_or bs i b)) 0 + picked test term (i + 1) (drop (i + 1) ls) (drop (i + 1) bs)
unfolding picked
picked_next {A} {B} test term ls bs i a b below also =
    ap (λ (l : List A). picked test term i l (drop i bs)) (next_of ls i a below) ∙ ap (λ (l : List B). picked test term i (get_or ls i a ∷ drop (i + 1) ls) l) (next_of bs i b also)

pub picked_past : {A B : Type 0} (test : ℕ → A → Bool) (term : B → ℕ) (ls : List A) (bs : List B) (i : ℕ) → length ls ≤ i → picked test term i (drop i ls) bs ≡ 0
unfolding picked
picked_past {A} test term ls bs i past = ap (λ (l : List A). picked test term i l bs) (drop_of_length-le ls past)

-- ---- sums over the lines of a keg

-- of these lines, the terms at the places that the test picks
unfoldable pub kegged : {A : Type 0} → (ℕ → A → Bool) → (ℕ → ℕ) → ℕ → List A → ℕ
kegged test term z [] = 0
kegged test term z (a ∷ ls) = cond (test z a) (term z) 0 + kegged test term (z + 1) ls

le_if : (t : Bool) (a b c : ℕ) → a ≤ b + c → cond t a 0 ≤ cond t b 0 + cond t c 0
le_if true a b c le = le
le_if false a b c le = zero-le

pub kegged_le : {A B : Type 0} (test : ℕ → A → Bool) (whole part other : ℕ → ℕ) (term : B → ℕ) (z : ℕ) (ls : List A) (bs : List B) → length bs ≡ length ls → ((n : ℕ) → whole n ≡ part n + other n)
    → ((n : ℕ) (b : B) → slice_get bs n ≡ Some b → other (z + n) ≤ term b) → kegged test whole z ls ≤ kegged test part z ls + picked test term z ls bs
unfolding picked kegged
kegged_le test whole part other term z [] bs same is each = zero-le
kegged_le test whole part other term z (a ∷ ls) [] same is each = absurd (not_suc (length ls) same)
kegged_le test whole part other term z (a ∷ ls) (b ∷ bs) same is each =
    let P : ℕ → Type 0 = λ m. other m ≤ term b in
    let Q : (n : ℕ) (y : _) → slice_get bs n ≡ Some y → other (z + 1 + n) ≤ term y = λ n y at. (let R : ℕ → Type 0 = λ m. other m ≤ term y in subst R (sym (shift z n)) (each (suc n) y at)) in
    le_three (cond (test z a) (whole z) 0) (cond (test z a) (part z) 0) (cond (test z a) (term b) 0) (kegged test whole (z + 1) ls) (kegged test part (z + 1) ls) (picked test term (z + 1) ls bs)
    (le_if (test z a) (whole z) (part z) (term b) (le_from (whole z) (part z) (other z) (term b) (is z) (subst P (here z) (each 0 b refl))))
    (kegged_le test whole part other term (z + 1) ls bs (less_length (length bs) (length ls) same) is Q)

few_if : (t : Bool) (a m : ℕ) → a ≤ m → cond t a 0 ≤ m
few_if true a m le = le
few_if false a m le = zero-le

pub kegged_few : {A : Type 0} (test : ℕ → A → Bool) (term : ℕ → ℕ) (m z : ℕ) (ls : List A) → ((n : ℕ) → term n ≤ m) → kegged test term z ls ≤ length ls * m
unfolding kegged
kegged_few test term m z [] each = zero-le
kegged_few test term m z (a ∷ ls) each = one_times (length ls) m (cond (test z a) (term z) 0) (kegged test term (z + 1) ls) (few_if (test z a) (term z) m (each z)) (kegged_few test term m (z + 1) ls each)

-- ---- sums of terms

-- two lists whose terms are the same, one by one
pub sum_same : {X : Type 0} (f : X → ℕ) (xs ys : List X) → length ys ≡ length xs → ((n : ℕ) (x y : X) → slice_get xs n ≡ Some x → slice_get ys n ≡ Some y → f y ≡ f x) → sum_by f ys ≡ sum_by f xs
sum_same f [] [] same each = refl
sum_same f [] (y ∷ ys) same each = absurd (not_zero (length ys) same)
sum_same f (x ∷ xs) [] same each = absurd (not_suc (length xs) same)
sum_same {X} f (x ∷ xs) (y ∷ ys) same each =
    let rest = sum_same f xs ys (less_length (length ys) (length xs) same) (λ n a b. each (suc n) a b) in
    sum_by-cons f y ys ∙ ap (λ (n : ℕ). n + sum_by f ys) (each 0 x y refl refl) ∙ ap (λ (n : ℕ). f x + n) rest ∙ sym (sum_by-cons f x xs)

-- a sum of sums
pub sum_plus : {X : Type 0} (f g : X → ℕ) (xs : List X) → sum_by (λ x. f x + g x) xs ≡ sum_by f xs + sum_by g xs
sum_plus f g [] = refl
sum_plus f g (x ∷ xs) =
    sum_by-cons (λ x. f x + g x) x xs ∙ ap (λ (n : ℕ). f x + g x + n) (sum_plus f g xs) ∙ regroup (f x) (g x) (sum_by f xs) (sum_by g xs)
    ∙ ap (λ (n : ℕ). n + (g x + sum_by g xs)) (sym (sum_by-cons f x xs)) ∙ ap (λ (n : ℕ). sum_by f (x ∷ xs) + n) (sym (sum_by-cons g x xs))

-- the terms of a list, seen through a map
pub sum_through : {X Y : Type 0} (f : X → ℕ) (g : Y → ℕ) (v : X → Y) (xs : List X) → ((x : X) → f x ≡ g (v x)) → sum_by f xs ≡ sum_by g (map v xs)
sum_through f g v [] each = refl
sum_through f g v (x ∷ xs) each =
    sum_by-cons f x xs ∙ ap (λ (n : ℕ). n + sum_by f xs) (each x) ∙ ap (λ (n : ℕ). g (v x) + n) (sum_through f g v xs each) ∙ sym (sum_by-cons g (v x) (map v xs))

none_first : (n : ℕ) → n ≡ 0 + n
none_first n = omega arith

sum_option : {Y : Type 0} (f : Y → ℕ) (o : Option Y) (ys : List Y) → sum_by f (cons_option o ys) ≡ option_map_or f o 0 + sum_by f ys
sum_option f None ys = none_first (sum_by f ys)
sum_option f (Some y) ys = sum_by-cons f y ys

-- the terms of what a list gives
pub sum_filtered : {X Y : Type 0} (h : X → Option Y) (f : Y → ℕ) (xs : List X) → sum_by f (filter_map h xs) ≡ sum_by (λ x. option_map_or f (h x) 0) xs
sum_filtered h f [] = refl
sum_filtered h f (x ∷ xs) =
    sum_option f (h x) (filter_map h xs) ∙ ap (λ (n : ℕ). option_map_or f (h x) 0 + n) (sum_filtered h f xs) ∙ sym (sum_by-cons (λ v. option_map_or f (h v) 0) x xs)

-- terms that are at most so great
pub sum_few : {X : Type 0} (f : X → ℕ) (m : ℕ) (xs : List X) → ((n : ℕ) (x : X) → slice_get xs n ≡ Some x → f x ≤ m) → sum_by f xs ≤ length xs * m
sum_few f m [] each = zero-le
sum_few f m (x ∷ xs) each =
    let P : ℕ → Type 0 = λ n. n ≤ suc (length xs) * m in
    subst P (sym (sum_by-cons f x xs)) (one_times (length xs) m (f x) (sum_by f xs) (each 0 x refl) (sum_few f m xs (λ n y at. each (suc n) y at)))
