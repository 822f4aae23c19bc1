-- The rights that come with a new keg, and those that a primary zone keeps.
use Rattle.std.proofs.Common.{◌≡◌, ◌<◌, ◌-◌, ℕ, List, [], ◌∷◌, ◌++◌, length, map, get_or, Some, rules, refl, sym, ap, ◌∙◌, subst, arith}
use Rattle.std.specs.List.{All, slice_get}
use Rattle.std.proofs.lemmas.List.{length-append, map-append}
use Rattle.std.proofs.lemmas.List.Elements.{All-nil, All-cons, All-head, All-tail, All-get_or}

-- two lists with one more element at the end
ends_same : (ms ns : List ℕ) (m n : ℕ) → ms ++ m ∷ [] ≡ ns ++ n ∷ [] → (m ≡ n) × (ms ≡ ns)
ends_same [] [] m n e = (cc, refl)
ends_same [] (y ∷ ns) m n e = absurd (omega (arith, ap length e, length-append ns (n ∷ [])))
ends_same (x ∷ ms) [] m n e = absurd (omega (arith, ap length e, length-append ms (m ∷ [])))
ends_same (x ∷ ms) (y ∷ ns) m n e =
    let head : x ≡ y = cc in
    let tail : ms ++ m ∷ [] ≡ ns ++ n ∷ [] = cc in
    let same = ends_same ms ns m n tail in
    (same.0, ap (λ (z : ℕ). z ∷ ms) head ∙ ap (λ (zs : List ℕ). y ∷ zs) same.1)

-- the number of the last right, and those of the rights before it
pub split_last : {X : Type 0} (f : X → ℕ) (xs : List X) (x : X) (ns : List ℕ) (n : ℕ) → map f (xs ++ x ∷ []) ≡ ns ++ n ∷ [] → (f x ≡ n) × (map f xs ≡ ns)
split_last f xs x ns n e = ends_same (map f xs) ns (f x) n (sym (map-append f xs (x ∷ [])) ∙ e)

-- what holds of what a function gives of each holds so of each
pub All-unmap : {X Y : Type 0} (P : Y → Type 0) (f : X → Y) (xs : List X) → All P (map f xs) → All (λ x. P (f x)) xs
All-unmap P f [] all = All-nil (λ x. P (f x))
All-unmap P f (x ∷ xs) all = All-cons (λ y. P (f y)) x xs (All-head P (f x) (map f xs) all) (All-unmap P f xs (All-tail P (f x) (map f xs) all))

seven_below : All (λ n. n < 8) (7 ∷ 6 ∷ 5 ∷ 4 ∷ 3 ∷ 2 ∷ 1 ∷ [])
seven_below = search (rules)

-- the seven rights that a primary zone keeps are to zones below eight
pub below_eight : {X : Type 0} (f : X → ℕ) (xs : List X) → map f xs ≡ 7 ∷ 6 ∷ 5 ∷ 4 ∷ 3 ∷ 2 ∷ 1 ∷ [] → All (λ x. f x < 8) xs
below_eight f xs e = All-unmap (λ n. n < 8) f xs (subst (All (λ n. n < 8)) (sym e) seven_below)

at_end : {X : Type 0} (ys : List X) (y : X) → slice_get (ys ++ y ∷ []) (length ys) ≡ Some y
at_end [] y = refl
at_end (x ∷ ys) y = at_end ys y

-- the last element is the one that goes
pub last_goes : {X : Type 0} (xs ys : List X) (x y : X) → xs ≡ ys ++ y ∷ [] → Some x ≡ slice_get xs (length xs - 1) → x ≡ y
last_goes xs ys x y e at =
    let n : length xs - 1 ≡ length ys = omega (arith, ap length e, length-append ys (y ∷ [])) in
    let same : Some x ≡ Some y = at ∙ ap (slice_get xs) n ∙ ap (λ (l : List _). slice_get l (length ys)) e ∙ at_end ys y in
    cc

-- the number of the last element is the last of the numbers, the others being those of the rest
pub next_goes : {X : Type 0} (f : X → ℕ) (all xs ys : List X) (x y : X) (n : ℕ) → xs ≡ ys ++ y ∷ [] → all ≡ xs → Some x ≡ slice_get all (length all - 1) → n ≡ f x → map f xs ≡ map f ys ++ n ∷ []
next_goes f all xs ys x y n e here at is =
    let last : Some x ≡ slice_get xs (length xs - 1) = at ∙ ap (λ (l : List _). slice_get l (length l - 1)) here in
    let own : n ≡ f y = is ∙ ap f (last_goes xs ys x y e last) in
    ap (map f) e ∙ map-append f ys (y ∷ []) ∙ ap (λ (m : ℕ). map f ys ++ m ∷ []) (sym own)

-- one more number, where one more right is kept
pub map_more : {X Y : Type 0} (f : X → ℕ) (h : Y → ℕ) (xs : List X) (ys : List Y) (x : X) (y : Y) → map f xs ≡ map h ys → f x ≡ h y → map f (xs ++ x ∷ []) ≡ map h (ys ++ y ∷ [])
map_more f h xs ys x y same here = map-append f xs (x ∷ []) ∙ ap (λ (l : List ℕ). l ++ f x ∷ []) same ∙ ap (λ (n : ℕ). map h ys ++ n ∷ []) here ∙ sym (map-append h ys (y ∷ []))

-- an item of a list
pub All-at : {X : Type 0} (P : X → Type 0) (xs : List X) (i : ℕ) (x : X) → All P xs → i < length xs → x ≡ get_or xs i x → P x
All-at P xs i x all within at = subst P (sym at) (All-get_or P xs i x within all)
