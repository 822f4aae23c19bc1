-- One entry of a list changes.
use Rattle.std.proofs.Common.{◌≡◌, ◌≢◌, ◌<◌, ℕ, zero, suc, List, [], ◌∷◌, ◌++◌, Some, length, map, slice_set, slice_index_or, refl, ap, sym, ◌∙◌, arith}
use Rattle.std.specs.List.{slice_get}
use Rattle.std.proofs.lemmas.List.{length-map}
use Rattle.std.proofs.lemmas.Option.{slice_get_within}

-- what an entry shows stays where the new entry shows the same
pub same_map : {X Y : Type 0} (f : X → Y) (xs : List X) (i : ℕ) (x y : X) → f y ≡ f (slice_index_or xs i x) → map f (slice_set xs i y) ≡ map f xs
same_map f [] i x y same = refl
same_map f (z ∷ xs) zero x y same = ap (λ v. v ∷ map f xs) same
same_map f (z ∷ xs) (suc i) x y same = ap (λ l. f z ∷ l) (same_map f xs i x y same)

this_entry : {X Y : Type 0} (f : X → Y) (xs : List X) (i : ℕ) (y : X) (d : Y) → i < length xs → slice_index_or (map f (slice_set xs i y)) i d ≡ f y
this_entry f [] i y d within = absurd (omega (arith, within))
this_entry f (z ∷ xs) zero y d within = refl
this_entry f (z ∷ xs) (suc i) y d within = this_entry f xs i y d (omega (arith, within))

entry : {X Y : Type 0} (f : X → Y) (xs : List X) (i : ℕ) (x : X) (d : Y) → i < length xs → slice_index_or (map f xs) i d ≡ f (slice_index_or xs i x)
entry f [] i x d within = absurd (omega (arith, within))
entry f (z ∷ xs) zero x d within = refl
entry f (z ∷ xs) (suc i) x d within = entry f xs i x d (omega (arith, within))

other : {X Y : Type 0} (f : X → Y) (xs : List X) (i at : ℕ) (y : X) (d : Y) → at ≢ i → slice_index_or (map f (slice_set xs i y)) at d ≡ slice_index_or (map f xs) at d
other f [] i at y d ne = refl
other f (z ∷ xs) zero zero y d ne = absurd (ne refl)
other f (z ∷ xs) zero (suc at) y d ne = refl
other f (z ∷ xs) (suc i) zero y d ne = refl
other f (z ∷ xs) (suc i) (suc at) y d ne = other f xs i at y d (λ e. ne (ap suc e))

-- the other entries show what they showed
pub other_entry : {X Y : Type 0} (f : X → Y) (xs : List X) (i zone at : ℕ) (y : X) (d : Y) → i ≡ zone → at ≢ zone → slice_index_or (map f (slice_set xs i y)) at d ≡ slice_index_or (map f xs) at d
other_entry f xs i zone at y d e ne = other f xs i at y d (λ here. ne (here ∙ e))

-- the entry's list has one more
pub more_entry : {X C : Type 0} (f : X → List C) (xs : List X) (i zone : ℕ) (x y : X) (c : C) → i ≡ zone → zone < length xs → f y ≡ f (slice_index_or xs i x) ++ c ∷ [] → slice_index_or (map f (slice_set xs i y)) zone [] ≡ slice_index_or (map f xs) zone [] ++ c ∷ []
more_entry {X} {C} f xs i zone x y c e within more =
    let here : i < length xs = omega (arith, e, within) in
    let now : slice_index_or (map f (slice_set xs i y)) zone [] ≡ f y = ap (λ (n : ℕ). slice_index_or (map f (slice_set xs i y)) n []) (sym e) ∙ this_entry f xs i y [] here in
    let was : slice_index_or (map f xs) zone [] ≡ f (slice_index_or xs i x) = ap (λ (n : ℕ). slice_index_or (map f xs) n []) (sym e) ∙ entry f xs i x [] here in
    now ∙ more ∙ ap (λ (l : List C). l ++ c ∷ []) (sym was)

-- an entry that is there has a place within the list
pub within_map : {X Y : Type 0} (f : X → Y) (xs : List X) (i : ℕ) (y : Y) → slice_get (map f xs) i ≡ Some y → i < length xs
within_map f xs i y at = omega (arith, slice_get_within (map f xs) i y at, length-map xs f)

this_get : {X Y : Type 0} (f : X → Y) (xs : List X) (i : ℕ) (x : X) → i < length xs → slice_get (map f xs) i ≡ Some (f (slice_index_or xs i x))
this_get f [] i x within = absurd (omega (arith, within))
this_get f (z ∷ xs) zero x within = refl
this_get f (z ∷ xs) (suc i) x within = this_get f xs i x (omega (arith, within))

-- an entry within the list is there, and shows what it shows
pub entry_there : {X Y : Type 0} (f : X → Y) (xs : List X) (i zone : ℕ) (x : X) (y : Y) → i ≡ zone → zone < length xs → y ≡ f (slice_index_or xs i x) → slice_get (map f xs) zone ≡ Some y
entry_there {X} {Y} f xs i zone x y e within shows =
    let here : i < length xs = omega (arith, e, within) in
    ap (λ (n : ℕ). slice_get (map f xs) n) (sym e) ∙ this_get f xs i x here ∙ ap (λ (z : Y). Some z) (sym shows)
