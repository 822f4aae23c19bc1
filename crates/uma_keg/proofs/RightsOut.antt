-- A keg's rights, of which one more is issued.
use Rattle.std.proofs.Common.{◌≡◌, ℕ, zero, suc, ◌+◌, ◌-◌, ◌<◌, List, [], ◌∷◌, ◌++◌, Option, Some, None, map, replicate, set, refl, arith, append_assoc}
use Rattle.std.specs.List.{slice_get}
use Rattle.std.proofs.lemmas.List.{map-append}
use Rattle.deed_book.specs.declared.deed.Deed.{Deed}
use Rattle.deed_book.specs.Deed.{no_of}

-- the numbers below a number, from the greatest down to 0
unfoldable pub downward : ℕ → List ℕ
downward zero = []
downward (suc n) = n ∷ downward n

-- the map of a book of 8 of whose numbers so many, the greatest, are outside in zone 0
unfoldable pub rights_out : ℕ → List (Option ℕ)
rights_out out = replicate (8 - out) None ++ replicate out (Some 0)

pub right_home : (out : ℕ) → out < 8 → slice_get (rights_out out) (7 - out) ≡ Some None
unfolding rights_out
right_home zero below = refl
right_home (suc zero) below = refl
right_home (suc (suc zero)) below = refl
right_home (suc (suc (suc zero))) below = refl
right_home (suc (suc (suc (suc zero)))) below = refl
right_home (suc (suc (suc (suc (suc zero))))) below = refl
right_home (suc (suc (suc (suc (suc (suc zero)))))) below = refl
right_home (suc (suc (suc (suc (suc (suc (suc zero))))))) below = refl
right_home (suc (suc (suc (suc (suc (suc (suc (suc out)))))))) below = absurd (omega arith)

pub right_issued : (out : ℕ) → out < 8 → set (rights_out out) (7 - out) (Some 0) ≡ rights_out (out + 1)
unfolding rights_out
right_issued zero below = refl
right_issued (suc zero) below = refl
right_issued (suc (suc zero)) below = refl
right_issued (suc (suc (suc zero))) below = refl
right_issued (suc (suc (suc (suc zero)))) below = refl
right_issued (suc (suc (suc (suc (suc zero))))) below = refl
right_issued (suc (suc (suc (suc (suc (suc zero)))))) below = refl
right_issued (suc (suc (suc (suc (suc (suc (suc zero))))))) below = refl
right_issued (suc (suc (suc (suc (suc (suc (suc (suc out)))))))) below = absurd (omega arith)

pub right_next : (out : ℕ) → out < 8 → downward (8 - out) ≡ (7 - out) ∷ downward (8 - (out + 1))
unfolding downward
right_next zero below = refl
right_next (suc zero) below = refl
right_next (suc (suc zero)) below = refl
right_next (suc (suc (suc zero))) below = refl
right_next (suc (suc (suc (suc zero)))) below = refl
right_next (suc (suc (suc (suc (suc zero))))) below = refl
right_next (suc (suc (suc (suc (suc (suc zero)))))) below = refl
right_next (suc (suc (suc (suc (suc (suc (suc zero))))))) below = refl
right_next (suc (suc (suc (suc (suc (suc (suc (suc out)))))))) below = absurd (omega arith)

-- the list of rights, with the next one
pub right_listed : (out : ℕ) (rights now : List Deed) (right : Deed) (all : List ℕ) → out < 8 → now ≡ rights ++ right ∷ [] → no_of right ≡ 7 - out → map no_of rights ++ downward (8 - out) ≡ all → map no_of now ++ downward (8 - (out + 1)) ≡ all
right_listed out rights now right all below is number listed =
    rw (is, map-append no_of rights (right ∷ []), append_assoc, number, ← right_next out below) listed

pub none_out : rights_out 0 ≡ replicate 8 None
unfolding rights_out
none_out = refl

pub all_out : rights_out 8 ≡ replicate 8 (Some 0)
unfolding rights_out
all_out = refl

pub eight_down : downward 8 ≡ 7 ∷ 6 ∷ 5 ∷ 4 ∷ 3 ∷ 2 ∷ 1 ∷ 0 ∷ []
unfolding downward
eight_down = refl

pub none_down : downward 0 ≡ []
unfolding downward
none_down = refl
