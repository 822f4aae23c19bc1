-- The lines of a keg among the first ones of a list, and with one line more.
use Rattle.std.proofs.Common.{◌≡◌, ◌≢◌, ℕ, zero, suc, ◌+◌, ◌-◌, ◌<◌, ◌≤◌, List, [], ◌∷◌, ◌++◌, Option, None, Some, Bool, true, false, cond, inl, inr, ◌⊎◌, refl, sym, ap, ◌∙◌, arith, length, take, eq-eqb}
use Rattle.std.proofs.lemmas.Bool.{ne_eqb}
use Rattle.std.proofs.lemmas.List.{take-append-le, length-append, same_from_push}
use Rattle.std.proofs.Math.Seq.{take-append_seam}
use Rattle.std.proofs.lemmas.List.Sums.{sum_by-cons, sum_by_push, sum_by-take-le}
use Rattle.std.proofs.lemmas.Option.{none-some, same_Some, slice_get_within}
use Rattle.std.specs.Prelude.{◌==◌, slice_get}
use Rattle.std.specs.Option.{option_map_or}
use Rattle.trace_text.specs.declared.trace.ZoneHead.{ZoneHead}
use Rattle.trace_text.specs.Valid.{sharer_count}
use Rattle.replay_rounds.specs.Kegs.{index_of, rights_after}
use Rattle.replay_rounds.proofs.Lists.{no_sum}

-- a secondary zone's parent stands before it
abbrev pub Earlier : List ZoneHead → Type 0
Earlier lines = (z : ℕ) (line : ZoneHead) (parent : ℕ) → slice_get lines z ≡ Some line → line.parent ≡ Some parent → parent < z

-- 1 where the line is one of a secondary zone over the zone at this place
abbrev pub shares_of : ℕ → Option ℕ → ℕ
shares_of place parent = cond (option_map_or (λ p. p == place) parent false) 1 0

abbrev of_line : ℕ → ZoneHead → ℕ
of_line place line = shares_of place line.parent

eq_self : (n : ℕ) → (n == n) ≡ true
eq_self n = eq-eqb n n refl

shares_none : (place : ℕ) (parent : Option ℕ) → parent ≡ None → shares_of place parent ≡ 0
shares_none place parent is = ap (shares_of place) is

shares_same : (place : ℕ) (parent : Option ℕ) → parent ≡ Some place → shares_of place parent ≡ 1
shares_same place parent is = ap (shares_of place) is ∙ ap (λ (b : Bool). cond b 1 0) (eq_self place)

shares_other : (place p : ℕ) (parent : Option ℕ) → parent ≡ Some p → p ≢ place → shares_of place parent ≡ 0
shares_other place p parent is apart = ap (shares_of place) is ∙ ap (λ (b : Bool). cond b 1 0) (ne_eqb p place apart)

count_push : (lines : List ZoneHead) (line : ZoneHead) (place : ℕ) → sharer_count (lines ++ line ∷ []) place ≡ sharer_count lines place + shares_of place line.parent
count_push lines line place = sum_by_push (of_line place) lines line

same_sum : {a b c : ℕ} → a ≡ b + c → c ≡ 0 → a ≡ b
same_sum e f = omega arith

more_sum : (a b c : ℕ) → a ≡ b + c → c ≡ 1 → a ≡ b + 1
more_sum a b c e f = omega arith

-- a line of a primary zone shares no keg
pub count_primary : (lines : List ZoneHead) (line : ZoneHead) (place : ℕ) → line.parent ≡ None → sharer_count (lines ++ line ∷ []) place ≡ sharer_count lines place
count_primary lines line place is = same_sum (count_push lines line place) (shares_none place line.parent is)

-- one of a secondary zone shares its parent's
pub count_parent : (lines : List ZoneHead) (line : ZoneHead) (place : ℕ) → line.parent ≡ Some place → sharer_count (lines ++ line ∷ []) place ≡ sharer_count lines place + 1
count_parent lines line place is = more_sum _ _ _ (count_push lines line place) (shares_same place line.parent is)

pub count_other : (lines : List ZoneHead) (line : ZoneHead) (place p : ℕ) → line.parent ≡ Some p → p ≢ place → sharer_count (lines ++ line ∷ []) place ≡ sharer_count lines place
count_other lines line place p is apart = same_sum (count_push lines line place) (shares_other place p line.parent is apart)

-- no more zones share a keg in the first lines than in all
pub count_take : (lines : List ZoneHead) (count place : ℕ) → sharer_count (take count lines) place ≤ sharer_count lines place
count_take lines count place = sum_by-take-le (of_line place) lines count

-- no line has a parent of this place
abbrev NoParent : ℕ → List ZoneHead → Type 0
NoParent place lines = (z : ℕ) (line : ZoneHead) → slice_get lines z ≡ Some line → line.parent ≡ Some place → ⊥

shares_never : (place : ℕ) (parent : Option ℕ) → (parent ≡ Some place → ⊥) → shares_of place parent ≡ 0
shares_never place None never = refl
shares_never place (Some p) never = ap (λ (b : Bool). cond b 1 0) (ne_eqb p place (λ (same : p ≡ place). never (ap Some same)))

count_none : (place : ℕ) (lines : List ZoneHead) → NoParent place lines → sharer_count lines place ≡ 0
count_none place [] none = refl
count_none place (line ∷ lines) none =
    no_sum (sum_by-cons (of_line place) line lines) (shares_never place line.parent (none zero line refl)) (count_none place lines (λ z l at. none (suc z) l at))

not_below_own : {a b n : ℕ} → a < n → b < a → n ≤ b → ⊥
not_below_own e f g = omega arith

-- no line has a parent that stands behind all
pub count_behind : (lines : List ZoneHead) (place : ℕ) → Earlier lines → length lines ≤ place → sharer_count lines place ≡ 0
count_behind lines place earlier behind =
    count_none place lines (λ z line at is. not_below_own (slice_get_within lines z line at) (earlier z line place at is) behind)

-- ---- the number of a zone in its keg

pub index_none : (lines : List ZoneHead) (z : ℕ) (line : ZoneHead) → line.parent ≡ None → index_of lines z line ≡ 0
index_none lines z line is = ap (λ (o : Option ℕ). option_map_or (λ parent. sharer_count (take z lines) parent + 1) o 0) is

-- earlier lines keep theirs
pub index_before : (lines : List ZoneHead) (more : ZoneHead) (z : ℕ) (line : ZoneHead) → z ≤ length lines → index_of (lines ++ more ∷ []) z line ≡ index_of lines z line
index_before lines more z line within = ap (λ (first : List ZoneHead). option_map_or (λ parent. sharer_count first parent + 1) line.parent 0) (take-append-le z lines (more ∷ []) within)

-- a new line's is the count of its sharers so far, and one
pub index_last : (lines : List ZoneHead) (line : ZoneHead) (parent : ℕ) → line.parent ≡ Some parent → index_of (lines ++ line ∷ []) (length lines) line ≡ sharer_count lines parent + 1
index_last lines line parent is =
    ap (λ (o : Option ℕ). option_map_or (λ p. sharer_count (take (length lines) (lines ++ line ∷ [])) p + 1) o 0) is
    ∙ ap (λ (first : List ZoneHead). sharer_count first parent + 1) (take-append_seam lines (line ∷ []))

-- ---- the first lines of a list

pub at_of_take : {X : Type 0} (count : ℕ) (xs : List X) (z : ℕ) (x : X) → slice_get (take count xs) z ≡ Some x → slice_get xs z ≡ Some x
at_of_take zero xs z x is = absurd (none-some x is)
at_of_take (suc count) [] z x is = is
at_of_take (suc count) (y ∷ xs) zero x is = is
at_of_take (suc count) (y ∷ xs) (suc z) x is = at_of_take count xs z x is

suc_more : (n : ℕ) → suc n + 1 ≡ suc (n + 1)
suc_more n = omega arith

pub take_next : {X : Type 0} (xs : List X) (count : ℕ) (x : X) → slice_get xs count ≡ Some x → take (count + 1) xs ≡ take count xs ++ x ∷ []
take_next [] count x is = absurd (none-some x is)
take_next (y ∷ xs) zero x is = ap (λ (v : _). v ∷ []) (same_Some y x is)
take_next (y ∷ xs) (suc count) x is = ap (λ (n : ℕ). take n (y ∷ xs)) (suc_more count) ∙ ap (λ (ys : List _). y ∷ ys) (take_next xs count x is)

-- ---- the rights that a keg keeps

-- the next right is the last one, and where seven were used there is none
abbrev Next : ℕ → Type 0
Next count = (rights_after count ≡ rights_after (count + 1) ++ (count + 1) ∷ []) ⊎ ((rights_after count ≡ []) × (7 ≤ count))

nothing_left : (n : ℕ) → 7 - suc (suc (suc (suc (suc (suc (suc n)))))) ≡ 0
nothing_left n = omega arith

past_seven : (n : ℕ) → 7 ≤ suc (suc (suc (suc (suc (suc (suc n))))))
past_seven n = omega arith

abbrev take_rights : ℕ → List ℕ
take_rights k = take k (7 ∷ 6 ∷ 5 ∷ 4 ∷ 3 ∷ 2 ∷ 1 ∷ [])

next : (count : ℕ) → Next count
next zero = inl refl
next (suc zero) = inl refl
next (suc (suc zero)) = inl refl
next (suc (suc (suc zero))) = inl refl
next (suc (suc (suc (suc zero)))) = inl refl
next (suc (suc (suc (suc (suc zero))))) = inl refl
next (suc (suc (suc (suc (suc (suc zero)))))) = inl refl
next (suc (suc (suc (suc (suc (suc (suc n))))))) = inr (ap take_rights (nothing_left n), past_seven n)

no_end : (rest : List ℕ) (right : ℕ) → [] ≡ rest ++ right ∷ [] → ⊥
no_end rest right e = absurd (omega (arith, ap length e, length-append rest (right ∷ [])))

-- the right that a keg gives next, and those that it keeps then
pub right_given : (count : ℕ) (rest : List ℕ) (right : ℕ) → rights_after count ≡ rest ++ right ∷ [] → (right ≡ count + 1) × (rest ≡ rights_after (count + 1))
right_given count rest right e = elim (next count) [
  | inl more ↦
      let parts = same_from_push rest (rights_after (count + 1)) right (count + 1) (sym e ∙ more) in
      (parts.1, parts.0)
  | inr none ↦ absurd (no_end rest right (sym none.0 ∙ e))
]

not_seven : {n : ℕ} → 7 ≤ n → n + 1 < 8 → ⊥
not_seven most few = omega arith

end_some : (rest : List ℕ) (right : ℕ) → rest ++ right ∷ [] ≡ [] → ⊥
end_some rest right e = no_end rest right (sym e)

-- with fewer than seven used, one is left
pub right_left : (count : ℕ) → count + 1 < 8 → rights_after count ≡ [] → ⊥
right_left count few none = elim (next count) [
  | inl more ↦ end_some (rights_after (count + 1)) (count + 1) (sym more ∙ none)
  | inr no_more ↦ not_seven no_more.1 few
]
