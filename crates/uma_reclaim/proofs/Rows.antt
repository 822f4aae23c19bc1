-- How many items a row of buckets has, and how a count of them that stands still at its type's end goes on.
use Rattle.std.proofs.Common.{◌≡◌, ◌≤◌, ◌<◌, ◌+◌, ◌-◌, ◌^◌, ℕ, Bool, true, false, cond, min, List, [], ◌∷◌, ◌++◌, All, length, map, sum_by, get_or, set, inl, inr, refl, sym, ap, ◌∙◌, subst, arith}
use Rattle.std.proofs.lemmas.Bool.{cases_lt}
use Rattle.std.proofs.lemmas.List.{map-append, set_past, get_or_past}
use Rattle.std.proofs.lemmas.List.Elements.{All-from_get_or, All-push}
use Rattle.std.proofs.lemmas.List.Sums.{sum_by-le, sum_by-set, sum_by_push}

-- the count of what is gone of all, where so many were counted, and now so many more
pub counted_more : (all left given less count now : ℕ) → left ≤ all → count ≡ min (all - left) (2 ^ 64 - 1) → left ≡ given + less → now ≡ min (count + given) (2 ^ 64 - 1) → now ≡ min (all - less) (2 ^ 64 - 1)
counted_more all left given less count now within was step is = omega arith

-- the same of a sum
pub counted_sum : (was more count given now : ℕ) → count ≡ min was (2 ^ 64 - 1) → given ≡ min more (2 ^ 64 - 1) → now ≡ min (count + given) (2 ^ 64 - 1) → now ≡ min (was + more) (2 ^ 64 - 1)
counted_sum was more count given now a b is = omega arith

module _ {S : Type 0} (len : S → ℕ) (nothing : S) where
  -- no bucket of the row has an item
  pub sum_none : (row : List S) → ((at : ℕ) → at < length row → len (get_or row at nothing) ≡ 0) → sum_by len row ≡ 0
  sum_none row each =
      let most = sum_by-le len 0 row (All-from_get_or (λ s. len s ≤ 0) row nothing (λ at within. let e = each at within in omega (arith, e))) in
      omega (arith, most)

  -- an empty bucket stands in the place of one
  pub sum_emptied : (row : List S) (at : ℕ) (empty : S) → len nothing ≡ 0 → len empty ≡ 0 → sum_by len (set row at empty) + len (get_or row at nothing) ≡ sum_by len row
  sum_emptied row at empty none put = elim (cases_lt at (length row)) [
    | inl within ↦ let e = sum_by-set len row at empty nothing within in omega (arith, e, put)
    | inr past ↦
        let there : len (get_or row at nothing) ≡ len nothing = ap len (get_or_past row at nothing past) in
        let same : sum_by len (set row at empty) ≡ sum_by len row = ap (sum_by len) (set_past row at empty past) in
        omega (arith, there, same, none)
  ]

  -- an empty bucket is exchanged with one of the row, or isn't
  pub sum_exchanged : (exchanged : Bool) (row now : List S) (at : ℕ) (empty top ready : S) → len nothing ≡ 0 → len empty ≡ 0 → (exchanged ≡ true → len top ≡ 0)
      → ready ≡ cond exchanged (get_or row at nothing) top → now ≡ cond exchanged (set row at empty) row → len ready + sum_by len now ≡ len top + sum_by len row
  sum_exchanged true row now at empty top ready none put was is put_in =
      let there : len ready ≡ len (get_or row at nothing) = ap len is in
      let same : sum_by len now ≡ sum_by len (set row at empty) = ap (sum_by len) put_in in
      omega (arith, there, same, was refl, sum_emptied row at empty none put)
  sum_exchanged false row now at empty top ready none put was is put_in =
      let there : len ready ≡ len top = ap len is in
      let same : sum_by len now ≡ sum_by len row = ap (sum_by len) put_in in
      omega (arith, there, same)

-- what a list of buckets that was seen in part comes to with one more
module _ {X Y : Type 0} (seen : X → List Y) where
  pub sum_more : (size : List Y → ℕ) (takes : List X) (take : X) → sum_by size (map seen (takes ++ take ∷ [])) ≡ sum_by size (map seen takes) + size (seen take)
  sum_more size takes take = ap (sum_by size) (map-append seen takes (take ∷ [])) ∙ sum_by_push size (map seen takes) (seen take)

  pub all_more : (P : List Y → Type 0) (takes : List X) (take : X) → All P (map seen takes) → P (seen take) → All P (map seen (takes ++ take ∷ []))
  all_more P takes take before one = subst (λ (l : List (List Y)). All P l) (sym (map-append seen takes (take ∷ []))) (All-push P (map seen takes) (seen take) before one)
