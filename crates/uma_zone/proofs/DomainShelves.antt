-- What the steps of a flush come to, on plain lists.
use Rattle.std.proofs.Common.{◌≡◌, ◌<◌, ◌≤◌, List, [], ◌∷◌, ◌++◌, length, map, Option, Some, None, IfSome, IfNone, Result, Ok, Err, OnErr, refl, sym, ap, ◌∙◌, arith}
use Rattle.std.proofs.lemmas.List.{append-nil, length-map, map-append}
use Rattle.uma_bucket.specs.declared.shelved.Shelved.{Shelved}
use Rattle.uma_zone.specs.Flushed.{bound_of, HasLastOf, AreLastOf, in_order}

-- a list whose length isn't above 0 is empty
none_long : {X : Type 0} (xs : List X) → length xs < 1 → xs ≡ []
none_long [] few = refl
none_long (x ∷ xs) few = absurd (omega arith)

-- what is so where an error is answered, from what is so there
pub on_err : {A E F G : Type 0} (result : Result A E) → (F → G) → OnErr result F → OnErr result G
on_err (Ok a) f x = tt
on_err (Err e) f x = f x

module _ {T H P : Type 0} {g h : _} where
  -- What two takes from a shelf of at most two come to: it is empty, and what was taken is what was there, for each bucket where it goes.
  pub record BothTaken (was is : List (Shelved T H P g h)) (oldest newest : Option (Shelved T H P g h)) : Type 0 where
    pub empty : is ≡ []
    pub bound : map bound_of was ≡ map bound_of (in_order oldest newest)

  pub both_taken : (was mid is : List (Shelved T H P g h)) (oldest newest : Option (Shelved T H P g h)) → length was ≤ 2
      → IfSome oldest (λ t. map bound_of was ≡ bound_of t ∷ map bound_of mid) → IfNone oldest (was ≡ []) → IfNone oldest (mid ≡ [])
      → IfSome newest (λ t. map bound_of mid ≡ bound_of t ∷ map bound_of is) → IfNone newest (mid ≡ []) → IfNone newest (is ≡ [])
      → BothTaken was is oldest newest
  both_taken was mid is None None few first none left second none' left' = record { empty = left'; bound = ap (map bound_of) none }
  both_taken was mid is None (Some n) few first none left second none' left' =
      let e : map bound_of mid ≡ [] = ap (map bound_of) left in
      absurd (cc)
  both_taken was mid is (Some o) None few first none left second none' left' = record {
    empty = left';
    bound = first ∙ ap (λ (l : List (Shelved T H P g h)). bound_of o ∷ map bound_of l) none';
  }
  both_taken was mid is (Some o) (Some n) few first none left second none' left' =
      let a = ap length first in
      let b = ap length second in
      let none_left = none_long is (omega (arith, a, b, length-map was bound_of, length-map mid bound_of, length-map is bound_of)) in
      record {
        empty = none_left;
        bound = first ∙ ap (λ (l : List _). bound_of o ∷ l) (second ∙ ap (λ (l : List (Shelved T H P g h)). bound_of n ∷ map bound_of l) none_left);
      }

  -- the last of what was taken is the last of what was there
  pub last_there : (was is : List (Shelved T H P g h)) (oldest newest : Option (Shelved T H P g h)) → map bound_of was ≡ map bound_of (in_order oldest newest) → AreLastOf (in_order oldest newest) is → HasLastOf was is
  last_there was is oldest newest bound last = record { gone = map bound_of last.gone; split = bound ∙ ap (map bound_of) last.split ∙ map-append bound_of last.gone is }

  -- nothing is the last of anything
  pub none_there : {A E : Type 0} (result : Result A E) (was is : List (Shelved T H P g h)) → is ≡ [] → OnErr result (HasLastOf was is)
  none_there (Ok a) was is none = tt
  none_there (Err e) was is none = record { gone = map bound_of was; split = sym (append-nil (map bound_of was)) ∙ ap (λ (l : List (Shelved T H P g h)). map bound_of was ++ map bound_of l) (sym none) }

  -- ---- the oldest is there, and what is behind it

  pub oldest_first : (oldest : Option (Shelved T H P g h)) (newest : Option (Shelved T H P g h)) (back : Shelved T H P g h) → oldest ≡ Some back → in_order oldest newest ≡ back ∷ in_order None newest
  oldest_first oldest None back is = ap (λ (o : Option (Shelved T H P g h)). in_order o None) is
  oldest_first oldest (Some n) back is = ap (λ (o : Option (Shelved T H P g h)). in_order o (Some n)) is

  pub newest_last : (oldest newest : Option (Shelved T H P g h)) → AreLastOf (in_order oldest newest) (in_order None newest)
  newest_last None newest = record { gone = []; split = refl }
  newest_last (Some o) None = record { gone = o ∷ []; split = refl }
  newest_last (Some o) (Some n) = record { gone = o ∷ []; split = refl }

  pub both_back : (oldest newest : Option (Shelved T H P g h)) (back : Shelved T H P g h) (mid now : List (Shelved T H P g h)) → oldest ≡ Some back → mid ≡ in_order None newest → now ≡ back ∷ mid → AreLastOf (in_order oldest newest) now
  both_back oldest newest back mid now is behind put =
      record { gone = []; split = oldest_first oldest newest back is ∙ ap (λ (l : List (Shelved T H P g h)). back ∷ l) (sym behind) ∙ sym put }
