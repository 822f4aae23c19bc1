-- Deeds that were taken in one after another, and are issued again from the last to the first.
use Rattle.std.proofs.Common.{◌≡◌, ◌≤◌, ◌+◌, ℕ, zero, suc, ◌==◌, cond, List, [], ◌∷◌, ◌++◌, Option, Some, None, Bool, map, reverse, set, count_by, refl, arith, sym, ap, subst, ◌∙◌}
use Rattle.std.specs.List.{slice_get, All}
use Rattle.std.proofs.lemmas.List.{reverse-append, map-append, append_assoc}
use Rattle.std.proofs.lemmas.List.Sums.{sum_by-append, sum_by-cons}
use Rattle.std.proofs.lemmas.List.Elements.{All-cons, All-nil, All-push, All-head, All-tail}
use Rattle.deed_book.specs.BookLaw.{IsOutside, IsHome}
use Rattle.uma_keg.specs.Outs.{out_of}
use Rattle.deed_book.specs.Deed.{BookId}
use Rattle.uma_life.specs.declared.states.Live.{Live}
use Rattle.uma_keg.specs.declared.home_items.Undeeded.{Undeeded}
use Rattle.uma_keg.specs.Lent.{Seen, seen_of, all_seen, lent_of, deed_of, seen_without, deed_without, together, TakesIn}
use Rattle.uma_keg.proofs.Outs.{out_accepted}

-- one deed more is taken in
pub TakesIn-push : (zones : List (Option ℕ)) (deeds : List (ℕ × ℕ)) (now : List (Option ℕ)) (deed : ℕ × ℕ) → TakesIn zones deeds now → IsOutside now deed → TakesIn zones (deeds ++ deed ∷ []) (set now deed.0 None)
TakesIn-push zones [] now deed is out = (subst (λ zs. IsOutside zs deed) is out, ap (λ zs. set zs deed.0 None) is)
TakesIn-push zones (first ∷ deeds) now deed took out = (took.0, TakesIn-push (set zones first.0 None) deeds now deed took.1 out)

-- the map before the last deed was taken in
pub record LastTaken (zones : List (Option ℕ)) (deeds : List (ℕ × ℕ)) (deed : ℕ × ℕ) (now : List (Option ℕ)) : Type 0 where
  pub before : List (Option ℕ)
  pub took : TakesIn zones deeds before
  pub outside : IsOutside before deed
  pub is : now ≡ set before deed.0 None

pub TakesIn-pop : (zones : List (Option ℕ)) (deeds : List (ℕ × ℕ)) (deed : ℕ × ℕ) (now : List (Option ℕ)) → TakesIn zones (deeds ++ deed ∷ []) now → LastTaken zones deeds deed now
TakesIn-pop zones [] deed now took = record { before = zones; took = refl; outside = took.0; is = took.1 }
TakesIn-pop zones (first ∷ deeds) deed now took =
    let last = TakesIn-pop (set zones first.0 None) deeds deed now took.1 in
    record { before = last.before; took = (took.0, last.took); outside = last.outside; is = last.is }

pub set_back : (zones : List (Option ℕ)) (n zone : ℕ) → slice_get zones n ≡ Some (Some zone) → set (set zones n None) n (Some zone) ≡ zones
set_back [] n zone is = refl
set_back (o ∷ zones) zero zone is = let same : Some zone ≡ o = cc in ap (λ v. v ∷ zones) same
set_back (o ∷ zones) (suc n) zone is = ap (λ zs. o ∷ zs) (set_back zones n zone is)

pub home_again : (zones : List (Option ℕ)) (n zone : ℕ) → slice_get zones n ≡ Some (Some zone) → IsHome (set zones n None) n
home_again [] n zone is = absurd (cc)
home_again (o ∷ zones) zero zone is = refl
home_again (o ∷ zones) (suc n) zone is = home_again zones n zone is

was_outside : (zones : List (Option ℕ)) (n m zone : ℕ) → slice_get (set zones n None) m ≡ Some (Some zone) → slice_get zones m ≡ Some (Some zone)
was_outside [] n m zone is = is
was_outside (o ∷ zones) zero zero zone is = absurd (cc)
was_outside (o ∷ zones) zero (suc m) zone is = is
was_outside (o ∷ zones) (suc n) zero zone is = is
was_outside (o ∷ zones) (suc n) (suc m) zone is = was_outside zones n m zone is

-- a zone has so many numbers less outside as deeds of it were taken in
pub taken_counted : (zones : List (Option ℕ)) (deeds : List (ℕ × ℕ)) (now : List (Option ℕ)) (zone : ℕ) → TakesIn zones deeds now → out_of now zone + count_by (λ (deed : ℕ × ℕ). deed.1 == zone) deeds ≡ out_of zones zone
taken_counted zones [] now zone is = rw is (omega arith)
taken_counted zones (deed ∷ deeds) now zone took =
    let here = out_accepted zones deed.0 deed.1 zone took.0 in
    let rest = taken_counted (set zones deed.0 None) deeds now zone took.1 in
    let counted = sum_by-cons (λ (d : ℕ × ℕ). cond (d.1 == zone) 1 0) deed deeds in
    omega (arith, here, rest, counted)

each_outside : (zones : List (Option ℕ)) (n : ℕ) (deeds : List (ℕ × ℕ)) (now : List (Option ℕ)) (start : List (Option ℕ)) → ((m zone : ℕ) → slice_get zones m ≡ Some (Some zone) → slice_get start m ≡ Some (Some zone)) → TakesIn zones deeds now → All (IsOutside start) deeds
each_outside zones n [] now start back took = All-nil (IsOutside start)
each_outside zones n (deed ∷ deeds) now start back took = All-cons (IsOutside start) deed deeds (back deed.0 deed.1 took.0) (each_outside (set zones deed.0 None) n deeds now start (λ m zone is. back m zone (was_outside zones deed.0 m zone is)) took.1)

-- each was outside at first
pub taken_outside : (zones : List (Option ℕ)) (deeds : List (ℕ × ℕ)) (now : List (Option ℕ)) → TakesIn zones deeds now → All (IsOutside zones) deeds
taken_outside zones deeds now took = each_outside zones 0 deeds now zones (λ m zone is. is) took

-- the last of one list is the first of what stands behind it
pub moved : {X : Type 0} (xs ys : List X) (x : X) → xs ++ reverse (ys ++ x ∷ []) ≡ (xs ++ x ∷ []) ++ reverse ys
moved xs ys x = ap (λ zs. xs ++ zs) (reverse-append ys (x ∷ [])) ∙ sym (append_assoc xs (x ∷ []) (reverse ys))

reversed : {X : Type 0} (x : X) (xs : List X) → reverse (x ∷ xs) ≡ reverse xs ++ x ∷ []
reversed x xs = reverse-append (x ∷ []) xs

pub count-reverse : {X : Type 0} (p : X → Bool) (xs : List X) → count_by p (reverse xs) ≡ count_by p xs
count-reverse p [] = refl
count-reverse p (x ∷ xs) =
    let f : _ → ℕ = λ y. cond (p y) 1 0 in
    let last = sum_by-append f (reverse xs) (x ∷ []) in
    let one = sum_by-cons f x [] in
    let first = sum_by-cons f x xs in
    rw (reversed x xs) (omega (arith, last, one, first, count-reverse p xs))

pub count-map : {X Y : Type 0} (p : Y → Bool) (h : X → Y) (xs : List X) → count_by p (map h xs) ≡ count_by (λ x. p (h x)) xs
count-map p h [] = refl
count-map p h (x ∷ xs) =
    let first = sum_by-cons (λ y. cond (p y) 1 0) (h x) (map h xs) in
    let second = sum_by-cons (λ y. cond (p (h y)) 1 0) x xs in
    omega (arith, first, second, count-map p h xs)

pub All-reverse : {X : Type 0} (P : X → Type 0) (xs : List X) → All P xs → All P (reverse xs)
All-reverse P [] all = all
All-reverse P (x ∷ xs) all = rw (reversed x xs) (All-push P (reverse xs) x (All-reverse P xs (All-tail P x xs all)) (All-head P x xs all))

unmapped : {X Y : Type 0} (P : Y → Type 0) (h : X → Y) (xs : List X) → All P (map h xs) → All (λ x. P (h x)) xs
unmapped P h [] all = All-nil (λ x. P (h x))
unmapped P h (x ∷ xs) all = All-cons (λ y. P (h y)) x xs (All-head P (h x) (map h xs) all) (unmapped P h xs (All-tail P (h x) (map h xs) all))

abbrev pub seen_deed : {T : Type 0} → Seen T → ℕ × ℕ
seen_deed seen = (seen.no, seen.zone)

deeds_seen : {T : Type 0} {g : _} (table : BookId) (taken : List (Undeeded T g)) → map deed_without taken ≡ map seen_deed (map (seen_without table) taken)
deeds_seen table [] = refl
deeds_seen table (item ∷ taken) = ap (λ deeds. deed_without item ∷ deeds) (deeds_seen table taken)

-- no zone has fewer numbers outside than items that were lent
pub lent_counted : {T : Type 0} {g : _} (table : BookId) (zones now : List (Option ℕ)) (items : List (Live T g)) (taken : List (Undeeded T g)) (zone : ℕ) → TakesIn zones (map deed_without taken) now → reverse (map (seen_without table) taken) ≡ all_seen items → lent_of items zone ≤ out_of zones zone
lent_counted table zones now items taken zone took is =
    let in_zone : Seen _ → Bool = λ seen. seen.zone == zone in
    let seen = map (seen_without table) taken in
    let lent : lent_of items zone ≡ count_by in_zone seen = sym (count-map in_zone seen_of items) ∙ ap (count_by in_zone) (sym is) ∙ count-reverse in_zone seen in
    let deeds : count_by (λ (deed : ℕ × ℕ). deed.1 == zone) (map deed_without taken) ≡ count_by in_zone seen = ap (count_by (λ (deed : ℕ × ℕ). deed.1 == zone)) (deeds_seen table taken) ∙ count-map (λ (deed : ℕ × ℕ). deed.1 == zone) seen_deed seen in
    omega (arith, taken_counted zones (map deed_without taken) now zone took, lent, deeds)

-- and each was outside
pub lent_outside : {T : Type 0} {g : _} (table : BookId) (zones now : List (Option ℕ)) (items : List (Live T g)) (taken : List (Undeeded T g)) → TakesIn zones (map deed_without taken) now → reverse (map (seen_without table) taken) ≡ all_seen items → All (λ item. IsOutside zones (deed_of item)) items
lent_outside table zones now items taken took is =
    let Outside : Seen _ → Type 0 = λ seen. IsOutside zones (seen_deed seen) in
    let seen = map (seen_without table) taken in
    let deeds : All (IsOutside zones) (map seen_deed seen) = subst (All (IsOutside zones)) (deeds_seen table taken) (taken_outside zones (map deed_without taken) now took) in
    let all : All Outside (all_seen items) = subst (All Outside) is (All-reverse Outside seen (unmapped (IsOutside zones) seen_deed seen deeds)) in
    unmapped Outside seen_of items all

-- an item goes over with its deed, or without
pub item_moved : {T : Type 0} {g : _} (table : BookId) (items rest : List (Live T g)) (item : Live T g) (taken more : List (Undeeded T g)) (without : Undeeded T g) → items ≡ rest ++ item ∷ [] → more ≡ taken ++ without ∷ [] → seen_without table without ≡ seen_of item → together table rest more ≡ together table items taken
item_moved table items rest item taken more without is_items is_more same =
    let with_one : map (seen_without table) more ≡ map (seen_without table) taken ++ seen_of item ∷ [] = ap (map (seen_without table)) is_more ∙ map-append (seen_without table) taken (without ∷ []) ∙ ap (λ seen. map (seen_without table) taken ++ seen ∷ []) same in
    let with_all : all_seen items ≡ all_seen rest ++ seen_of item ∷ [] = ap all_seen is_items ∙ map-append seen_of rest (item ∷ []) in
    ap (λ seen. all_seen rest ++ reverse seen) with_one ∙ moved (all_seen rest) (map (seen_without table) taken) (seen_of item) ∙ ap (λ seen. seen ++ reverse (map (seen_without table) taken)) (sym with_all)

pub item_taken : {T : Type 0} {g : _} (zones now after : List (Option ℕ)) (taken more : List (Undeeded T g)) (without : Undeeded T g) (deed : ℕ × ℕ) → more ≡ taken ++ without ∷ [] → deed ≡ deed_without without → IsOutside now deed → after ≡ set now deed.0 None → TakesIn zones (map deed_without taken) now → TakesIn zones (map deed_without more) after
item_taken zones now after taken more without deed is same out home took =
    let with_one : map deed_without more ≡ map deed_without taken ++ deed ∷ [] = ap (map deed_without) is ∙ map-append deed_without taken (without ∷ []) ∙ ap (λ d. map deed_without taken ++ d ∷ []) (sym same) in
    rw (with_one, home) (TakesIn-push zones (map deed_without taken) now deed took out)

pub last_taken : {T : Type 0} {g : _} (zones now : List (Option ℕ)) (taken rest : List (Undeeded T g)) (without : Undeeded T g) → taken ≡ rest ++ without ∷ [] → TakesIn zones (map deed_without taken) now → LastTaken zones (map deed_without rest) (deed_without without) now
last_taken zones now taken rest without is took =
    let with_one : map deed_without taken ≡ map deed_without rest ++ deed_without without ∷ [] = ap (map deed_without) is ∙ map-append deed_without rest (without ∷ []) in
    TakesIn-pop zones (map deed_without rest) (deed_without without) now (subst (λ deeds. TakesIn zones deeds now) with_one took)

-- the last one taken in is at home
pub last_home : (zones : List (Option ℕ)) (deeds : List (ℕ × ℕ)) (deed named : ℕ × ℕ) (now : List (Option ℕ)) → LastTaken zones deeds deed now → named ≡ deed → IsHome now named.0
last_home zones deeds deed named now last is = rw (is, last.is) (home_again last.before deed.0 deed.1 last.outside)

-- and once its deed is issued again the map is as it was before
pub last_issued : (zones : List (Option ℕ)) (deeds : List (ℕ × ℕ)) (deed named : ℕ × ℕ) (now after : List (Option ℕ)) → LastTaken zones deeds deed now → named ≡ deed → after ≡ set now named.0 (Some named.1) → TakesIn zones deeds after
last_issued zones deeds deed named now after last is issued =
    let back : after ≡ last.before = issued ∙ ap (λ (d : ℕ × ℕ). set now d.0 (Some d.1)) is ∙ ap (λ zs. set zs deed.0 (Some deed.1)) last.is ∙ set_back last.before deed.0 deed.1 last.outside in
    subst (TakesIn zones deeds) (sym back) last.took
