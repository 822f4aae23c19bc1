-- What the root has by number, before and after an entry is split off or buried.
use Rattle.std.proofs.Common.{◌≡◌, ℕ, ◌<◌, ◌≢◌, ◌⊎◌, ◌==◌, cond, Bool, true, false, List, [], ◌∷◌, length, set, get_or, refl, sym, ap, ◌∙◌, subst, ⊎_elim, inl, inr, arith, Option, Some, None, get_or-set_same, get_or-set_other}
use Rattle.std.specs.Prelude.{slice_index_or}
use Rattle.name_rows.specs.Records.{In}
use Rattle.name_rows.specs.Moving.{found, without}

eq_of : (m n : ℕ) → (m ≡ n) ⊎ ((m == n) ≡ false)
eq_of m n = by_test (m == n) refl
  where
    by_test : (b : Bool) → (m == n) ≡ b → (m ≡ n) ⊎ ((m == n) ≡ false)
    by_test true e = inl (grind arith)
    by_test false e = inr e

eq_refl : (n : ℕ) → (n == n) ≡ true
eq_refl n = grind arith

apart_eq : (m n : ℕ) → m ≢ n → (m == n) ≡ false
apart_eq m n h = grind arith

module _ {A : Type 0} (number : A → ℕ) where
  pub found_here : (n : ℕ) (x : A) (xs : List A) → number x ≡ n → found number n (x ∷ xs) ≡ Some x
  found_here n x xs e = ap (λ (b : Bool). cond b (Some x) (found number n xs)) (ap (λ (m : ℕ). number x == m) (sym e) ∙ eq_refl (number x))

  found_behind : (n : ℕ) (x : A) (xs : List A) → (number x == n) ≡ false → found number n (x ∷ xs) ≡ found number n xs
  found_behind n x xs e = ap (λ (b : Bool). cond b (Some x) (found number n xs)) e

  without_here : (n : ℕ) (x : A) (xs : List A) → number x ≡ n → without number n (x ∷ xs) ≡ without number n xs
  without_here n x xs e = ap (λ (b : Bool). cond b (without number n xs) (x ∷ without number n xs)) (ap (λ (m : ℕ). number x == m) (sym e) ∙ eq_refl (number x))

  without_behind : (n : ℕ) (x : A) (xs : List A) → (number x == n) ≡ false → without number n (x ∷ xs) ≡ x ∷ without number n xs
  without_behind n x xs e = ap (λ (b : Bool). cond b (without number n xs) (x ∷ without number n xs)) e

  pub found_far : (n : ℕ) (x : A) (xs : List A) → number x ≢ n → found number n (x ∷ xs) ≡ found number n xs
  found_far n x xs h = found_behind n x xs (apart_eq (number x) n h)

  pub without_far : (n : ℕ) (x : A) (xs : List A) → number x ≢ n → without number n (x ∷ xs) ≡ x ∷ without number n xs
  without_far n x xs h = without_behind n x xs (apart_eq (number x) n h)

  -- what is found has the number, and is in the list
  pub found_is : (n : ℕ) (l : List A) (x : A) → found number n l ≡ Some x → (number x ≡ n) × In x l
  found_is n [] x e = absurd (let f : None ≡ Some x = e in cc)
  found_is n (y ∷ ys) x e =
      ⊎_elim
      (λ same. let f : Some y ≡ Some x = sym (found_here n y ys same) ∙ e in let g : y ≡ x = cc in (ap number (sym g) ∙ same, inl g))
      (λ other. let k = found_is n ys x (sym (found_behind n y ys other) ∙ e) in (k.0, inr k.1))
      (eq_of (number y) n)

  pub in_without : (n : ℕ) (l : List A) (x : A) → In x (without number n l) → In x l × (number x ≢ n)
  in_without n [] x h = absurd h
  in_without n (y ∷ ys) x h =
      ⊎_elim
      (λ same. let k = in_without n ys x (subst (λ (l : List A). In x l) (without_here n y ys same) h) in (inr k.0, k.1))
      (λ other.
      ⊎_elim
      (λ e. (inl e, λ f. let g : (number y == n) ≡ true = ap (λ (m : ℕ). m == n) (ap number e ∙ f) ∙ eq_refl n in let d : true ≡ false = sym g ∙ other in cc))
      (λ t. let k = in_without n ys x t in (inr k.0, k.1))
      (subst (λ (l : List A). In x l) (without_behind n y ys other) h))
      (eq_of (number y) n)

  -- each is without the number, or has it, and then one of the number is found
  pub in_either_part : (n : ℕ) (l : List A) (x : A) → In x l → In x (without number n l) ⊎ ((number x ≡ n) × ((y : A) × (found number n l ≡ Some y)))
  in_either_part n [] x h = absurd h
  in_either_part n (y ∷ ys) x h =
      ⊎_elim
      (λ same.
      ⊎_elim
      (λ e. inr (ap number (sym e) ∙ same, (y, found_here n y ys same)))
      (λ t. ⊎_elim (λ u. inl (subst (λ (l : List A). In x l) (sym (without_here n y ys same)) u)) (λ u. inr (u.0, (y, found_here n y ys same))) (in_either_part n ys x t))
      h)
      (λ other.
      ⊎_elim
      (λ e. inl (subst (λ (l : List A). In x l) (sym (without_behind n y ys other)) (inl e)))
      (λ t.
      ⊎_elim
      (λ u. inl (subst (λ (l : List A). In x l) (sym (without_behind n y ys other)) (inr u)))
      (λ u. inr (u.0, (u.1.0, found_behind n y ys other ∙ u.1.1)))
      (in_either_part n ys x t))
      h)
      (eq_of (number y) n)

  pub found_none : (n : ℕ) (l : List A) → found number n (without number n l) ≡ None
  found_none n [] = refl
  found_none n (y ∷ ys) =
      ⊎_elim
      (λ same. ap (λ (l : List A). found number n l) (without_here n y ys same) ∙ found_none n ys)
      (λ other. ap (λ (l : List A). found number n l) (without_behind n y ys other) ∙ found_behind n y (without number n ys) other ∙ found_none n ys)
      (eq_of (number y) n)

  pub found_other : (m n : ℕ) (l : List A) → m ≢ n → found number m (without number n l) ≡ found number m l
  found_other m n [] h = refl
  found_other m n (y ∷ ys) h =
      ⊎_elim
      (λ same.
      ap (λ (l : List A). found number m l) (without_here n y ys same) ∙ found_other m n ys h
      ∙ sym (found_behind m y ys (apart_eq (number y) m (λ e. h (sym e ∙ same)))))
      (λ other.
      ap (λ (l : List A). found number m l) (without_behind n y ys other)
      ∙ ⊎_elim
      (λ is. found_here m y (without number n ys) is ∙ sym (found_here m y ys is))
      (λ far. found_behind m y (without number n ys) far ∙ found_other m n ys h ∙ sym (found_behind m y ys far))
      (eq_of (number y) m))
      (eq_of (number y) n)

  -- the table by number, after one was taken out of it
  pub taken_out_by_number : (n : ℕ) (l : List A) (kept : List (Option A)) → n < length kept → ((m : ℕ) → found number m l ≡ slice_index_or kept m None)
      → (m : ℕ) → found number m (without number n l) ≡ slice_index_or (set kept n None) m None
  taken_out_by_number n l kept below by m =
      ⊎_elim
      (λ e. ap (λ (k : ℕ). found number k (without number n l)) e ∙ found_none n l ∙ sym (ap (λ (k : ℕ). get_or (set kept n None) k None) e ∙ get_or-set_same kept n None None below))
      (λ f. let h : m ≢ n = (λ e. let g : (m == n) ≡ true = ap (λ (k : ℕ). k == n) e ∙ eq_refl n in let d : true ≡ false = sym g ∙ f in cc) in
      found_other m n l h ∙ by m ∙ sym (get_or-set_other kept n m None None h))
      (eq_of m n)
