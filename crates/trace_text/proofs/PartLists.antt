-- The lists of a part's workers: with one operation more, with lists of nothing behind them, and cut to so many workers.
use Rattle.std.proofs.Common.{◌≡◌, ℕ, zero, suc, ◌<◌, ◌⊎◌, inl, inr, List, [], ◌∷◌, ◌++◌, map, length, get_or, set, take, Bool, true, false, cond, eqb, Vec, refl, sym, ap, subst, ◌∙◌, arith}
use Rattle.std.proofs.lemmas.Bool.{eq-eqb}
use Rattle.std.proofs.lemmas.Bool.Decides.{eqb_tells}
use Rattle.std.proofs.lemmas.List.{append-nil, get_or-map, get_or-set_other, get_or-set_same, get_or-take, get_or_past, get_or_push, length-map, map-set, map_push, set-get_or, take-map}
use Rattle.std.proofs.lemmas.List.FromFn.{fill_by_all}
use Rattle.std.specs.declared.alloc.Global.{Global}
use Rattle.trace_text.specs.declared.trace.Op.{Op}
use Rattle.trace_text.specs.declared.trace_reading.fields.Entry.TheVariants.{Does}
use Rattle.trace_text.specs.declared.trace_reading.rounds.PartSoFar.{PartSoFar}
use Rattle.trace_text.specs.Parts.{StaysSame, TakesLine, list_at, lists_for}

module _ {X A : Type 0} (f : X → List A) where
  -- more is at one place than there was, and as much at the others
  more_there : (xs : List X) (v w : ℕ) (x y : X) (more : List A) → v < length xs → x ≡ get_or xs v x → f y ≡ f x ++ more
      → get_or (map f (set xs v y)) w [] ≡ get_or (map f xs) w [] ++ cond (eqb v w) more []
  more_there xs v w x y more below is has = by_place (eqb_tells v w) where
    there : get_or (map f (set xs v y)) v [] ≡ get_or (map f xs) v [] ++ cond (eqb v v) more []
    there =
        ap (λ (l : List (List A)). get_or l v []) (map-set f xs v y)
        ∙ get_or-set_same (map f xs) v (f y) [] (omega (arith, length-map xs f))
        ∙ has
        ∙ ap (λ (l : List A). l ++ more) (ap f is ∙ sym (get_or-map f xs v x [] below))
        ∙ ap (λ (b : Bool). get_or (map f xs) v [] ++ cond b more []) (sym (eq-eqb v v refl))

    by_place : ((eqb v w ≡ true) × (v ≡ w)) ⊎ ((eqb v w ≡ false) × (v ≡ w → ⊥)) → get_or (map f (set xs v y)) w [] ≡ get_or (map f xs) w [] ++ cond (eqb v w) more []
    by_place (inl at_it) = let P : ℕ → Type 0 = λ k. get_or (map f (set xs v y)) k [] ≡ get_or (map f xs) k [] ++ cond (eqb v k) more [] in subst P at_it.1 there
    by_place (inr off) =
        ap (λ (l : List (List A)). get_or l w []) (map-set f xs v y)
        ∙ get_or-set_other (map f xs) v w (f y) [] (λ e. off.1 (sym e))
        ∙ sym (append-nil (get_or (map f xs) w []))
        ∙ ap (λ (b : Bool). get_or (map f xs) w [] ++ cond b more []) (sym off.0)

  same_there : (xs : List X) (v w : ℕ) (x y : X) → v < length xs → x ≡ get_or xs v x → f y ≡ f x → get_or (map f (set xs v y)) w [] ≡ get_or (map f xs) w []
  same_there xs v w x y below is same =
      ap (λ (l : List (List A)). get_or l w [])
      (map-set f xs v y
      ∙ ap (λ (a : List A). set (map f xs) v a) (same ∙ ap f is ∙ sym (get_or-map f xs v x [] below))
      ∙ set-get_or (map f xs) v [])

  -- one more at the end
  as_before : (xs : List X) (x : X) (w : ℕ) → (w ≡ length xs → ⊥) → get_or (map f (xs ++ x ∷ [])) w [] ≡ get_or (map f xs) w []
  as_before [] x zero other = absurd (other refl)
  as_before [] x (suc w) other = refl
  as_before (y ∷ xs) x zero other = refl
  as_before (y ∷ xs) x (suc w) other = as_before xs x w (λ e. other (ap suc e))

  more_behind : (xs : List X) (v w : ℕ) (x : X) → length xs ≡ v → get_or (map f (xs ++ x ∷ [])) w [] ≡ get_or (map f xs) w [] ++ cond (eqb v w) (f x) []
  more_behind xs v w x end = by_place (eqb_tells v w) where
    there : get_or (map f (xs ++ x ∷ [])) v [] ≡ get_or (map f xs) v [] ++ cond (eqb v v) (f x) []
    there =
        ap (λ (l : List (List A)). get_or l v []) (map_push f xs x)
        ∙ get_or_push (map f xs) (f x) [] v (length-map xs f ∙ end)
        ∙ ap (λ (l : List A). l ++ f x) (sym (get_or_past (map f xs) v [] (omega (arith, length-map xs f))))
        ∙ ap (λ (b : Bool). get_or (map f xs) v [] ++ cond b (f x) []) (sym (eq-eqb v v refl))

    by_place : ((eqb v w ≡ true) × (v ≡ w)) ⊎ ((eqb v w ≡ false) × (v ≡ w → ⊥)) → get_or (map f (xs ++ x ∷ [])) w [] ≡ get_or (map f xs) w [] ++ cond (eqb v w) (f x) []
    by_place (inl at_it) = let P : ℕ → Type 0 = λ k. get_or (map f (xs ++ x ∷ [])) k [] ≡ get_or (map f xs) k [] ++ cond (eqb v k) (f x) [] in subst P at_it.1 there
    by_place (inr off) =
        as_before xs x w (λ e. off.1 (sym (e ∙ end)))
        ∙ sym (append-nil (get_or (map f xs) w []))
        ∙ ap (λ (b : Bool). get_or (map f xs) w [] ++ cond b (f x) []) (sym off.0)

  nothing_behind : (xs : List X) (x : X) (w : ℕ) → f x ≡ [] → get_or (map f (xs ++ x ∷ [])) w [] ≡ get_or (map f xs) w []
  nothing_behind [] x zero none = none
  nothing_behind [] x (suc w) none = refl
  nothing_behind (y ∷ xs) x zero none = refl
  nothing_behind (y ∷ xs) x (suc w) none = nothing_behind xs x w none

  of_first : (n : ℕ) (xs : List X) (w : ℕ) → w < n → get_or (map f (take n xs)) w [] ≡ get_or (map f xs) w []
  of_first n xs w below = ap (λ (l : List (List A)). get_or l w []) (sym (take-map f n xs)) ∙ get_or-take n (map f xs) w [] below

abbrev ops_of : Vec Op Global → List Op
ops_of list = list.items

-- ---- the lists of a part

-- with one operation more
pub takes_op : (doer : ℕ) (op : Op) (old new : PartSoFar) (list longer : Vec Op Global) → doer < length old.ops.items → list ≡ get_or old.ops.items doer list → longer.items ≡ list.items ++ op ∷ []
    → new.ops.items ≡ set old.ops.items doer longer → new.between.items ≡ old.between.items → TakesLine (Does doer op) old new
takes_op doer op old new list longer below is has ops between = record {
  ops = λ worker. ap (λ (lists : List (Vec Op Global)). list_at lists worker) ops ∙ more_there ops_of old.ops.items doer worker list longer (op ∷ []) below is has;
  between = between ∙ sym (append-nil old.between.items);
}

pub stays_same : (doer : ℕ) (old new : PartSoFar) (list same : Vec Op Global) → doer < length old.ops.items → list ≡ get_or old.ops.items doer list → same.items ≡ list.items
    → new.ops.items ≡ set old.ops.items doer same → new.between.items ≡ old.between.items → StaysSame old new
stays_same doer old new list same below is has ops between = record {
  ops = λ worker. ap (λ (lists : List (Vec Op Global)). list_at lists worker) ops ∙ same_there ops_of old.ops.items doer worker list same below is has;
  between = between;
}

-- with a list of one operation behind those that were filled up with lists of nothing
pub takes_first_op : (doer : ℕ) (op : Op) (old new : PartSoFar) (filled : List (Vec Op Global)) (list : Vec Op Global) → ((worker : ℕ) → list_at filled worker ≡ list_at old.ops.items worker)
    → length filled ≡ doer → list.items ≡ op ∷ [] → new.ops.items ≡ filled ++ list ∷ [] → new.between.items ≡ old.between.items → TakesLine (Does doer op) old new
takes_first_op doer op old new filled list same end has ops between = record {
  ops = λ worker.
      ap (λ (lists : List (Vec Op Global)). list_at lists worker) ops
      ∙ more_behind ops_of filled doer worker list end
      ∙ ap (λ (done : List Op). done ++ cond (eqb doer worker) list.items []) (same worker)
      ∙ ap (λ (more : List Op). list_at old.ops.items worker ++ cond (eqb doer worker) more []) has;
  between = between ∙ sym (append-nil old.between.items);
}

-- with a list of nothing behind them
pub nothing_more : (lists : List (Vec Op Global)) (worker : ℕ) (list : Vec Op Global) → list.items ≡ [] → list_at (lists ++ list ∷ []) worker ≡ list_at lists worker
nothing_more lists worker list none = nothing_behind ops_of lists list worker none

-- cut to so many workers, and filled up
pub lists_are_for : (workers : ℕ) (lists cut filled : List (Vec Op Global)) → cut ≡ take workers lists → ((worker : ℕ) → list_at filled worker ≡ list_at cut worker) → length filled ≡ workers
    → map ops_of filled ≡ lists_for workers lists
lists_are_for workers lists cut filled first same many =
    fill_by_all (list_at lists) (map ops_of filled) workers [] (length-map filled ops_of ∙ many)
    (λ worker below. same worker ∙ ap (λ (l : List (Vec Op Global)). list_at l worker) first ∙ of_first ops_of workers lists worker below)
