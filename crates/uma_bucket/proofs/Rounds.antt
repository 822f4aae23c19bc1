-- A room is gone over from the first place to the last: what lay in a place is finished there, and those behind it lie as before.
use Rattle.std.proofs.Common.{◌≡◌, ◌<◌, ◌+◌, ℕ, suc, List, [], ◌∷◌, ◌++◌, length, Bool, true, not, ◌&&◌, Option, Some, refl, sym, ap, ◌∙◌, subst, get_or, set, take, drop, append_assoc, append-nil, add-one, arith}
use Rattle.std.specs.List.{filter_map, list_all, cons_option, AllZip}
use Rattle.std.proofs.Math.Seq.{drop-cons, set-append_seam, get_or-append_seam}
use Rattle.std.proofs.lemmas.List.{length-take}
use Rattle.std.proofs.lemmas.List.Elements.{all_zip_more, length_all_zip}
use Rattle.uma_life.specs.declared.states.Cached.{Cached}
use Rattle.uma_life.specs.declared.states.Live.{Live}
use Rattle.uma_life.specs.declared.states.Outside.{Outside}
use Rattle.uma_life.specs.Outside.{FinishesOutside}
use Rattle.uma_bucket.specs.declared.freed.Freed.{Freed}
use Rattle.uma_bucket.specs.Freed.{IsFinished}
use Rattle.uma_bucket.specs.Room.{is_cached, is_freed, cached_in, freed_in, freed_of}
use Rattle.uma_bucket.proofs.Rooms.{at_place}

module _ {T : Type 0} {g : _} (leaves : T → ℕ → T → Type 0) where
  -- after so many places: those that are finished lie before those left
  pub record UpTo (i : ℕ) (old now : List (Outside T g)) : Type 0 where
    pub done : List (Outside T g)
    pub order : now ≡ done ++ drop i old
    pub finished : AllZip (FinishesOutside leaves) (take i old) done

  pub at_first : (old : List (Outside T g)) → UpTo 0 old old
  at_first old = record { done = []; order = refl; finished = tt }

  done_length : (i : ℕ) (old now : List (Outside T g)) (at : UpTo i old now) → i < length old → length at.done ≡ i
  done_length i old now at within =
      let same = length_all_zip (FinishesOutside leaves) (take i old) at.done at.finished in
      let front = length-take i old in
      omega (arith, same, front)

  before : (i : ℕ) (old now : List (Outside T g)) (item : Outside T g) (at : UpTo i old now) → i < length old → now ≡ at.done ++ (get_or old i item ∷ drop (suc i) old)
  before i old now item at within = at.order ∙ ap (λ (l : List (Outside T g)). at.done ++ l) (drop-cons old i item within)

  -- the place is as it was
  next_place : (i : ℕ) (old now : List (Outside T g)) (item : Outside T g) → UpTo i old now → i < length old → item ≡ get_or now i item → item ≡ get_or old i item
  next_place i old now item at within there =
      let count : length at.done ≡ i = done_length i old now at within in
      there ∙ ap (λ (l : List (Outside T g)). get_or l i item) (before i old now item at within)
      ∙ ap (λ (n : ℕ). get_or (at.done ++ (get_or old i item ∷ drop (suc i) old)) n item) (sym count)
      ∙ get_or-append_seam at.done (get_or old i item) (drop (suc i) old) item

  pub next_freed : (i : ℕ) (old now : List (Outside T g)) (item : Outside T g) → UpTo i old now → i < length old → item ≡ get_or now i item → list_all is_freed old ≡ true → is_freed item ≡ true
  next_freed i old now item at within there all = at_place is_freed old i item all within (next_place i old now item at within there)

  pub one_place : (i : ℕ) (old now next : List (Outside T g)) (item new : Outside T g) → UpTo i old now → i < length old → item ≡ get_or now i item → next ≡ set now i new → FinishesOutside leaves item new → UpTo (i + 1) old next
  one_place i old now next item new at within there put finishes =
      let rest = drop (suc i) old in
      let count : length at.done ≡ i = done_length i old now at within in
      record {
        done = at.done ++ new ∷ [];
        order =
            put ∙ ap (λ (l : List (Outside T g)). set l i new) (before i old now item at within)
            ∙ ap (λ (n : ℕ). set (at.done ++ (get_or old i item ∷ rest)) n new) (sym count)
            ∙ set-append_seam at.done (get_or old i item) rest new
            ∙ sym (append_assoc at.done (new ∷ []) rest) ∙ ap (λ (n : ℕ). (at.done ++ new ∷ []) ++ drop n old) (sym (add-one i));
        finished = all_zip_more (FinishesOutside leaves) old at.done i item new within (next_place i old now item at within there) at.finished finishes;
      }

  drop_all : (xs : List (Outside T g)) → drop (length xs) xs ≡ []
  drop_all [] = refl
  drop_all (x ∷ xs) = drop_all xs

  take_all : (xs : List (Outside T g)) → take (length xs) xs ≡ xs
  take_all [] = refl
  take_all (x ∷ xs) = ap (λ (l : List (Outside T g)). x ∷ l) (take_all xs)

  pub all_places : (i : ℕ) (old now : List (Outside T g)) → UpTo i old now → i ≡ length old → AllZip (FinishesOutside leaves) old now
  all_places i old now at whole =
      let order : now ≡ at.done = at.order ∙ ap (λ (n : ℕ). at.done ++ drop n old) whole ∙ ap (λ (l : List (Outside T g)). at.done ++ l) (drop_all old) ∙ append-nil at.done in
      let front : take i old ≡ old = ap (λ (n : ℕ). take n old) whole ∙ take_all old in
      subst (λ (l : List (Outside T g)). AllZip (FinishesOutside leaves) old l) (sym order) (subst (λ (l : List (Outside T g)). AllZip (FinishesOutside leaves) l at.done) front at.finished)

  pub all_cached : (old now : List (Outside T g)) → AllZip (FinishesOutside leaves) old now → list_all is_cached now ≡ true
  all_cached [] [] all = refl
  all_cached [] (y ∷ ys) all = absurd all
  all_cached (x ∷ xs) [] all = absurd all
  all_cached (x ∷ xs) (y ∷ ys) all = ap (λ (b : Bool). not b && list_all is_cached ys) all.0.after.state ∙ all_cached xs ys all.1

  pub all_finished : (old now : List (Outside T g)) → AllZip (FinishesOutside leaves) old now → AllZip (IsFinished leaves) (filter_map freed_in old) (filter_map cached_in now)
  all_finished [] [] all = tt
  all_finished [] (y ∷ ys) all = absurd all
  all_finished (x ∷ xs) [] all = absurd all
  all_finished (x ∷ xs) (y ∷ ys) all =
      let fs : List (Freed T g) = filter_map freed_in xs in
      let cs : List (Cached T g) = filter_map cached_in ys in
      let first : IsFinished leaves (record { live = all.0.live }) all.0.cached = record { ticket = all.0.finishes.ticket; life = all.0.finishes.finished; left = all.0.finishes.left } in
      let whole : AllZip (IsFinished leaves) (cons_option (freed_of (Some all.0.live)) fs) (cons_option (Some all.0.cached) cs) = (first, all_finished xs ys all.1) in
      subst (λ (o : Option (Live T g)). AllZip (IsFinished leaves) (cons_option (freed_of o) fs) (cons_option (cached_in y) cs)) (sym all.0.before.same)
      (subst (λ (o : Option (Cached T g)). AllZip (IsFinished leaves) (cons_option (freed_of (Some all.0.live)) fs) (cons_option o cs)) (sym all.0.after.same) whole)
