-- The items at home stay of one origin where those of one number change, or those of one slab.
use Rattle.std.proofs.Common.{◌≡◌, ◌≢◌, ℕ, List, [], ◌∷◌, ◌++◌, Option, Some, None, All, inl, inr, sym, ap, ◌∙◌}
use Rattle.std.proofs.lemmas.Bool.{cases_eq}
use Rattle.std.proofs.lemmas.List.Elements.{All-same, All-push}
use Rattle.uma_life.specs.declared.states.Stored.{Stored}
use Rattle.uma_life.specs.Stored.{stored_origin}
use Rattle.uma_keg.specs.declared.home_items.HomeItems.{HomeItems}
use Rattle.uma_keg.specs.HomeItems.{item_at}
use Rattle.uma_keg.specs.KegLaw.{AreOfOrigin}
use Rattle.uma_keg.specs.NewItems.{IsOfOrigin}

-- where `mark` is the number itself, or its slab
pub origins_kept : {T : Type 0} {g : _} (origin : List ℕ) (old new : HomeItems T g) (mark : ℕ → ℕ) (at : ℕ) → AreOfOrigin origin old → ((n : ℕ) (item : Stored T g) → mark n ≡ at → item_at new n ≡ Some item → stored_origin item ≡ origin) → ((n : ℕ) → mark n ≢ at → item_at new n ≡ item_at old n) → AreOfOrigin origin new
origins_kept origin old new mark at are here others n item is = elim (cases_eq (mark n) at) [
  | inl same ↦ here n item same is
  | inr else ↦ are n item (sym (others n else) ∙ is)
]

-- no item is there
pub none_there : {T : Type 0} {g : _} (origin : List ℕ) (o : Option (Stored T g)) (item : Stored T g) → o ≡ None → o ≡ Some item → stored_origin item ≡ origin
none_there origin o item none is = absurd (cc (none, is))

-- the item that was put there
pub one_there : {T : Type 0} {g : _} (origin : List ℕ) (put item : Stored T g) (o : Option (Stored T g)) → stored_origin put ≡ origin → o ≡ Some put → o ≡ Some item → stored_origin item ≡ origin
one_there origin put item o are there is = let same : put ≡ item = cc in ap stored_origin (sym same) ∙ are

-- the item of a place of a list whose items are of the origin
pub of_place : {T : Type 0} {g : _} (origin : List ℕ) (o : Option (Stored T g)) (item : Stored T g) → IsOfOrigin origin o → o ≡ Some item → stored_origin item ≡ origin
of_place origin None item are is = absurd (cc is)
of_place origin (Some found) item are is = let same : found ≡ item = cc in ap stored_origin (sym same) ∙ are

-- one item more
pub origins_pushed : {T : Type 0} {g : _} (origin : List ℕ) (now rest : List (Option (Stored T g))) (item : Stored T g) → now ≡ rest ++ Some item ∷ [] → stored_origin item ≡ origin → All (IsOfOrigin origin) rest → All (IsOfOrigin origin) now
origins_pushed {T} {g} origin now rest item is are all =
    let At : Option (Stored T g) → Type 0 = λ o. IsOfOrigin origin o in
    All-same At now (rest ++ Some item ∷ []) is (All-push At rest (Some item) all are)
