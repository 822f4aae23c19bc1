-- What the host's part of a pass comes to, bucket by bucket.
use Rattle.std.proofs.Common.{◌≡◌, List, [], ◌∷◌, ◌++◌, map, fold, flat_map, sym, ap, ◌∙◌}
use Rattle.std.proofs.lemmas.List.{map-append, flat_map_more}
use Rattle.std.proofs.lemmas.List.Sums.{fold-append}
use Rattle.uma_reclaim.specs.Told.{TakesInNotes}

module _ {P : Type 0} (merged : P → P → P) where
  module _ {X : Type 0} (notes : X → List P) where
    -- the first bucket of those left is given back
    pub told_next : (start was now : P) (all before left : List X) (first : X) → fold merged was (flat_map notes before) ≡ fold merged start (flat_map notes all) → before ≡ first ∷ left → now ≡ fold merged was (notes first)
        → fold merged now (flat_map notes left) ≡ fold merged start (flat_map notes all)
    told_next start was now all before left first told split step =
        ap (λ (p : P). fold merged p (flat_map notes left)) step ∙ sym (fold-append merged was (notes first) (flat_map notes left)) ∙ sym (ap (λ (l : List X). fold merged was (flat_map notes l)) split) ∙ told

    -- none is left
    pub told_all : (start now : P) (all left : List X) → fold merged now (flat_map notes left) ≡ fold merged start (flat_map notes all) → left ≡ [] → now ≡ fold merged start (flat_map notes all)
    told_all start now all left told none = sym (ap (λ (l : List X). fold merged now (flat_map notes l)) none) ∙ told

    -- one domain more
    pub told_more : {Y : Type 0} (seen : Y → X) (start was now : P) (takes : List Y) (take : Y) → was ≡ fold merged start (flat_map notes (map seen takes)) → now ≡ fold merged was (notes (seen take)) → now ≡ fold merged start (flat_map notes (map seen (takes ++ take ∷ [])))
    told_more {Y} seen start was now takes take told step =
        step ∙ ap (λ (p : P). fold merged p (notes (seen take))) told ∙ sym (fold-append merged start (flat_map notes (map seen takes)) (notes (seen take)))
        ∙ ap (λ (l : List P). fold merged start l) (flat_map_more notes [] (map seen takes) (seen take) ∙ sym (ap (λ (l : List X). flat_map notes l) (map-append seen takes (take ∷ []))))

  -- it took in what it took in where it was the same before
  pub took_in : (was mid is : P) → mid ≡ was → TakesInNotes merged mid is → TakesInNotes merged was is
  took_in was mid is same took = record { notes = took.notes; told = took.told ∙ ap (λ (p : P). fold merged p took.notes) same }

  -- it took in nothing
  pub took_none : (was is : P) → is ≡ was → TakesInNotes merged was is
  took_none was is same = record { notes = []; told = same }
