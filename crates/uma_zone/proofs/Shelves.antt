-- What a request leaves on the shelf of its seat.
use Rattle.std.proofs.Common.{◌≡◌, List, [], ◌++◌, map, sym, ap, ◌∙◌}
use Rattle.std.proofs.lemmas.List.{append-nil}
use Rattle.uma_bucket.specs.declared.shelved.Shelved.{Shelved}
use Rattle.uma_zone.specs.Flushed.{bound_of, HasLastOf}

module _ {T H P : Type 0} {g h : _} where
  -- nothing is the last of anything
  pub none_left : (was is : List (Shelved T H P g h)) → is ≡ [] → HasLastOf was is
  none_left was is none = record { gone = map bound_of was; split = sym (append-nil (map bound_of was)) ∙ ap (λ (l : List (Shelved T H P g h)). map bound_of was ++ map bound_of l) (sym none) }
