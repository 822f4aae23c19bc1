-- No item is outside in a zone whose right is kept still.
use Rattle.std.proofs.Common.{◌≡◌, ◌<◌, ℕ, List, [], ◌∷◌, map}
use Rattle.std.specs.List.{All}
use Rattle.std.proofs.lemmas.List.Elements.{All-nil, All-cons, All-head, All-tail}
use Rattle.uma_zone.specs.declared.right.KeptRight.{KeptRight}
use Rattle.uma_zone.specs.Right.{right_no}

-- the zone of each kept right isn't there, so none of its items is outside
pub none_outside : (rights : List KeptRight) (HasZone : ℕ → Type 0) (out : ℕ → ℕ) → ((zone : ℕ) → zone < 8 → (HasZone zone → ⊥) → out zone ≡ 0) → All (λ no. HasZone no → ⊥) (map right_no rights) → All (λ zone. out zone ≡ 0) (map right_no rights)
none_outside [] HasZone out none absent = All-nil (λ zone. out zone ≡ 0)
none_outside (right ∷ rights) HasZone out none absent =
    All-cons (λ zone. out zone ≡ 0) (right_no right) (map right_no rights)
    (none (right_no right) right.below (All-head (λ no. HasZone no → ⊥) (right_no right) (map right_no rights) absent))
    (none_outside rights HasZone out none (All-tail (λ no. HasZone no → ⊥) (right_no right) (map right_no rights) absent))
