-- Own: a law of the tries to seal a domain's loose buckets.
use Rattle.std.specs.Prelude.{◌≡◌, ◌+◌, ◌⊎◌, List, [], ◌∷◌, map, sum_by}
use Rattle.std.specs.List.{All}
use Rattle.smr_clock.specs.declared.host.Host.{Ghosts as HostGhosts}
use Rattle.smr_clock.specs.declared.clock.Setup.{Setup}
use Rattle.smr_clock.specs.declared.view.View.{View}
use Rattle.smr_clock.specs.Belongs.{TableId}
use Rattle.uma_life.specs.declared.hooks.Body.{Ghosts}
use Rattle.uma_bucket.specs.declared.freed.Loose.{Loose}
use Rattle.uma_bucket.specs.declared.freed.Sealed.{Sealed}
use Rattle.uma_bucket.specs.Sealed.{Seals, IsSealedAt, sealed_bucket}
use Rattle.uma_domain.specs.Listed.{loose_len, sealed_len}
use Rattle.uma_domain.specs.Tries.{Tries}

-- The first list is the two others, merged: each of its elements is the next of the one or of the other.
abbrev pub Merges : {A : Type 0} → List A → List A → List A → Type 0
Merges {A} [] one other = (one ≡ []) × (other ≡ [])
Merges {A} (x ∷ xs) one other = ((rest : List A) × (one ≡ x ∷ rest) × Merges xs rest other) ⊎ ((rest : List A) × (other ≡ x ∷ rest) × Merges xs one rest)

module _ {T H P : Type 0} {g h : _} where
  -- The bucket was sealed by a pass in these tries: it has the goal of an advance that was made then, and a note of the clock, taken after that.
  pub record IsSealedThen (copied : P → P) (clock : TableId × Setup) (sealed : Sealed T H P g h) : Type 0 where
    pub before : View P
    pub after : View P
    pub seals : Seals copied before (sealed_bucket sealed) sealed after
    pub of_clock : IsSealedAt clock sealed

  -- No loose bucket is lost, and none comes from elsewhere: those that stay and those that were sealed are the loose ones that there were, each kind in its order. So no item is lost either. Each one that was sealed waits for a goal that was made after all its items were freed, since it was loose, and so full of freed items, before that.
  pub record SealsOrKeeps (copied : P → P) (clock : TableId × Setup) (loose stay : List (Loose T g)) (sealed : List (Sealed T H P g h)) : Type 0 where
    pub merged : Merges loose stay (map sealed_bucket sealed)
    pub items : sum_by loose_len stay + sum_by sealed_len sealed ≡ sum_by loose_len loose
    pub then : All (IsSealedThen copied clock) sealed

abbrev pub TriesLoseNone : (T H P : Type 0) (g : Ghosts T) (h : HostGhosts H P) → Type 0
TriesLoseNone T H P g h =
    (copied : P → P) (clock : TableId × Setup) (v v' : View P) (loose stay : List (Loose T g)) (sealed : List (Sealed T H P g h)) → Tries copied clock v loose stay sealed v' → SealsOrKeeps copied clock loose stay sealed
