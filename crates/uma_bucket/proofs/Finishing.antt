-- Finished items keep their tickets.
use Rattle.std.proofs.Common.{◌≡◌, ℕ, List, [], ◌∷◌, map, refl}
use Rattle.std.specs.List.{AllZip}
use Rattle.uma_life.specs.declared.states.Cached.{Cached}
use Rattle.uma_life.specs.Cached.{cached_ticket}
use Rattle.uma_bucket.specs.declared.freed.Freed.{Freed}
use Rattle.uma_bucket.specs.Freed.{freed_ticket, IsFinished}

pub same_tickets : {T : Type 0} {g : _} (leaves : T → ℕ → T → Type 0) (freed : List (Freed T g)) (cached : List (Cached T g)) → AllZip (IsFinished leaves) freed cached → map cached_ticket cached ≡ map freed_ticket freed
same_tickets leaves [] [] all = refl
same_tickets leaves [] (y ∷ ys) all = absurd all
same_tickets leaves (x ∷ xs) [] all = absurd all
same_tickets leaves (x ∷ xs) (y ∷ ys) all = λ i. all.0.ticket i ∷ same_tickets leaves xs ys all.1 i
