-- Items come and go, and those that stay are at home.
use Rattle.std.proofs.Common.{◌≡◌, List, [], ◌∷◌, ◌++◌, map, Some, sym, ap, ◌∙◌, subst}
use Rattle.std.proofs.lemmas.List.{map-append}
use Rattle.std.proofs.lemmas.List.Elements.{All-push, All-pop}
use Rattle.uma_life.specs.declared.states.Ticket.{Ticket}
use Rattle.uma_bucket.specs.Home.{Home, IsHome, AreHome}

pub home_push : {A : Type 0} (home : Home) (ticket : A → Ticket) (xs ys : List A) (x : A) → ys ≡ xs ++ x ∷ [] → AreHome home (map ticket xs) → IsHome home (ticket x) → AreHome home (map ticket ys)
home_push home ticket xs ys x is before here =
    subst (AreHome home) (sym (map-append ticket xs (x ∷ [])) ∙ ap (map ticket) (sym is)) (All-push (IsHome home) (map ticket xs) (ticket x) before here)

pub home_pop : {A : Type 0} (home : Home) (ticket : A → Ticket) (xs ys : List A) (x : A) → xs ≡ ys ++ x ∷ [] → AreHome home (map ticket xs) → AreHome home (map ticket ys) × IsHome home (ticket x)
home_pop home ticket xs ys x was before = All-pop (IsHome home) (map ticket xs) (map ticket ys) (Some (ticket x)) (ap (map ticket) was ∙ map-append ticket ys (x ∷ [])) before
