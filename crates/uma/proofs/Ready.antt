-- The passes with which a clock is made are ready for locals.
use Rattle.std.proofs.Common.{◌≡◌, ℕ, zero, suc, List, [], ◌∷◌, All, refl, ap}
use Rattle.std.proofs.lemmas.List.Elements.{All-nil, All-cons}
use mathlib.Core.Option.{some}
use lib.ListN.{get_elem?}
use Rattle.smr_clock.specs.declared.clock.Clock.{Clock}
use Rattle.smr_clock.specs.declared.host.Host.{Ghosts}
use Rattle.smr_clock.specs.declared.pass.Pass.{Pass}
use Rattle.smr_clock.specs.declared.view.View.{View}
use Rattle.smr_clock.specs.Making.{AreWorkers}
use Rattle.uma.specs.Passes.{IsReady}

all_there : {X : Type 0} (P : X → Type 0) (xs : List X) → ((i : ℕ) (x : X) → get_elem? xs i ≡ some x → P x) → All P xs
all_there P [] each = All-nil P
all_there P (x ∷ xs) each = All-cons P x xs (each zero x refl) (all_there P xs (λ i y is. each (suc i) y is))

module _ {H P : Type 0} {g : Ghosts H P} where
  pub all_ready : (clock : Clock H P) (copied : P → P) (first : P) (passes : List (Pass H P g)) → AreWorkers clock copied first passes → All (IsReady clock) passes
  all_ready clock copied first passes w =
      all_there (λ (pass : Pass H P g). IsReady clock pass) passes (λ n pass at. (w.here n pass at, ap (λ (v : View P). v.holder.phase) (w.fresh n pass at)))
