-- Where a take under the lock of passes finds none, none was left.
use Rattle.std.proofs.Common.{◌≡◌, List, [], Option, Some, None, All, subst, sym}
use Rattle.std.specs.Prelude.{IfNone}
use Rattle.smr_clock.specs.declared.clock.Clock.{Clock}
use Rattle.smr_clock.specs.declared.host.Host.{Ghosts}
use Rattle.smr_clock.specs.declared.pass.Pass.{Pass}
use Rattle.smr_clock.specs.Belongs.{clock_id}
use Rattle.uma.specs.declared.pool.ReadyPasses.{ReadyPasses}
use Rattle.uma.specs.NoPass.{HasNoPass}
use Rattle.uma.specs.Passes.{IsReady}

module _ {H P : Type 0} {g : Ghosts H P} where
  pub none_left : (clock : Clock H P) (ready : ReadyPasses H P g) (found : Option (Pass H P g)) → clock_id ready.clock.value ≡ clock_id clock → IfNone found (ready.passes.items ≡ []) → IfNone found (HasNoPass g clock)
  none_left clock ready (Some pass) of none = tt
  none_left clock ready None of none = record { ready = ready; of_clock = of; none = none }

  -- passes that went through a call are ready still
  pub ready_still : (clock same : Clock H P) (passes kept : List (Pass H P g)) → same ≡ clock → kept ≡ passes → All (IsReady clock) passes → All (IsReady same) kept
  ready_still clock same passes kept is are ready =
      subst (λ (ps : List (Pass H P g)). All (IsReady same) ps) (sym are) (subst (λ (c : Clock H P). All (IsReady c) passes) (sym is) ready)
