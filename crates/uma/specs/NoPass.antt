-- Own: the passes of a clock that nobody has yet.
use Rattle.std.specs.Prelude.{◌≡◌, []}
use Rattle.smr_clock.specs.declared.clock.Clock.{Clock}
use Rattle.smr_clock.specs.declared.host.Host.{Ghosts}
use Rattle.smr_clock.specs.Belongs.{clock_id}
use Rattle.uma.specs.declared.pool.ReadyPasses.{ReadyPasses}

module _ {H P : Type 0} where
  -- The passes of the clock that nobody has yet, as they stood under their lock: there was none.
  pub record HasNoPass (g : Ghosts H P) (clock : Clock H P) : Type 0 where
    pub ready : ReadyPasses H P g
    pub of_clock : clock_id ready.clock.value ≡ clock_id clock
    pub none : ready.passes.items ≡ []
