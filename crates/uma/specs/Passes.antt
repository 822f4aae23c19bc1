-- Own: the passes of a pool's clock that no local has yet.
use Rattle.std.specs.Prelude.{◌≡◌}
use Rattle.smr_core.specs.declared.holder.Phase.TheVariants.{Outside}
use Rattle.smr_clock.specs.declared.clock.Clock.{Clock}
use Rattle.smr_clock.specs.declared.host.Host.{Ghosts}
use Rattle.smr_clock.specs.declared.pass.Pass.{Pass}
use Rattle.smr_clock.specs.Belongs.{IsPassOf, holder}

module _ {H P : Type 0} {g : Ghosts H P} where
  -- it is of this clock, and outside of any section
  abbrev pub IsReady : Clock H P → Pass H P g → Type 0
  IsReady clock pass = IsPassOf clock pass × ((holder pass).phase ≡ Outside)
