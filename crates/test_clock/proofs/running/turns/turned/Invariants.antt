use Rattle.std.proofs.Common.{◌≡◌}
use Rattle.smr_core.specs.declared.holder.Phase.{Phase}
use Rattle.smr_clock.specs.Belongs.{IsPassOf, holder}
use Rattle.test_clock.proofs.running.turns.turned.Given as goal

abbrev pub invariant-loop : goal.invariant-loop
invariant-loop l = record { here : IsPassOf l.clock l.pass; outside : (holder l.pass).phase ≡ Phase.Outside }
