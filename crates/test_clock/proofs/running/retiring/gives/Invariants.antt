use Rattle.smr_clock.specs.Belongs.{IsPassOf, clock_id}
use Rattle.smr_deferred.specs.RetireList.{IsUsedWith}
use Rattle.test_clock.proofs.running.retiring.gives.Given as goal

abbrev pub invariant-loop-value : goal.invariant-loop-value
invariant-loop-value l = record { here : IsPassOf l.clock l.pass; mine : IsUsedWith (clock_id l.clock) l.list }
