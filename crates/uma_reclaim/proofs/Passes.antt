-- How a pass goes on from call to call, and what its host's part took in meanwhile.
use Rattle.std.proofs.Common.{◌∙◌, arith}
use Rattle.smr_clock.specs.declared.clock.Clock.{Clock}
use Rattle.smr_clock.specs.declared.pass.Pass.{Pass}
use Rattle.smr_clock.specs.Belongs.{view}
use Rattle.uma_zone.specs.Frames.{GoesOn, KeepsPass}
use Rattle.uma_reclaim.specs.Frames.{TakesIn}
use Rattle.uma_reclaim.proofs.Told.{took_in, took_none}

module _ {H P : Type 0} {h : _} (by : Clock H P) where
  pub goes_on : (p q r : Pass H P h) → GoesOn by p q → GoesOn by q r → GoesOn by p r
  goes_on p q r first later = record { own = later.own; phase = later.phase ∙ first.phase; seen = omega (arith, first.seen, later.seen) }

  pub keeps_on : (p q r : Pass H P h) → KeepsPass by p q → KeepsPass by q r → KeepsPass by p r
  keeps_on p q r first later = record { goes_on = goes_on p q r first.goes_on later.goes_on; host = later.host ∙ first.host }

  -- it took in no note
  pub none_in : (merged : P → P → P) (p q : Pass H P h) → KeepsPass by p q → TakesIn merged by p q
  none_in merged p q kept = record { pass = kept.goes_on; host = took_none merged (view p).host (view q).host kept.host }

  -- it took in notes once it had taken in none
  pub then_in : (merged : P → P → P) (p q r : Pass H P h) → KeepsPass by p q → TakesIn merged by q r → TakesIn merged by p r
  then_in merged p q r kept took = record { pass = goes_on p q r kept.goes_on took.pass; host = took_in merged (view p).host (view q).host (view r).host kept.host took.host }
