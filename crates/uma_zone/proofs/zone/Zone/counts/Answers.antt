use Rattle.locked_keg.specs.LockedKeg.{keg_in}
use Rattle.uma_zone.proofs.zone.Zone.counts.Goals as goal

pub returns-clause-stands : goal.returns-clause-stands
returns-clause-stands g c = record { was = keg_in c.lock-guard.result.value; of_zone = c.lock-guard.ensures.numbers; counted = c.counts.ensures.counts }
