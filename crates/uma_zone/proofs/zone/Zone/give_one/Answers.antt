use Rattle.locked_keg.specs.LockedKeg.{keg_in}
use Rattle.uma_zone.proofs.zone.Zone.give_one.Goals as goal

pub drop-guard-requires : goal.drop-guard-requires
drop-guard-requires g c = c.give.ensures.kept.keeps _ c.lock-guard.ensures.kept

pub returns : goal.returns
returns g c = record {
  given = record { was = keg_in c.lock-guard.result.value; is = keg_in c.give.new.self; of_zone = c.lock-guard.ensures.numbers; gives = c.give.ensures.gives };
}
