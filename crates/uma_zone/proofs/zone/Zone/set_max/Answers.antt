use Rattle.locked_keg.specs.LockedKeg.{keg_in}
use Rattle.uma_zone.proofs.zone.Zone.set_max.Goals as goal

pub drop-guard-requires : goal.drop-guard-requires
drop-guard-requires g c = c.set_limit.ensures.kept.keeps _ c.lock-guard.ensures.kept

pub returns : goal.returns
returns g c =
    let done = c.set_limit.ensures in
    record {
      set = record {
        was = keg_in c.lock-guard.result.value;
        is = keg_in c.set_limit.new.self;
        of_zone = c.lock-guard.ensures.numbers;
        sets = done.set;
        answer = done.former;
      };
    }
