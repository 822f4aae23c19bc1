use Rattle.std.proofs.Common.{rules}
use Rattle.locked_keg.specs.LockedKeg.{keg_in}
use Rattle.uma_zone.specs.Zone.{zone_home}
use Rattle.uma_zone.proofs.Locked.{of_book}
use Rattle.uma_zone.proofs.zone.Zone.give.Goals as goal

pub give_all-requires : goal.give_all-requires
give_all-requires g c = of_book (zone_home c.args.self.now) c.args.bucket _ c.lock-guard.ensures.numbers c.requires

pub drop-guard-requires : goal.drop-guard-requires
drop-guard-requires g c = c.give_all.ensures.kept.keeps _ c.lock-guard.ensures.kept

pub returns : goal.returns
returns g c = record {
  count = search rules;
  given = record { was = keg_in c.lock-guard.result.value; is = keg_in c.give_all.new.self; of_zone = c.lock-guard.ensures.numbers; gives = c.give_all.ensures.given.gives };
}
