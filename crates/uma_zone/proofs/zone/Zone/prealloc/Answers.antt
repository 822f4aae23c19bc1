use Rattle.std.proofs.Common.{rules}
use Rattle.keyed_lock.specs.KeyedGuard.{guard_key}
use Rattle.locked_keg.specs.LockedKeg.{keg_in}
use Rattle.uma_zone.proofs.Locked.{below_key}
use Rattle.uma_zone.proofs.Prealloc.{preallocs, refuses_prealloc}
use Rattle.uma_zone.proofs.zone.Zone.prealloc.Goals as goal

pub drop-guard-requires : goal.drop-guard-requires
drop-guard-requires g c =
    let key = guard_key c.lock-guard.result in
    c.bring_slabs.ensures.keeps key (below_key c.args.self.now key c.args.domain c.lock-guard.ensures.key c.requires.domain) c.lock-guard.ensures.kept

pub returns : goal.returns
returns g c =
    let done = c.bring_slabs.ensures in
    record {
      count = search rules;
      brought = preallocs c.args.self.now (keg_in c.lock-guard.result.value) (keg_in c.bring_slabs.new.self) c.args.domain _ c.bring_slabs.result c.lock-guard.ensures.numbers done.count done.brings;
      refused = refuses_prealloc c.args.self.now (keg_in c.lock-guard.result.value) (keg_in c.bring_slabs.new.self) c.args.items c.args.domain _ c.bring_slabs.result c.lock-guard.ensures.numbers c.lock-guard.ensures.cap
          (search rules) done.refused;
    }
