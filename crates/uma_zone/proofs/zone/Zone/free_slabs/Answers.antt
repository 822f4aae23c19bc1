use Rattle.locked_keg.specs.LockedKeg.{keg_in}
use Rattle.uma_zone.proofs.zone.Zone.free_slabs.Goals as goal

pub drop-guard-requires : goal.drop-guard-requires
drop-guard-requires g c = c.free_slabs.ensures.kept.keeps _ c.lock-guard.ensures.kept

pub returns-clause-freed : goal.returns-clause-freed
returns-clause-freed g c =
    let done = c.free_slabs.ensures in
    record { was = keg_in c.lock-guard.result.value; is = keg_in c.free_slabs.new.self; of_zone = c.lock-guard.ensures.numbers; frees = done.freed; all = done.count; no_more = done.no_more }
