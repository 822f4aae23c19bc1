use Rattle.std.proofs.Common.{arith}
use Rattle.keyed_lock.specs.declared.lock.TheConstants.{CONTENDED}
use Rattle.keyed_lock.proofs.ProtocolSteps.{may_arrive}
use Rattle.keyed_lock.proofs.lock.KeyedLock.lock_held.Goals as goal

pub swap_new_seat-found-requires : goal.swap_new_seat-found-requires
swap_new_seat-found-requires g c =
    let shared = c.args.self.now.table.shared in
    (omega arith, may_arrive g.P.LockRule.keeps shared.key shared.table_id.slots CONTENDED (λ e. omega arith))
