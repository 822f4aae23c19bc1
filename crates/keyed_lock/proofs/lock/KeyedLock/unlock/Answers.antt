use Rattle.std.proofs.Common.{arith}
use Rattle.keyed_lock.proofs.ProtocolSteps.{may_unlock}
use Rattle.keyed_lock.proofs.lock.KeyedLock.unlock.Goals as goal

pub swap-found-requires : goal.swap-found-requires
swap-found-requires g c =
    let shared = c.args.self.now.table.shared in
    (c.requires.ours, omega arith, may_unlock g.P.LockRule.keeps shared.key shared.table_id.slots c.args.seat.now.id c.args.seat.now.me c.requires.key c.requires.holds)
