use Rattle.std.proofs.Common.{arith}
use Rattle.std.specs.Prelude.{◌==◌}
use prog.Atomic.{either}
use Rattle.keyed_lock.specs.declared.lock.TheConstants.{UNLOCKED, LOCKED}
use Rattle.keyed_lock.proofs.ProtocolSteps.{may_take, exchanged_held}
use Rattle.keyed_lock.proofs.lock.KeyedLock.try_lock.Goals as goal

pub compare_exchange-found-requires : goal.compare_exchange-found-requires
compare_exchange-found-requires g c =
    let shared = c.args.self.now.table.shared in
    let seat = c.load_new_seat-seen.result.1 in
    let looked = c.load_new_seat-seen.ensures in
    (looked.0, omega arith, may_take g.P.LockRule.keeps shared.key shared.table_id.slots seat.id seat.me (λ n. either (n == UNLOCKED) LOCKED n) looked.2 (exchanged_held LOCKED (λ e. omega arith)))
