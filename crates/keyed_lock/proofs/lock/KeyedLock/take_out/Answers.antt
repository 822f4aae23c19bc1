use Rattle.keyed_lock.proofs.ProtocolSteps.{last_taken}
use Rattle.keyed_lock.proofs.lock.KeyedLock.take_out.Goals as goal

pub exchange-taken-requires : goal.exchange-taken-requires
exchange-taken-requires g c = (c.requires.ours, last_taken g.P.LockRule.keeps c.args.self.now.table.shared.key _ c.requires.holds)
