use Rattle.keyed_lock.proofs.ProtocolSteps.{closes, closes_kept}
use Rattle.keyed_lock.proofs.lock.KeyedLock.close.Goals as goal

pub returns-clause-home : goal.returns-clause-home
returns-clause-home g c = λ unlocked.
    let home = closes g.P.LockRule.keeps c.args.self.table.shared.key _ _ c.close.ensures.values.2 unlocked in
    (home.0, home.2)

pub returns-clause-kept : goal.returns-clause-kept
returns-clause-kept g c = λ value unlocked there. closes_kept g.P.LockRule.keeps c.args.self.table.shared.key _ _ value c.close.ensures.values.2 unlocked there
