use Rattle.keyed_lock.specs.KeyedLock.{lock_key}
use Rattle.uma_zcache.proofs.Witnesses.{gives_round, refuses_alloc}
use Rattle.uma_zcache.proofs.cache.ZCache.fill.Goals as goal

pub drop-guard-requires : goal.drop-guard-requires
drop-guard-requires g c = c.round.ensures.kept.keeps (lock_key c.lock-guard.result.lock.now) c.lock-guard.ensures.mine

pub returns-clause-given : goal.returns-clause-given
returns-clause-given g c = gives_round c.args.self.now c.lock-guard.result.value c.round.new.self c.args.seat.now c.round.new.seat c.round.result c.lock-guard.ensures.kept c.round.ensures.kept c.round.ensures.fills

pub returns-clause-refused : goal.returns-clause-refused
returns-clause-refused g c = refuses_alloc c.args.self.now c.lock-guard.result.value c.round.new.self c.args.seat.now c.round.new.seat c.round.result c.lock-guard.ensures.kept c.requires.empty c.round.ensures.kept c.round.ensures.turned
