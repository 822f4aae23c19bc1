use Rattle.keyed_lock.specs.KeyedLock.{lock_key}
use Rattle.uma_zcache.proofs.cache.ZCache.seat.Goals as goal

pub drop-guard-requires : goal.drop-guard-requires
drop-guard-requires g c = c.new_share-share.ensures.keeps (lock_key c.lock-guard.result.lock.now) c.lock-guard.ensures.mine
