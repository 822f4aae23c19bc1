use Rattle.std.proofs.Common.{refl}
use Rattle.keyed_lock.specs.KeyedLock.{lock_key}
use Rattle.uma_zcache.specs.Cache.{cache_key}
use Rattle.uma_zcache.proofs.cache.ZCache.drain.Goals as goal

pub drop-guard-requires : goal.drop-guard-requires
drop-guard-requires g c = c.release_all.ensures.keeps (lock_key c.lock-guard.result.lock.now) c.lock-guard.ensures.mine

pub returns-clause-drains : goal.returns-clause-drains
returns-clause-drains g c = record {
  released = record {
    was = c.lock-guard.result.value;
    is = c.release_all.new.self;
    kept = c.lock-guard.ensures.kept;
    keeps = c.release_all.ensures.keeps (cache_key c.args.self.now) c.lock-guard.ensures.kept;
    releases = c.release_all.ensures.releases;
  };
  counts = c.release_all.ensures.count;
  empty = c.release_all.ensures.empty;
  causes = refl;
  same = record { bucket = c.release_all.ensures.size; fails = refl };
}
