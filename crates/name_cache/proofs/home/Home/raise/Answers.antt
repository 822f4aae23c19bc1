use Rattle.keyed_lock.specs.KeyedLock.{lock_key}
use Rattle.name_cache.proofs.Clocks.{root_too}
use Rattle.name_cache.proofs.home.Home.raise.Goals as goal

pub returns-clause-raised : goal.returns-clause-raised
returns-clause-raised g c =
    let home = c.args.self.now in
    let root = c.lock-guard.result.value in
    record {
      was = root;
      is = c.raise.new.root;
      of_clock = root_too (lock_key home.root).clock.value home.clock home.same_clock root c.lock-guard.ensures.kept;
      words = c.raise.ensures.words;
      rest = c.raise.ensures.root.kept;
    }
