-- What contracts see of a guard.
use Rattle.keyed_lock.specs.declared.lock.KeyedGuard.{KeyedGuard}
use Rattle.keyed_lock.specs.KeyedLock.{lock_key}

-- the key of the lock that the guard holds
abbrev pub guard_key : {T K P : Type 0} → KeyedGuard T K P → K
guard_key guard = lock_key guard.lock.now
