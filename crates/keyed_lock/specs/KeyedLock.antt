-- What contracts see of a lock.
use Rattle.keyed_lock.specs.declared.lock.KeyedLock.{KeyedLock}

-- the key that the lock was made with
abbrev pub lock_key : {T K P : Type 0} → KeyedLock T K P → K
lock_key lock = lock.table.shared.key
