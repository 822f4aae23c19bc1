use Rattle.std.proofs.Common.{◌≡◌, ◌<◌, vec_len}
use Rattle.std.specs.Prelude.{All}
use Rattle.keyed_lock.specs.KeyedLock.{lock_key}
use Rattle.keyed_lock.specs.HighWater.{water_id}
use Rattle.keyed_lock.specs.WaterKey.{key_water}
use Rattle.keyed_lock.proofs.pattern.network.RowList.new.Given as goal

abbrev pub invariant-loop : goal.invariant-loop
invariant-loop l = (vec_len l.list ≡ l.counter) × All (λ row. (key_water (lock_key row) ≡ water_id l.water) × (0 < (lock_key row).count)) l.list.items
