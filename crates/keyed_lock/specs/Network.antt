-- What contracts see of a `Network`.
use Rattle.std.specs.Prelude.{ℕ}
use Rattle.atomic_table.specs.Seated.{TableId}
use Rattle.keyed_lock.specs.KeyedLock.{lock_key}
use Rattle.keyed_lock.specs.declared.pattern.network.Network.{Network}
use Rattle.keyed_lock.specs.HighWater.{water_id}

-- which water the network is at
abbrev pub network_water : Network → TableId
network_water network = water_id network.water

-- how many rows it has
abbrev pub network_rows : Network → ℕ
network_rows network = (lock_key network.rows).count
