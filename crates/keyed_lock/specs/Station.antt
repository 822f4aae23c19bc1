-- What contracts see of a `Station`.
use Rattle.std.specs.Prelude.{ℕ}
use Rattle.atomic_table.specs.Seated.{TableId}
use Rattle.keyed_lock.specs.KeyedLock.{lock_key}
use Rattle.keyed_lock.specs.declared.pattern.station.Station.{Station}
use Rattle.keyed_lock.specs.HighWater.{water_id}

-- which water the station is at
abbrev pub station_water : Station → TableId
station_water station = water_id station.water

-- how many gauges its row has, whenever nobody holds it
abbrev pub station_count : Station → ℕ
station_count station = (lock_key station.row).count
