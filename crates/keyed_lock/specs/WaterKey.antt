-- What rules read of a `WaterKey`.
use Rattle.atomic_table.specs.Seated.{TableId}
use Rattle.keyed_lock.specs.declared.pattern.key.WaterKey.{WaterKey}
use Rattle.keyed_lock.specs.HighWater.{water_id}

-- which water the key names
abbrev pub key_water : WaterKey → TableId
key_water key = water_id key.water.value
