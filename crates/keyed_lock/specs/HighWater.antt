-- What contracts see of a `HighWater` and of a `Gauge`.
use Rattle.std.specs.Prelude.{◌≡◌, ℕ, ◌≤◌}
use Rattle.atomic_table.specs.Seated.{TableId}
use Rattle.atomic_table.specs.declared.shared.Seat.{Seat}
use Rattle.keyed_lock.specs.declared.pattern.high_water.HighWater.{HighWater}

-- which water it is
abbrev pub water_id : HighWater → TableId
water_id water = water.table.shared.table_id

-- the height that a gauge knows to be reached
abbrev pub height_known : Seat (Unit {0}) ℕ → ℕ
height_known gauge = gauge.me.0

-- a gauge of this water, which knows that this height is reached
abbrev pub KnowsHeight : TableId → ℕ → Seat (Unit {0}) ℕ → Type 0
KnowsHeight water height gauge = (gauge.table_id ≡ water) × (height ≤ height_known gauge)
