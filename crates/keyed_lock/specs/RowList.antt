-- What contracts say of a `RowList`.
use Rattle.std.specs.Prelude.{◌≡◌, ℕ, ◌<◌, All, vec_len}
use Rattle.atomic_table.specs.Seated.{TableId}
use Rattle.keyed_lock.specs.KeyedLock.{lock_key}
use Rattle.keyed_lock.specs.declared.pattern.network.RowList.{RowList}
use Rattle.keyed_lock.specs.WaterKey.{key_water}

abbrev pub row_count : RowList → ℕ
row_count list = vec_len list.rows

-- each row has gauges, and its lock's key names this water
abbrev pub AreRowsOf : TableId → RowList → Type 0
AreRowsOf water list = All (λ row. (key_water (lock_key row) ≡ water) × (0 < (lock_key row).count)) list.rows.items
