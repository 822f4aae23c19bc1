-- What contracts say of a `GaugeRow`.
use Rattle.std.specs.Prelude.{◌≡◌, ℕ, ◌<◌, All, vec_len, vec_capacity}
use Rattle.atomic_table.specs.Seated.{TableId}
use Rattle.keyed_lock.specs.declared.pattern.row.GaugeRow.{GaugeRow}

abbrev pub gauge_count : GaugeRow → ℕ
gauge_count row = vec_len row.gauges

-- each gauge of the row is a gauge of this water
abbrev pub AreGaugesOf : TableId → GaugeRow → Type 0
AreGaugesOf water row = All (λ gauge. gauge.table_id ≡ water) row.gauges.items

-- a gauge can be laid back with no memory
abbrev pub HasRoom : GaugeRow → Type 0
HasRoom row = vec_len row.gauges < vec_capacity row.gauges
