use Rattle.std.proofs.Common.{◌≡◌, vec_len}
use Rattle.std.specs.Prelude.{All}
use Rattle.keyed_lock.specs.HighWater.{water_id}
use Rattle.keyed_lock.proofs.pattern.row.GaugeRow.new.Given as goal

abbrev pub invariant-loop : goal.invariant-loop
invariant-loop l = (vec_len l.gauges ≡ l.counter) × All (λ gauge. gauge.table_id ≡ water_id l.water) l.gauges.items
