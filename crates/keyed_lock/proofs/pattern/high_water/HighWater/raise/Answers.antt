use Rattle.std.proofs.Common.{arith}
use Rattle.keyed_lock.proofs.RisingSteps.{may_raise}
use Rattle.keyed_lock.proofs.pattern.high_water.HighWater.raise.Goals as goal

pub fetch_max-requires : goal.fetch_max-requires
fetch_max-requires c =
    let gauge = c.args.gauge.now in
    (c.requires, omega arith, may_raise c.args.self.now.table.shared.table_id.slots gauge.id c.args.height gauge.me)
