use Rattle.std.proofs.Common.{arith}
use Rattle.keyed_lock.proofs.RisingSteps.{may_copy}
use Rattle.keyed_lock.proofs.pattern.high_water.HighWater.copy.Goals as goal

pub split_seat-requires : goal.split_seat-requires
split_seat-requires c =
    let gauge = c.args.gauge.now in
    (c.requires, omega arith, may_copy gauge.id gauge.me.0)
