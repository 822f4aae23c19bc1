use Rattle.std.proofs.Common.{◌≤◌, length, arith}
use Rattle.replay_worker.proofs.Boxes.{emptied_past, emptied_left}
use Rattle.replay_worker.proofs.slots.Slots.take.Goals as goal

pub returns-then-place-len-clause-left : goal.returns-then-place-len-clause-left
returns-then-place-len-clause-left c =
    let past : length c.self.inside.held.items ≤ c.args.slot = omega arith in
    rw (← c.self.view_is) (emptied_past c.self.inside.held.items c.args.slot past)

pub returns-clause-left : goal.returns-clause-left
returns-clause-left c = rw (← c.self.view_is) (emptied_left c.self.inside.held.items c.args.slot c.take.new.self c.take.ensures.after)
