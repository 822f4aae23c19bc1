use Rattle.std.proofs.Common.{◌∙◌}
use Rattle.replay_worker.proofs.Boxes.{padded_below, put_unboxed}
use Rattle.replay_worker.proofs.slots.Slots.put.Goals as goal

pub index_mut-requires : goal.index_mut-requires
index_mut-requires c = padded_below c.self.inside.held.items c.args.self.now c.args.slot _ (c.self.view_is ∙ c.in_ok-grow.ensures) c.self.inside.held.ok.0

pub returns : goal.returns
returns c = put_unboxed c.self.inside.held.items c.args.self.now c.args.slot c.in-Ok.held c.args.held (c.self.view_is ∙ c.in_ok-grow.ensures) c.in-Ok.ensures.ok
