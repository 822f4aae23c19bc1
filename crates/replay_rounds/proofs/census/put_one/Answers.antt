use Rattle.std.proofs.Common.{reverse}
use Rattle.replay_rounds.proofs.Filled.{popped, put-marked}
use Rattle.replay_rounds.proofs.census.put_one.Goals as goal

pub returns-in_ok-put-clause-slots : goal.returns-in_ok-put-clause-slots
returns-in_ok-put-clause-slots c =
    let first = popped c.args.lives.now.items c.pop.new.self.items c.in-Some-pop.item c.in-Some-pop.ensures.items in
    put-marked c.args.slots.now c.put.new.self c.args.slot c.in-Some.zone c.args.mark c.args.lives.now.items (reverse c.pop.new.self.items) c.in-Some-pop.item c.requires.within c.in-Some.is first c.in_ok-put.ensures
