use Rattle.std.proofs.Common.{sym, ◌∙◌}
use Rattle.replay_rounds.specs.Slots.{in_keg}
use Rattle.replay_rounds.proofs.Filled.{left-none, left-taken, left-other}
use Rattle.replay_rounds.proofs.census.lend_one.Goals as goal

pub returns-in_default-clause-left : goal.returns-in_default-clause-left
returns-in_default-clause-left c = left-none (in_keg c.args.head.now.zones c.args.place) c.args.slots.now c.take.new.self c.args.slot (sym c.in_default.ensures.taken) c.take.ensures.left

pub returns-then-not-is_of_keg-clause-left : goal.returns-then-not-is_of_keg-clause-left
returns-then-not-is_of_keg-clause-left c =
    left-other (in_keg c.args.head.now.zones c.args.place) c.args.slots.now c.take.new.self c.put.new.self c.args.slot c.in-Some.held c.requires.within (sym c.in-Some.ensures.taken)
    (sym c.is_of_keg.ensures ∙ c.if-not-is_of_keg.true) c.take.ensures.left c.in_ok-put.ensures

pub returns-clause-left : goal.returns-clause-left
returns-clause-left c =
    left-taken (in_keg c.args.head.now.zones c.args.place) c.args.slots.now c.take.new.self c.args.slot c.in-Some.held (sym c.in-Some.ensures.taken)
    (sym c.is_of_keg.ensures ∙ c.if-not-is_of_keg.false) c.take.ensures.left
