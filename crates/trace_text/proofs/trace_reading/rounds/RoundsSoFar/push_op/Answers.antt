use Rattle.std.proofs.Common.{map, refl}
use Rattle.trace_text.specs.declared.trace_reading.fields.Entry.TheVariants.{Does}
use Rattle.trace_text.specs.Parts.{shown}
use Rattle.trace_text.proofs.Parts.{parts_same, sees_more, takes_line}
use Rattle.trace_text.proofs.trace_reading.rounds.RoundsSoFar.push_op.Goals as goal

pub invariant_of-self : goal.invariant_of-self
invariant_of-self c =
    let old = c.self.inside in
    parts_same (map shown old.lines) old.ended.items old.part c.push_op.new.self c.self.invariant c.in_err-push_op.ensures.same

pub invariant_of-self-2 : goal.invariant_of-self-2
invariant_of-self-2 c =
    let old = c.self.inside in
    takes_line old.lines c.push.new.self c.of.result (Does c.args.worker c.args.op) old.ended.items old.part c.push_op.new.self c.push.ensures c.of.ensures refl c.self.invariant c.in_ok-push_op.ensures.taken

pub returns : goal.returns
returns c = sees_more c.self.inside.lines c.push.new.self c.of.result (Does c.args.worker c.args.op) c.args.self.now c.push.ensures c.of.ensures c.self.view_is
