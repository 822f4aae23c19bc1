use Rattle.std.proofs.Common.{map, refl}
use Rattle.trace_text.specs.declared.trace_reading.fields.Entry.TheVariants.{Moves}
use Rattle.trace_text.specs.Parts.{shown}
use Rattle.trace_text.proofs.Parts.{parts_same, sees_more, takes_line}
use Rattle.trace_text.proofs.trace_reading.rounds.RoundsSoFar.push_between.Goals as goal

pub invariant_of-self : goal.invariant_of-self
invariant_of-self c =
    let old = c.self.inside in
    parts_same (map shown old.lines) old.ended.items old.part c.push_between.new.self c.self.invariant c.in_err-push_between.ensures.same

pub invariant_of-self-2 : goal.invariant_of-self-2
invariant_of-self-2 c =
    let old = c.self.inside in
    takes_line old.lines c.push.new.self c.of.result (Moves c.args.between) old.ended.items old.part c.push_between.new.self c.push.ensures c.of.ensures refl c.self.invariant c.in_ok-push_between.ensures.taken

pub returns : goal.returns
returns c = sees_more c.self.inside.lines c.push.new.self c.of.result (Moves c.args.between) c.args.self.now c.push.ensures c.of.ensures c.self.view_is
