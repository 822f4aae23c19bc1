use Rattle.std.proofs.Common.{map, refl}
use Rattle.trace_text.specs.declared.trace_reading.fields.Entry.TheVariants.{Round}
use Rattle.trace_text.specs.Parts.{shown}
use Rattle.trace_text.proofs.Parts.{keeps_parts, sees_more, takes_round}
use Rattle.trace_text.proofs.trace_reading.rounds.RoundsSoFar.push_round.Goals as goal

pub invariant_of-self : goal.invariant_of-self
invariant_of-self c =
    let old = c.self.inside in
    let kept = c.in_err-end_part.ensures in
    keeps_parts (map shown old.lines) old.ended.items c.end_part.new.ended.items old.part c.end_part.new.part c.self.invariant kept.same_ended kept.same_part

pub invariant_of-self-2 : goal.invariant_of-self-2
invariant_of-self-2 c =
    let old = c.self.inside in
    let ends = c.in_ok-end_part.ensures in
    takes_round old.lines c.push.new.self c.of.result Round old.ended.items c.end_part.new.ended.items old.part c.end_part.new.part c.push.ensures c.of.ensures refl c.self.invariant
    ends.ended ends.ops ends.between

pub returns : goal.returns
returns c = sees_more c.self.inside.lines c.push.new.self c.of.result Round c.args.self.now c.push.ensures c.of.ensures c.self.view_is
