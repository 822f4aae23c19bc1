use Rattle.std.proofs.Common.{sym, ap, ◌∙◌}
use Rattle.trace_lines.specs.TextLines.{fields_of}
use Rattle.trace_schedule.specs.ScheduleGrammar.{says}
use Rattle.trace_schedule.proofs.ScheduleFollowing.{takes}
use Rattle.trace_schedule.proofs.reading.reader.ScheduleReaderGrammar.take.Goals as goal

pub returns-clause-takes : goal.returns-clause-takes
returns-clause-takes c =
    takes c.args.self.now c.apply.new.self c.args.number (fields_of c.args.line.now) c.in_ok-parsed.parsed c.apply.result
    c.if-not-self.false c.if-self.false (sym (c.by_line.ensures ∙ ap (λ b. says c.args.self.now.version b (fields_of c.args.line.now)) c.is_some.ensures) ∙ c.in_ok-parsed.was)
    c.apply.ensures.applied c.apply.ensures.memory
