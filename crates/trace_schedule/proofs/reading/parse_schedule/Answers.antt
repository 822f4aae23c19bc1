-- The reader shows the lines of the text, and the schedule is that of the reader.
use Rattle.std.proofs.Common.{rules, ◌≡◌, ◌∙◌, sym, ap, Option, Some, None, IsSome}
use Rattle.std.specs.Option.{IfSome}
use Rattle.smr_core.specs.declared.clock_core.ClockConfig.{ClockConfig}
use Rattle.trace_schedule.specs.ScheduleText.{config_of}
use Rattle.trace_schedule.proofs.reading.parse_schedule.Goals as goal

only : (o : Option ClockConfig) (a : ClockConfig) → IsSome o → IfSome o (λ (config : ClockConfig). config ≡ a) → o ≡ Some a
only None a some is = absurd cc
only (Some config) a some is = ap (λ (x : ClockConfig). Some x) is

pub returns-clause-read : goal.returns-clause-read
returns-clause-read c =
    let r = c.in_ok-read_lines.ensures.read in
    let some : IsSome c.read_lines.new.grammar.clock = search rules in
    record {
      spoke = r.0;
      right = r.1;
      version = c.schedule.ensures.version ∙ r.2.version;
      clock = sym r.2.clock ∙ only c.read_lines.new.grammar.clock (config_of c.schedule.result) some c.schedule.ensures.clock;
      lines = c.schedule.ensures.lines ∙ r.2.turns;
    }
