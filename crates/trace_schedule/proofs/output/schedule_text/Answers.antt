-- The lines so far print the text, and the next one prints more or is refused.
use Rattle.std.proofs.Common.{rules, ◌≡◌, ◌++◌}
use Rattle.std.proofs.lemmas.Result.{err_from_is_err_and}
use Rattle.smr_core.specs.CoreState.{opening}
use Rattle.smr_core.proofs.TurnLaws.{turn-is-determined, taken-is-not-refused}
use Rattle.trace_schedule.specs.ScheduleText.{config_of, hands_line}
use Rattle.trace_schedule.proofs.ScheduleLaws.{refused-prints-nothing, whole-output}
use Rattle.trace_schedule.proofs.ScheduleLemmas.{prints-more, refuses-schedule}
use Rattle.trace_schedule.proofs.ScheduleRange.{valid_in_range}
use Rattle.trace_schedule.proofs.output.schedule_text.Goals as goal

pub returns-in_err-print_line-clause-refused : goal.returns-in_err-print_line-clause-refused
returns-in_err-print_line-clause-refused c =
    let p = err_from_is_err_and c.from_residual-in_err-print_line.result c.from_residual-in_err-print_line.ensures.1 in
    let below = rw c.as_slice-line-items.ensures at c.loop-line-test.true in
    let refused = rw c.as_slice-line-items.ensures at c.in_err-print_line.ensures.refused in
    rw (p.1, p.2)
    (refuses-schedule c.args.schedule.now c.loop-line.line-index _ c.loop-line.core c.loop-line.text.items _ below
    c.loop-line.invariant refused)

pub loop-line-preserved : goal.loop-line-preserved
loop-line-preserved c =
    let below = rw c.as_slice-line-items.ensures at c.loop-line-test.true in
    let printed = rw c.as_slice-line-items.ensures at c.in_ok-print_line.ensures.printed in
    prints-more c.args.schedule.now.version (opening (config_of c.args.schedule.now)) c.loop-line.core c.print_line.new.core
    c.args.schedule.now.lines
    c.loop-line.line-index _
    c.loop-line.text.items c.print_line.new.text.items below c.loop-line.invariant printed

pub open-requires : goal.open-requires
open-requires c = valid_in_range c.args.schedule.now c.requires.valid

-- the schedule has an output, so none of its lines is refused
pub returns-clause-none_refused : goal.returns-clause-none_refused
returns-clause-none_refused c =
    let text : c.push_line.new.text.items ≡ c.loop-line.text.items ++ hands_line c.loop-line.core = search rules in
    let all = rw c.as_slice-line-items.ensures at c.loop-line-test.false in
    refused-prints-nothing turn-is-determined taken-is-not-refused c.args.schedule.now c.push_line.new.text.items
    (whole-output c.args.schedule.now c.loop-line.line-index c.loop-line.core c.loop-line.text.items
    c.push_line.new.text.items all c.loop-line.invariant text)
