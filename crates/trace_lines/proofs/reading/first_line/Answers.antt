use Rattle.std.proofs.Common.{◌∙◌, ◌+◌, sym}
use Rattle.std.proofs.lemmas.List.{take_rest}
use Rattle.trace_lines.proofs.Cutting.{plain_line, plain_line_allowed}
use Rattle.trace_lines.proofs.reading.first_line.Goals as goal

pub returns-then-text-at-eq10-clause-line : goal.returns-then-text-at-eq10-clause-line
returns-then-text-at-eq10-clause-line c =
    rw (take_rest c.args.text.now (c.in-Some.at + 1)) (plain_line c.args.text.now c.in-Some.at (sym c.place_past_plain.ensures ∙ c.in-Some.is) c.if-text-at-eq10.true)

pub returns-then-text-at-eq10-clause-allowed : goal.returns-then-text-at-eq10-clause-allowed
returns-then-text-at-eq10-clause-allowed c = sym (plain_line_allowed c.args.text.now c.in-Some.at (sym c.place_past_plain.ensures ∙ c.in-Some.is))
