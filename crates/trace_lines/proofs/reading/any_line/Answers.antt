use Rattle.std.proofs.Common.{◌∙◌, ◌+◌, sym, length}
use Rattle.std.proofs.Math.Seq.{drop-length}
use Rattle.std.proofs.lemmas.List.{take_rest}
use Rattle.trace_lines.proofs.Cutting.{line_before_end, line_without_end}
use Rattle.trace_lines.proofs.reading.any_line.Goals as goal

pub returns-in-Some-clause-line : goal.returns-in-Some-clause-line
returns-in-Some-clause-line c =
    rw (take_rest c.args.text.now (c.in-Some.at + 1), c.without_return.ensures) (line_before_end c.args.text.now c.in-Some.at (sym c.place_of_end.ensures ∙ c.in-Some.is))

pub returns-in-None-clause-line : goal.returns-in-None-clause-line
returns-in-None-clause-line c =
    rw (take_rest c.args.text.now (length c.args.text.now), drop-length c.args.text.now) (line_without_end c.args.text.now (sym c.place_of_end.ensures ∙ c.in-None.is) c.requires)
