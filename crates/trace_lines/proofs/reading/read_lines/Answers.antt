use Rattle.trace_lines.proofs.Following.{goes_on}
use Rattle.trace_lines.proofs.reading.read_lines.Goals as goal

pub lines-preserved : goal.lines-preserved
lines-preserved g c = (
  goes_on g.G.Grammar.test g.G.Grammar.shows c.args.text.now c.lines.rest.now c.first_line-is_allowed.result.0.now c.first_line-is_allowed.result.1.now c.lines.number c.lines.grammar c.read_line.new.grammar c.in_default.field-0
      c.lines.invariant.0 c.first_line-is_allowed.ensures.line c.first_line-is_allowed.ensures.shorter c.in_default.ensures.takes,
  c.in_default.ensures.kept,
)
