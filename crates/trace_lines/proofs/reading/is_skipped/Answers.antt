use Rattle.std.proofs.Common.{◌∙◌, sym, ap}
use Rattle.trace_lines.specs.TextLines.{is_skipped}
use Rattle.trace_lines.proofs.Cutting.{no_fields, skipped_by_first}
use Rattle.trace_lines.proofs.reading.is_skipped.Goals as goal

pub returns-in-Some : goal.returns-in-Some
returns-in-Some c = sym (skipped_by_first c.args.line.now c.in-Some.at (sym c.place_of_field.ensures ∙ c.in-Some.is))

pub returns-in-None : goal.returns-in-None
returns-in-None c = sym (ap is_skipped (no_fields c.args.line.now (sym c.place_of_field.ensures ∙ c.in-None.is)))
