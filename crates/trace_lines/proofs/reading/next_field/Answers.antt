use Rattle.std.proofs.Common.{◌∙◌, sym}
use Rattle.std.proofs.lemmas.List.{take_rest}
use Rattle.trace_lines.proofs.Cutting.{no_fields, field_ends, field_is_last}
use Rattle.trace_lines.proofs.reading.next_field.Goals as goal

pub returns-in_err-start-clause-none : goal.returns-in_err-start-clause-none
returns-in_err-start-clause-none c = rw c.from_residual.ensures (no_fields c.args.text.now (sym c.place_of_field.ensures ∙ c.in_err-start.was))

pub returns-in-Some-clause-some : goal.returns-in-Some-clause-some
returns-in-Some-clause-some c =
    field_ends c.args.text.now _ c.in_ok-start.start c.in-Some.at (take_rest c.args.text.now c.in_ok-start.start)
    (sym c.place_of_field.ensures ∙ c.in_ok-start.was) (sym c.place_of_blank.ensures ∙ c.in-Some.is)

pub returns-in-None-clause-some : goal.returns-in-None-clause-some
returns-in-None-clause-some c =
    field_is_last c.args.text.now _ c.in_ok-start.start (take_rest c.args.text.now c.in_ok-start.start)
    (sym c.place_of_field.ensures ∙ c.in_ok-start.was) (sym c.place_of_blank.ensures ∙ c.in-None.is)
