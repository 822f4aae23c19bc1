use Rattle.trace_lines.proofs.OneVerdict.{right_is_not_refused, one_right_reading, refused_at_one_line}
use Rattle.trace_lines.proofs.laws.one_verdict.Goals as goal

pub returns-clause-right : goal.returns-clause-right
returns-clause-right c = right_is_not_refused

pub returns-clause-told : goal.returns-clause-told
returns-clause-told c = one_right_reading

pub returns-clause-line : goal.returns-clause-line
returns-clause-line c = λ test bytes line other kind why a b. (refused_at_one_line test bytes line other kind why a b).line

pub returns-clause-kind : goal.returns-clause-kind
returns-clause-kind c = λ test bytes line other kind why a b. (refused_at_one_line test bytes line other kind why a b).kind
