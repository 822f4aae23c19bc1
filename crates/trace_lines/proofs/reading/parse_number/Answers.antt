use Rattle.std.proofs.Common.{arith, inl, inr}
use Rattle.trace_lines.proofs.Numbers.{number_begins, number_is_utf8, parsed_is_number, number_is_parsed}
use Rattle.trace_lines.proofs.reading.parse_number.Goals as goal

pub returns-in_default-clause-none : goal.returns-in_default-clause-none
returns-in_default-clause-none c = λ n is. let begins = number_begins c.args.text.now n is in omega (arith, begins.nonempty)

pub returns-then-first-eq43-clause-none : goal.returns-then-first-eq43-clause-none
returns-then-first-eq43-clause-none c = λ n is. let begins = number_begins c.args.text.now n is in omega (arith, begins.first)

pub returns-then-text-gt1-clause-none : goal.returns-then-text-gt1-clause-none
returns-then-text-gt1-clause-none c = λ n is. let begins = number_begins c.args.text.now n is in let one = begins.zero_alone c.if-first-eq48.true in omega (arith, one)

pub returns-in-Ok-clause-some : goal.returns-in-Ok-clause-some
returns-in-Ok-clause-some c =
    rw c.ok.ensures.value (parsed_is_number c.args.text.now c.in-Ok.text.now c.parse.result c.in-Ok.ensures.cases.0 c.parse.ensures.value.0 c.if-first-eq43.false
    (λ zero. elim c.else-first-eq48.either [ inl alone ↦ omega arith | inr other ↦ absurd (other zero) ]))

pub returns-in-Ok-clause-none : goal.returns-in-Ok-clause-none
returns-in-Ok-clause-none c = rw c.ok.ensures.value (number_is_parsed c.args.text.now c.in-Ok.text.now c.parse.result c.in-Ok.ensures.cases.0 c.parse.ensures.value.0)

pub returns-in-Err-clause-none : goal.returns-in-Err-clause-none
returns-in-Err-clause-none c = λ n is. c.in-Err.ensures.cases.0 (number_is_utf8 c.args.text.now n is)
