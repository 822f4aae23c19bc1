use Rattle.std.proofs.Common.{rules}
use Rattle.std.proofs.lemmas.List.{take_rest}
use Rattle.trace_text.proofs.TraceWords.{alloc_first}
use Rattle.trace_text.proofs.trace_reading.parsed_line.first_word.Goals as goal

pub returns-in-97 : goal.returns-in-97
returns-in-97 c =
    rw (take_rest c.args.line.now 6)
    (alloc_first c.args.line.now c.in-97.len_at_least (search rules) (search rules) (search rules) (search rules) (search rules) (search rules))
