use Rattle.std.proofs.Common.{rules}
use Rattle.std.proofs.lemmas.List.{take_rest}
use Rattle.trace_text.proofs.TraceWords.{free_first}
use Rattle.trace_text.proofs.trace_reading.parsed_line.free_or_any_word.Goals as goal

pub returns-in-102 : goal.returns-in-102
returns-in-102 c =
    rw (take_rest c.args.line.now 5) (free_first c.args.line.now c.in-102.len_at_least (search rules) (search rules) (search rules) (search rules) (search rules))
