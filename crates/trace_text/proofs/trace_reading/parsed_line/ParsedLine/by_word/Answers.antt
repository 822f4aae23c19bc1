use Rattle.trace_text.proofs.trace_reading.parsed_line.ParsedLine.by_word.Goals as goal

pub returns-in-Head-clause-names : goal.returns-in-Head-clause-names
returns-in-Head-clause-names c = c.parse_head.ensures.names c.args.workers

pub returns-in-SetMax-clause-names : goal.returns-in-SetMax-clause-names
returns-in-SetMax-clause-names c = c.parse_setmax.ensures.names c.args.workers
