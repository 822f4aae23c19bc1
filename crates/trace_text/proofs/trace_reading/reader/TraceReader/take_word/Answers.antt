use Rattle.std.proofs.Common.{sym, ◌∙◌}
use Rattle.trace_text.proofs.trace_reading.reader.TraceReader.take_word.Goals as goal

pub returns-clause-takes : goal.returns-clause-takes
returns-clause-takes c number fields begun unended is = c.take_parsed.ensures.takes number fields begun unended (is ∙ (sym c.by_word.ensures.value ∙ c.in_ok-parsed.was))
