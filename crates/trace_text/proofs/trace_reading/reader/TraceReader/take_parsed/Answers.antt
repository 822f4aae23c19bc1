use Rattle.std.proofs.Common.{Err, sym, subst, ◌∙◌}
use Rattle.trace_lines.specs.declared.refused.LineRefused.{LineRefused}
use Rattle.trace_lines.specs.Taking.{ReadsLine}
use Rattle.trace_text.specs.Grammar.{trace_test}
use Rattle.trace_text.specs.TraceKnown.{Knows}
use Rattle.trace_text.proofs.TraceFollowing.{conflicts, takes}
use Rattle.trace_text.proofs.trace_reading.reader.TraceReader.take_parsed.Goals as goal

pub returns-in-Some-clause-takes : goal.returns-in-Some-clause-takes
returns-in-Some-clause-takes c number fields begun unended is =
    let P : LineRefused → Type 0 = λ why. ReadsLine trace_test Knows c.args.self.now number fields (Err why) c.args.self.now in
    subst P (sym c.into.ensures)
    (conflicts c.args.self.now c.args.self.now number fields c.args.self.now.workers c.args.parsed c.in-Some.kind begun unended is c.requires.names
    (sym c.conflict.ensures ∙ c.in-Some.is))

pub returns-in-None-clause-takes : goal.returns-in-None-clause-takes
returns-in-None-clause-takes c number fields begun unended is =
    takes c.args.self.now c.apply.new.self number fields c.args.self.now.workers c.args.parsed c.apply.result begun unended is c.requires.names
    (sym c.conflict.ensures ∙ c.in-None.is) c.apply.ensures.applied c.apply.ensures.memory
