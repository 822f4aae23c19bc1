use Rattle.std.proofs.Common.{◌≡◌, Ok, sym, ◌∙◌, rules}
use Rattle.std.proofs.lemmas.Result.{err_from_is_err_and}
use Rattle.trace_lines.specs.TextLines.{fields_of}
use Rattle.trace_text.specs.TraceWord.{word_from}
use Rattle.trace_text.proofs.TraceWords.{says_misplaced, says_no_word}
use Rattle.trace_text.proofs.trace_reading.parsed_line.word_in.Goals as goal

pub returns-in_err-word-clause-wrong : goal.returns-in_err-word-clause-wrong
returns-in_err-word-clause-wrong c =
    let p = err_from_is_err_and c.from_residual.result c.from_residual.ensures.1 in
    rw (p.1, p.2) (λ workers. says_no_word c.args.version c.args.stage workers (fields_of c.args.line.now) _ c.in_err-word.ensures)

pub returns-then-not-may_follow-clause-wrong : goal.returns-then-not-may_follow-clause-wrong
returns-then-not-may_follow-clause-wrong c workers =
    let word = c.in_ok-word.word in
    let rest = fields_of c.in_ok-word.rest.now in
    let is : word_from (fields_of c.args.line.now) ≡ Ok (word, rest) = first_of (search rules, cc) in
    says_misplaced c.args.version c.args.stage workers (fields_of c.args.line.now) word rest is (sym c.is_known.ensures ∙ c.if-not-is_known.false) (sym c.may_follow.ensures ∙ c.if-not-may_follow.true)
