-- The first line, then the other header lines, then the rounds, then `end`: what was appended is the whole text.
use Rattle.std.proofs.Common.{ℕ, List, sym, subst}
use Rattle.trace_text.specs.Grammar.{IsTraceText}
use Rattle.trace_print.proofs.AppendedLines.{whole_text}
use Rattle.trace_print.proofs.print.Goals as goal

pub returns-clause-text : goal.returns-clause-text
returns-clause-text c =
    let zones = c.as_slice-zones.ensures in
    let rounds = c.as_slice.ensures in
    whole_text c.args.trace.now c.push_version.new.text.items c.push_head.new.text.items c.push_rounds.new.text.items c.push_line.new.text.items
    (rw c.new-text.ensures.items at c.in_ok-push_version.ensures)
    c.in_ok-push_head.ensures
    (rw (zones, rounds) at c.in_ok-push_rounds.ensures)
    c.in_ok-push_line.ensures

pub returns-clause-reads_back : goal.returns-clause-reads_back
returns-clause-reads_back c = λ valid.
    let P : List ℕ → Type 0 = λ text. IsTraceText text c.args.trace.now in
    subst P (sym (returns-clause-text c)) (c.valid_traces_have_texts.ensures c.args.trace.now valid)
