use Rattle.std.proofs.Common.{ℕ, List, ap, get_or, ◌∙◌}
use Rattle.std.proofs.lemmas.Result.{IfOk-weaker}
use Rattle.trace_text.specs.declared.trace.ZoneHead.{ZoneHead}
use Rattle.trace_text.specs.Lines.{lines_of}
use Rattle.uma_replay.specs.Limits.{last_limit}
use Rattle.uma_replay.specs.Reporting.{AreLines}
use Rattle.uma_replay.proofs.LinesWith.{lines_with}
use Rattle.uma_replay.proofs.report.tested_lines.Goals as goal

pub returns-clause-lines : goal.returns-clause-lines
returns-clause-lines c =
    let heads = c.args.heads.now in
    let limits = c.as_slice.result.now in
    let shown : ℕ → ZoneHead → ℕ = λ z head. get_or limits z 0 in
    let last : ℕ → ZoneHead → ℕ = last_limit (lines_of c.args.rounds.now) in
    IfOk-weaker c.zone_lines.result (AreLines heads shown c.args.ledgers.now c.args.censuses.now) (AreLines heads last c.args.ledgers.now c.args.censuses.now)
    (λ lines are. lines_with heads shown last c.args.ledgers.now c.args.censuses.now lines
    (λ z head at. ap (λ (xs : List ℕ). get_or xs z 0) c.as_slice.ensures.value ∙ c.in_ok-limits.ensures.last z head at) are) c.zone_lines.ensures
