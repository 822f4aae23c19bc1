use Rattle.std.proofs.Common.{◌≡◌, List, [], ◌∷◌, ◌++◌, map, ap, ◌∙◌}
use Rattle.std.proofs.lemmas.Result.{IfOk-weaker}
use Rattle.std.specs.List.{slice_split}
use Rattle.trace_text.specs.declared.trace.Round.{Round}
use Rattle.trace_text.specs.declared.trace_reading.fields.Entry.{Entry}
use Rattle.trace_text.specs.Grammar.{is_round, rounds_in}
use Rattle.trace_text.specs.Parts.{rounds_by, shown}
use Rattle.trace_text.proofs.Parts.{rounds_by_parts}
use Rattle.trace_text.proofs.trace_reading.rounds.RoundsSoFar.into_rounds.Goals as goal

pub returns : goal.returns
returns c =
    let workers = c.args.workers in
    let old = c.self.inside in
    let P : List Round → Type 0 = λ rounds. rounds ≡ rounds_by workers c.push.new.self.items in
    let Q : List Round → Type 0 = λ rounds. rounds ≡ rounds_in workers (slice_split is_round c.args.self) in
    let same : rounds_by workers c.push.new.self.items ≡ rounds_in workers (slice_split is_round c.args.self) =
    ap (rounds_by workers) c.in_ok-push.ensures.items
    ∙ rounds_by_parts workers (old.ended.items ++ old.part ∷ []) (slice_split is_round (map shown old.lines)) c.self.invariant
    ∙ ap (λ (lines : List Entry). rounds_in workers (slice_split is_round lines)) c.self.view_is
    in
    IfOk-weaker c.rounds_of_parts.result P Q (λ rounds is. is ∙ same) c.rounds_of_parts.ensures
