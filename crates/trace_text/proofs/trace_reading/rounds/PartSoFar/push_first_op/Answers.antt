use Rattle.std.proofs.Common.{List, [], ◌∷◌, ◌++◌, refl, ap, ◌∙◌, arith}
use Rattle.trace_text.specs.declared.trace.Op.{Op}
use Rattle.trace_text.proofs.PartLists.{takes_first_op}
use Rattle.trace_text.proofs.trace_reading.rounds.PartSoFar.push_first_op.Goals as goal

pub returns-clause-taken : goal.returns-clause-taken
returns-clause-taken c =
    let filled = c.fill_up.new.lists in
    takes_first_op c.args.worker c.args.op c.args.self.now _ filled.items c.push.new.self c.fill_up.ensures.kept (omega (arith, c.in_ok-fill_up.ensures.filled c.requires, filled.ok.0))
    (c.in_ok-push.ensures.items ∙ ap (λ (ops : List Op). ops ++ c.args.op ∷ []) c.new-list.ensures.items) c.in_ok-push-2.ensures.items refl
