use Rattle.std.proofs.Common.{◌≡◌, List, [], ◌∷◌, ◌++◌, length, sym, ap, ◌∙◌, arith}
use Rattle.std.proofs.lemmas.List.{nil_from_length}
use Rattle.std.specs.Vec.Iter.{into_iter_items}
use Rattle.trace_text.specs.declared.trace.Round.{Round}
use Rattle.trace_text.specs.Parts.{rounds_from}
use Rattle.trace_text.proofs.TraceRounds.{last_round_more, one_round_more}
use Rattle.trace_text.proofs.trace_reading.rounds.rounds_of_parts.Goals as goal

-- the round of the part before follows those so far
pub loop-part-preserved : goal.loop-part-preserved
loop-part-preserved c =
    let at_it = c.loop-part in
    let part = c.in-Some-part.part in
    let rest = into_iter_items c.next-in-loop-part.new.self in
    let steps : into_iter_items at_it.part-iterator ≡ part ∷ rest = c.in-Some-part.ensures.steps.0 in
    record {
      all =
          ap (λ (rounds : List Round). rounds ++ rounds_from c.args.workers part.ops.items rest) c.in_ok-push.ensures.items
          ∙ one_round_more c.args.workers at_it.lists.items (into_iter_items at_it.part-iterator) rest part at_it.rounds.items _ _ steps at_it.invariant.all c.in_ok-lists_for.ensures
          c.from_vec-in-loop-part.ensures;
      left =
          let was = at_it.invariant.left in
          let gone = c.in-Some-part.ensures.steps.1 in
          let short = ap length steps in
          omega arith;
    }

pub returns : goal.returns
returns c =
    let at_it = c.loop-part in
    let empty : into_iter_items at_it.part-iterator ≡ [] = nil_from_length (into_iter_items at_it.part-iterator) (sym at_it.invariant.left ∙ c.in-None.ensures.steps.0) in
    c.from_vec-3.ensures ∙ c.in_ok-push-2.ensures.items
    ∙ last_round_more c.args.workers at_it.lists.items (into_iter_items at_it.part-iterator) at_it.rounds.items _ _ empty at_it.invariant.all c.in_ok-lists_for-2.ensures
    (c.from_vec-2.ensures ∙ c.new.ensures.items)
