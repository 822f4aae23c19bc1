use Rattle.std.proofs.Common.{rules, ◌≡◌}
use Rattle.std.proofs.lemmas.List.Elements.{All-map}
use Rattle.uma_seat.specs.Stack.{loose_stack, empty_stack}
use Rattle.uma_seat.proofs.RowSteps.{new_home}
use Rattle.uma_seat.proofs.rows.FreedRow.make.Goals as goal

pub returns-clause-made : goal.returns-clause-made
returns-clause-made g c = record {
  len = search rules;
  empty = All-map (λ stack. stack ≡ empty_stack c.args.size) loose_stack c.loop.buckets.items c.loop.invariant.empty;
  home = λ home. new_home home c.args.size c.loop.buckets.items c.loop.invariant.empty;
}
