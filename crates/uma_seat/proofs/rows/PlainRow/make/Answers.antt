use Rattle.std.proofs.Common.{rules, ◌≡◌}
use Rattle.std.proofs.lemmas.List.Elements.{All-map}
use Rattle.uma_seat.specs.Stack.{stack_of, empty_stack}
use Rattle.uma_seat.proofs.rows.PlainRow.make.Goals as goal

pub returns-clause-made : goal.returns-clause-made
returns-clause-made g c = record {
  len = search rules;
  empty = All-map (λ stack. stack ≡ empty_stack c.args.size) stack_of c.loop.buckets.items c.loop.invariant.empty;
  home = search rules;
}
