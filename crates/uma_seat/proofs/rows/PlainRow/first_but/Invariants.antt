use Rattle.std.proofs.Common.{◌≡◌, ◌<◌, ℕ, []}
use Rattle.std.specs.Prelude.{◌≢◌}
use Rattle.uma_seat.specs.Stack.{stack_at}
use Rattle.uma_seat.specs.Row.{stacks_of}
use Rattle.uma_seat.proofs.rows.PlainRow.first_but.Given as goal

abbrev pub invariant-loop-domain : goal.invariant-loop-domain
invariant-loop-domain g l = (k : ℕ) → k < l.domain → k ≢ l.own → (stack_at (stacks_of l.self) k).items ≡ []
