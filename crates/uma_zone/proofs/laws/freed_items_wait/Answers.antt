use Rattle.uma_zone.proofs.Balances.{served_balances, refused_balances, kept_balances}
use Rattle.uma_zone.proofs.FreedWaits.{freed_wait}
use Rattle.uma_zone.proofs.Reused.{waits_for_later_goal}
use Rattle.uma_zone.proofs.laws.freed_items_wait.Goals as goal

pub returns-clause-calls : goal.returns-clause-calls
returns-clause-calls g c = record { served = served_balances; refused = refused_balances; kept = kept_balances; sequence = freed_wait }

pub returns-clause-goals : goal.returns-clause-goals
returns-clause-goals g c = waits_for_later_goal
