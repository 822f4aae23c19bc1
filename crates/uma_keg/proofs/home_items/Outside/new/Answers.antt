use Rattle.uma_keg.proofs.Outs.{CountsOuts-new, total_new}
use Rattle.uma_keg.proofs.home_items.Outside.new.Goals as goal

pub invariant_of-result : goal.invariant_of-result
invariant_of-result c = record { counted = rw c.in-Ok.ensures.ok (CountsOuts-new c.args.numbers c.requires.1); total = rw c.in-Ok.ensures.ok (total_new c.args.numbers) }
