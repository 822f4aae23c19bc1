use Rattle.std.proofs.Common.{refl, arith}
use Rattle.uma_bucket.proofs.Added.{joins}
use Rattle.uma_bucket.proofs.shelved.Sums.add_sums.Goals as goal

pub add_sums-requires-clause-room : goal.add_sums-requires-clause-room
add_sums-requires-clause-room c hook = let here = c.requires.room.tally hook in omega arith

pub add_sums-requires-clause-few : goal.add_sums-requires-clause-few
add_sums-requires-clause-few c hook = let here = c.requires.few.tally hook in omega arith

pub overflow_add-self : goal.overflow_add-self
overflow_add-self c = let a = c.requires.room.deferred in let b = c.requires.few.deferred in omega arith

pub returns : goal.returns
returns c = joins c.args.self.now c.args.others _ (record { tally = c.add_sums.ensures; deferred_too = refl })
