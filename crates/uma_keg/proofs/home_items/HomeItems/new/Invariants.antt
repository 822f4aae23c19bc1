use Rattle.std.proofs.Common.{◌≡◌, ◌≤◌, None, replicate, vec_len}
use Rattle.std.specs.Vec.{vec_capacity}
use Rattle.uma_keg.proofs.home_items.HomeItems.new.Given as goal

abbrev pub invariant-loop : goal.invariant-loop
invariant-loop g l = (l.slabs.items ≡ replicate l.counter None) × (vec_len l.slabs ≡ l.counter) × (l.cap ≤ vec_capacity l.slabs)
