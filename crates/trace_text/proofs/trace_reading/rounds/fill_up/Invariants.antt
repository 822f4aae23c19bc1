use Rattle.std.proofs.Common.{◌≡◌, ℕ, ◌-◌, ◌≤◌, vec_len}
use Rattle.trace_text.specs.Parts.{list_at}
use Rattle.trace_text.proofs.trace_reading.rounds.fill_up.Given as goal

-- each worker does what it did, and there are no more lists than are wanted, unless there were more
abbrev pub invariant-loop-alloc : goal.invariant-loop-alloc
invariant-loop-alloc l = record {
  kept : (worker : ℕ) → list_at l.lists.items worker ≡ list_at l.initial.lists.items worker;
  few : vec_len l.initial.lists ≤ l.count → vec_len l.lists ≤ l.count;
}

abbrev pub decreases-loop-alloc : goal.decreases-loop-alloc
decreases-loop-alloc l = l.count - vec_len l.lists
