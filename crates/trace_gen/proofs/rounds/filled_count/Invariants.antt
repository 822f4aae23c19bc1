use Rattle.std.proofs.Common.{◌≡◌, ◌+◌, ◌≤◌, ℕ, Bool, List, drop, length}
use Rattle.trace_gen.specs.Generator.{filled_from, filled_slots}
use Rattle.trace_gen.proofs.rounds.filled_count.Given as goal

-- those counted so far, and those that are left
pub record Counts (count slot : ℕ) (slots : List Bool) : Type 0 where
  pub all : count + length (filled_from slot (drop slot slots)) ≡ length (filled_slots slots)
  pub few : count ≤ slot

abbrev pub invariant-loop-slot : goal.invariant-loop-slot
invariant-loop-slot l = Counts l.count l.slot l.slots
