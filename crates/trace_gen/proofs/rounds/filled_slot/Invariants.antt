use Rattle.std.proofs.Common.{◌≡◌, ◌<◌, ℕ, Bool, List, drop, get_or, length}
use Rattle.trace_gen.specs.Generator.{filled_from, filled_slots}
use Rattle.trace_gen.proofs.rounds.filled_slot.Given as goal

-- the slot that is looked for has the number `left` of those that are left
pub record Left (left slot number : ℕ) (slots : List Bool) : Type 0 where
  pub same : get_or (filled_from slot (drop slot slots)) left 0 ≡ get_or (filled_slots slots) number 0
  pub there : left < length (filled_from slot (drop slot slots))

abbrev pub invariant-loop-slot : goal.invariant-loop-slot
invariant-loop-slot l = Left l.left l.slot l.number l.slots
