use Rattle.std.proofs.Common.{◌≡◌, ◌++◌, length}
use Rattle.std.specs.Vec.Iter.{into_iter_items, into_iter_len}
use Rattle.trace_text.specs.Parts.{rounds_by, rounds_from}
use Rattle.trace_text.proofs.trace_reading.rounds.rounds_of_parts.Given as goal

-- the rounds so far, and those that are left
abbrev pub invariant-loop-part : goal.invariant-loop-part
invariant-loop-part l = record {
  all : l.rounds.items ++ rounds_from l.workers l.lists.items (into_iter_items l.part-iterator) ≡ rounds_by l.workers l.fn.parts.items;
  left : into_iter_len l.part-iterator ≡ length (into_iter_items l.part-iterator);
}
