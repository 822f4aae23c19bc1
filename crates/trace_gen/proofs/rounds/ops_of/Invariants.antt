use Rattle.std.proofs.Common.{◌≡◌, map, take}
use Rattle.std.specs.List.{flat_map}
use Rattle.trace_text.specs.Grammar.{op_by}
use Rattle.trace_gen.specs.Rounds.{did_entry}
use Rattle.trace_gen.proofs.rounds.ops_of.Given as goal

-- the operations so far
abbrev pub invariant-loop-did : goal.invariant-loop-did
invariant-loop-did l = l.ops.items ≡ flat_map (op_by l.worker) (map did_entry (take l.did-index l.part))
