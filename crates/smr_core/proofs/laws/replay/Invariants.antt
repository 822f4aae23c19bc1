-- So far: what the steps saw is a run of them, and there is room for the rest.
use Rattle.std.proofs.Common.{◌≡◌, ◌≤◌, length, take, vec_len, vec_capacity}
use Rattle.smr_core.specs.CoreStep.{Run}
use Rattle.smr_core.proofs.laws.replay.Given as goal

abbrev pub invariant-loop-index : goal.invariant-loop-index
invariant-loop-index l =
    record {
      run : Run l.fn.core (take l.index l.steps) l.seens.items l.core;
      count : vec_len l.seens ≡ l.index;
      room : length l.steps ≤ vec_capacity l.seens;
    }
