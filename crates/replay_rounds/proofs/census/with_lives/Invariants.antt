use Rattle.std.proofs.Common.{◌≡◌, ◌<◌, ◌+◌, ◌*◌, ◌^◌, take}
use Rattle.uma_life.specs.Hook.{Hook}
use Rattle.uma_life.specs.Sum.{sum_of}
use Rattle.replay_rounds.specs.Slots.{live_sum}
use Rattle.replay_rounds.proofs.census.with_lives.Given as goal

abbrev pub invariant-loop-item : goal.invariant-loop-item
invariant-loop-item l = record {
  sums : (hook : Hook) → sum_of l.sums hook ≡ sum_of l.initial.sums hook + live_sum hook (take l.item-index l.lives);
  room : (hook : Hook) → sum_of l.sums hook < 2 ^ 121 + l.item-index * 2 ^ 64;
}
