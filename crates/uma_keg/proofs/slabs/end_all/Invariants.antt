use Rattle.std.proofs.Common.{◌≡◌, ◌≤◌, ◌<◌, ◌+◌, ◌*◌, ◌^◌, vec_len, sum_by, All}
use Rattle.uma_life.specs.Hook.{Hook}
use Rattle.uma_life.specs.Sum.{sum_of}
use Rattle.uma_keg.specs.Tallies.{ended_times}
use Rattle.uma_keg.specs.Ended.{IsEndedAt}
use Rattle.uma_keg.proofs.slabs.end_all.Given as goal

abbrev pub decreases-loop-place : goal.decreases-loop-place
decreases-loop-place g l = vec_len l.places

abbrev pub invariant-loop-place : goal.invariant-loop-place
invariant-loop-place g l = record {
  sums : (hook : Hook) → sum_of l.buried hook + sum_by (ended_times hook) l.places.items ≡ sum_of l.initial.buried hook + sum_by (ended_times hook) l.initial.places.items;
  counts : (hook : Hook) → sum_of l.buried hook + vec_len l.places * 2 ^ 64 ≤ sum_of l.initial.buried hook + vec_len l.initial.places * 2 ^ 64;
  ended : All (IsEndedAt (λ body gone. g.K.Hooks.leaves_fini l.hooks body 0 gone)) l.places.items → All (IsEndedAt (λ body gone. g.K.Hooks.leaves_fini l.hooks body 0 gone)) l.initial.places.items;
  room : (hook : Hook) → sum_of l.buried hook + vec_len l.places * 2 ^ 64 < 2 ^ 127;
}
