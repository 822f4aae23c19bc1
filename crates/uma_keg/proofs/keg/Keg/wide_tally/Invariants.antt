use Rattle.std.proofs.Common.{◌≡◌, ◌≤◌, ◌+◌, ◌*◌, ◌^◌}
use Rattle.uma_life.specs.Hook.{Hook}
use Rattle.uma_life.specs.Sum.{sum_of}
use Rattle.uma_keg.specs.HomeItems.{item_at}
use Rattle.uma_keg.specs.Tallies.{home_times, sum_below}
use Rattle.uma_keg.proofs.keg.Keg.wide_tally.Given as goal

abbrev pub invariant-loop-no : goal.invariant-loop-no
invariant-loop-no g l = record {
  sums : (hook : Hook) → sum_of l.sums hook ≡ sum_of l.self.buried hook + sum_below (λ n. home_times hook (item_at l.self.home_items n)) l.no;
  room : (hook : Hook) → sum_of l.sums hook ≤ 2 ^ 120 + 2 ^ 82 + l.no * 2 ^ 64;
}
