use Rattle.std.proofs.Common.{◌≡◌, ◌≤◌, ◌<◌, ◌+◌, ℕ, vec_len, vec_capacity}
use Rattle.uma_zcache.specs.Bases.{times}
use Rattle.uma_zcache.proofs.locked.all_numbers.Given as goal

abbrev pub invariant-loop-passed : goal.invariant-loop-passed
invariant-loop-passed l = record {
  listed : (number : ℕ) → number < l.numbers → l.numbers ≤ number + l.passed → times number l.home.items ≡ 1;
  not_yet : (number : ℕ) → number + l.passed < l.numbers → times number l.home.items ≡ 0;
  others : (number : ℕ) → l.numbers ≤ number → times number l.home.items ≡ 0;
  len : vec_len l.home ≡ l.passed;
  room : vec_capacity l.home ≡ l.numbers;
}
