-- The sums have the entries of the rows so far.
use Rattle.std.proofs.Common.{◌+◌, ◌^◌, ◌≤◌, ℕ}
use Rattle.uma_bucket.specs.Sums.{AreOfAtMost}
use Rattle.name_cache.specs.Sums.{HasLinked}
use Rattle.name_cache.proofs.cache.NameCache.sums.Given as goal

abbrev pub invariant-loop-row : goal.invariant-loop-row
invariant-loop-row g l =
    record {
      few : AreOfAtMost (2 ^ 34 + l.row-index) l.sums;
      linked : (n : ℕ) × (n ≤ l.row-index) × HasLinked n l.sums;
    }
