use Rattle.std.proofs.Common.{◌≡◌, ℕ, ◌+◌, ◌<◌, ◌≤◌, length, get_or}
use Rattle.uma_slabs.specs.Places.{out_count, IsOut}
use Rattle.test_zone.proofs.slabs.gives_all.Given as goal

-- the numbers that are left are out still
abbrev pub invariant-loop-number : goal.invariant-loop-number
invariant-loop-number l =
    ((k : ℕ) → l.number-index ≤ k → k < length l.held → IsOut l.places (get_or l.held k 0)) × (out_count l.places + l.number-index ≡ out_count l.fn.places)
