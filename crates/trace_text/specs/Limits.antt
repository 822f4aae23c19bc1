-- The limits of a trace (own; the sizes of items and slabs are the keg's).
use Rattle.std.specs.Prelude.{ℕ, ◌≤◌}

-- low ≤ n ≤ high
abbrev pub IsWithin : ℕ → ℕ → ℕ → Type 0
IsWithin low high n = (low ≤ n) × (n ≤ high)

-- the greatest number of a slot
abbrev pub last_slot : ℕ
last_slot = 65535

-- how many slots a worker has
abbrev pub slots : ℕ
slots = 65536

-- the most workers of a trace
abbrev pub most_workers : ℕ
most_workers = 16
