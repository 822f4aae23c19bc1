-- Counts of faults (own). A count is a `u64` that rises at each fault and stands still at its last value.
use Rattle.std.specs.Prelude.{ℕ, ◌≡◌, ◌≤◌, ◌+◌, ◌-◌, ◌^◌, ◌<◌, ◌⊎◌, Result, Ok, IsErr, min}
use Rattle.uma_io.specs.declared.reading.Failed.{Failed}

-- a count of faults rose in a call: it is greater after the call, or stands at its last value
abbrev pub Rose : ℕ → ℕ → Type 0
Rose before after = (before < after) ⊎ (after ≡ 2 ^ 64 - 1)

-- the count after one more
abbrev pub raised : ℕ → ℕ
raised count = min (count + 1) (2 ^ 64 - 1)

-- one fault more was counted
pub record CountsFault (before after : ℕ) : Type 0 where
  pub counted : after ≡ raised before
  pub never_falls : before ≤ after

-- an answer of the standard library was passed on, or counted as a fault where it is an `Err`
pub record PassesOrCounts {E : Type 0} (answer : Result ℕ E) (before : ℕ) (end : Result ℕ Failed) (after : ℕ) : Type 0 where
  pub passed : (taken : ℕ) → answer ≡ Ok taken → (end ≡ Ok taken) × (after ≡ before)
  pub failed : IsErr answer → IsErr end × (after ≡ raised before)
  pub never_falls : before ≤ after
