-- What contracts see of a source over memory (own).
use Rattle.std.specs.Prelude.{ℕ, ◌≡◌, ◌↔◌, List, Result, length, drop, take, min, IfOk, OnErr, IsErr, Contains}
use Rattle.uma_io.specs.declared.reading.Failed.{Failed}
use Rattle.uma_io.specs.Faults.{raised}

pub record MemSourceState : Type 0 where
  -- the bytes that it will still give
  pub left : List ℕ
  -- the most bytes that it gives in one call
  pub each : ℕ
  -- the numbers of the calls that fail, from 1
  pub failing : List ℕ
  -- how many calls there were, and how many of them failed; each stands still at `u64::MAX`
  pub calls : ℕ
  pub faults : ℕ

-- Exactly the calls that are listed fail, and each of the others gives as much as it may.
pub record GivesOrFails (old : MemSourceState) (answer : Result ℕ Failed) (room : List ℕ) (new : MemSourceState) : Type 0 where
  pub fails : IsErr answer ↔ Contains old.failing (raised old.calls)
  pub failed : OnErr answer (new ≡ record old { calls = raised old.calls; faults = raised old.faults })
  pub gives : IfOk answer (λ n. n ≡ min (min (length room) old.each) (length old.left))
  pub gave : IfOk answer (λ n. new ≡ record old { left = drop n old.left; calls = raised old.calls })

-- as many bytes as both have were copied from one front to the other, up to a most
pub record CopiesFront (from old : List ℕ) (most count : ℕ) (new : List ℕ) : Type 0 where
  pub copied : take count new ≡ take count from
  pub counted : count ≡ min (min (length old) most) (length from)
