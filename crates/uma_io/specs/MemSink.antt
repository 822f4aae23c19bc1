-- What contracts see of a sink into memory (own).
use Rattle.std.specs.Prelude.{ℕ, ◌≡◌, ◌-◌, ◌<◌, ◌≤◌, ◌⊎◌, ◌↔◌, ◌++◌, List, Result, length, take, min, IfOk, OnErr, IsErr, Contains}
use Rattle.uma_io.specs.declared.reading.Failed.{Failed}
use Rattle.uma_io.specs.Faults.{raised}

pub record MemSinkState : Type 0 where
  -- the bytes that it took
  pub held : List ℕ
  -- how many bytes it has room for in all
  pub room : ℕ
  -- the numbers of the calls that fail, from 1
  pub failing : List ℕ
  -- how many calls there were, and how many of them failed; each stands still at `u64::MAX`
  pub calls : ℕ
  pub faults : ℕ

-- Exactly the calls that are listed and those that find no room fail, and each of the others takes as much as there is room for.
pub record TakesOrFails (old : MemSinkState) (piece : List ℕ) (answer : Result ℕ Failed) (new : MemSinkState) : Type 0 where
  pub fails : IsErr answer ↔ (Contains old.failing (raised old.calls) ⊎ ((0 < length piece) × (old.room ≤ length old.held)))
  pub failed : OnErr answer (new ≡ record old { calls = raised old.calls; faults = raised old.faults })
  pub takes : IfOk answer (λ n. n ≡ min (length piece) (old.room - length old.held))
  pub took : IfOk answer (λ n. new ≡ record old { held = old.held ++ take n piece; calls = raised old.calls })

-- these are the bytes that a sink holds, no more than it has room for
pub record AreHeld (sink : MemSinkState) (bytes : List ℕ) : Type 0 where
  pub held : bytes ≡ sink.held
  pub within : length bytes ≤ sink.room
