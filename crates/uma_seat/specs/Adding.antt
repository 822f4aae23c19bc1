-- Own: what adding the sums of items to others needs, and what it comes to.
use Rattle.std.specs.Prelude.{ℕ, ◌+◌, ◌^◌, ◌≤◌}
use Rattle.uma_life.specs.Hook.{Hook}
use Rattle.uma_bucket.specs.declared.shelved.Sums.{Sums}
use Rattle.uma_bucket.specs.Home.{Home}
use Rattle.uma_bucket.specs.Sums.{Adds, AreOfAtMost, Balance}

-- there is room for the sums of a row of at most four buckets
pub record CanAddRow (count : ℕ) (sums : Sums) : Type 0 where
  pub room : AreOfAtMost (2 ^ 61) sums
  pub domains : count ≤ 4

-- The sums of at most so many items are added, which passed each hook so often, and of which so many are deferred. Where these are at home the sums stay balanced.
pub record AddsAll (times : Hook → ℕ) (deferred most : ℕ) (AreAt : Home → Type 0) (old new : Sums) : Type 0 where
  pub adds : Adds times deferred old new
  pub few : (count : ℕ) → AreOfAtMost count old → AreOfAtMost (count + most) new
  pub balance : (home : Home) → AreAt home → Balance home.zone old → Balance home.zone new
