-- Own: the sums of what a domain lists.
use Rattle.std.specs.Prelude.{◌+◌, ◌-◌, ◌^◌, ℕ, List, sum_by, Result, IfOk, OnErr}
use Rattle.uma_life.specs.Hook.{Hook}
use Rattle.uma_bucket.specs.declared.bucket.Bucket.{Bucket}
use Rattle.uma_bucket.specs.declared.freed.Loose.{Loose}
use Rattle.uma_bucket.specs.declared.freed.Sealed.{Sealed}
use Rattle.uma_bucket.specs.declared.shelved.Sums.{Sums}
use Rattle.uma_bucket.specs.Bucket.{items_of}
use Rattle.uma_bucket.specs.Loose.{loose_items}
use Rattle.uma_bucket.specs.Sealed.{sealed_bucket}
use Rattle.uma_bucket.specs.Sums.{nothing_held, times_cached, times_freed, Adds, AreOfAtMost, Balance}
use Rattle.uma_domain.specs.declared.lists.Lists.{Lists}
use Rattle.uma_domain.specs.Listed.{loose_len, sealed_len}
use Rattle.uma_domain.specs.Lists.{lists_identity, plain_in, loose_in, sealed_in}

module _ {T : Type 0} {g : _} where
  -- how often the items of a bucket passed a hook
  abbrev pub plain_times : Hook → Bucket T g → ℕ
  plain_times hook bucket = times_cached hook (items_of bucket)

  abbrev pub loose_times : Hook → Loose T g → ℕ
  loose_times hook loose = times_freed hook (loose_items loose)

module _ {T H P : Type 0} {g h : _} where
  abbrev pub sealed_times : Hook → Sealed T H P g h → ℕ
  sealed_times hook sealed = loose_times hook (sealed_bucket sealed)

  -- how often all items listed passed a hook
  abbrev pub times_listed : List (Bucket T g) → List (Loose T g) → List (Sealed T H P g h) → Hook → ℕ
  times_listed plain loose sealed hook = sum_by (plain_times hook) plain + sum_by (loose_times hook) loose + sum_by (sealed_times hook) sealed

  -- how many items listed are freed
  abbrev pub deferred_listed : List (Loose T g) → List (Sealed T H P g h) → ℕ
  deferred_listed loose sealed = sum_by loose_len loose + sum_by sealed_len sealed

  -- These are the sums of all that is listed, of fewer than 2^32 items, and they balance for the domain's zone.
  pub record AreSumsOf (lists : Lists T H P g h) (sums : Sums) : Type 0 where
    pub adds : Adds (times_listed (plain_in lists) (loose_in lists) (sealed_in lists)) (deferred_listed (loose_in lists) (sealed_in lists)) nothing_held sums
    pub few : AreOfAtMost (2 ^ 32) sums
    pub below : AreOfAtMost (2 ^ 32 - 1) sums
    pub balance : Balance (lists_identity lists).home.zone sums

-- The sums are what is said of them, of fewer than 2^32 items, and they balance for the zone. Where memory is wanting for them, this is so.
pub record TellsSums {E : Type 0} (zone : ℕ) (AreTold : Sums → Type 0) (Stays : Type 0) (result : Result Sums E) : Type 0 where
  pub adds : IfOk result AreTold
  pub few : IfOk result (AreOfAtMost (2 ^ 32))
  pub below : IfOk result (AreOfAtMost (2 ^ 32 - 1))
  pub balance : IfOk result (Balance zone)
  pub stays : OnErr result Stays
