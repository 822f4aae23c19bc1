-- Own: how often the items of a keg passed each hook, summed up over those at home and the buried.
use Rattle.std.specs.Prelude.{◌≡◌, ◌≤◌, ◌+◌, ◌*◌, ◌^◌, ℕ, zero, suc, Option, Some, None}
use Rattle.uma_life.specs.declared.states.Stored.{Stored}
use Rattle.uma_life.specs.declared.tally.TallySum.{TallySum}
use Rattle.uma_life.specs.Stored.{stored_body}
use Rattle.uma_life.specs.Hook.{Hook, KegInit, KegFini, after}
use Rattle.uma_life.specs.Sum.{times_of, sum_of}
use Rattle.uma_slabs.specs.Places.{KegPlaces, slab_count}

-- how often the item of a place passed a hook, 0 where none is there
abbrev pub home_times : {T : Type 0} {g : _} → Hook → Option (Stored T g) → ℕ
home_times hook None = 0
home_times {g = g} hook (Some item) = times_of (g.life (stored_body item)).tally hook

-- the same once the item is ended
abbrev pub ended_times : {T : Type 0} {g : _} → Hook → Option (Stored T g) → ℕ
ended_times hook None = 0
ended_times {g = g} hook (Some item) = times_of (after KegFini (g.life (stored_body item))).tally hook

-- the sum of what a function gives for each number below one
unfoldable pub sum_below : (ℕ → ℕ) → ℕ → ℕ
sum_below f zero = 0
sum_below f (suc n) = sum_below f n + f n

-- how often an item passed a hook that was made and ended at once
abbrev pub times_in_vain : Hook → ℕ
times_in_vain KegInit = 1
times_in_vain KegFini = 1
times_in_vain _ = 0

-- so many items that were made and ended at once were added to the sums
pub record AddsVain (old : TallySum) (items : ℕ) (new : TallySum) : Type 0 where
  pub each : (hook : Hook) → sum_of new hook ≡ sum_of old hook + items * times_in_vain hook

-- The sums of the buried have room for each item that may be at home: no sum comes to its end. A slab is brought in only
-- where each sum is below 2^120, and an item's counts are below 2^64.
pub record TallyLaw (buried : TallySum) (places : KegPlaces) : Type 0 where
  pub each : (hook : Hook) → sum_of buried hook + slab_count places * places.per_slab * 2 ^ 64 ≤ 2 ^ 120 + 2 ^ 82
