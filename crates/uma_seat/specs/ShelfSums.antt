-- Own: what the sums of a bucket on the shelf come to.
use Rattle.std.specs.Prelude.{ℕ, length}
use Rattle.uma_life.specs.Hook.{Hook}
use Rattle.uma_bucket.specs.declared.shelved.Shelved.{Shelved}
use Rattle.uma_bucket.specs.declared.shelved.Shelved.TheVariants.{Plain, Loose, Sealed}
use Rattle.uma_bucket.specs.Bucket.{items_of}
use Rattle.uma_bucket.specs.Loose.{loose_items}
use Rattle.uma_bucket.specs.Sealed.{sealed_bucket}
use Rattle.uma_bucket.specs.Sums.{times_cached, times_freed}

module _ {T H P : Type 0} {g h : _} where
  -- how often the items of a shelved bucket passed a hook
  abbrev pub times_shelved : Hook → Shelved T H P g h → ℕ
  times_shelved hook (Plain domain bucket) = times_cached hook (items_of bucket)
  times_shelved hook (Loose domain bucket) = times_freed hook (loose_items bucket)
  times_shelved hook (Sealed domain bucket) = times_freed hook (loose_items (sealed_bucket bucket))

  -- how many of them are deferred
  abbrev pub deferred_shelved : Shelved T H P g h → ℕ
  deferred_shelved (Plain domain bucket) = 0
  deferred_shelved (Loose domain bucket) = length (loose_items bucket)
  deferred_shelved (Sealed domain bucket) = length (loose_items (sealed_bucket bucket))
