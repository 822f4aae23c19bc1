-- Own: which buckets a domain may list, and how many items they have.
use Rattle.std.specs.Prelude.{◌<◌, ◌+◌, ℕ, List, length, sum_by}
use Rattle.uma_bucket.specs.declared.bucket.Bucket.{Bucket}
use Rattle.uma_bucket.specs.declared.freed.Loose.{Loose}
use Rattle.uma_bucket.specs.declared.freed.Sealed.{Sealed}
use Rattle.uma_bucket.specs.declared.freed.Ripe.{Ripe}
use Rattle.uma_bucket.specs.Bucket.{items_of, tickets_of}
use Rattle.uma_bucket.specs.Home.{Home, AreHome}
use Rattle.uma_bucket.specs.Loose.{loose_items, loose_tickets}
use Rattle.uma_bucket.specs.Ripe.{ripe_bucket, IsRipeAt}
use Rattle.uma_bucket.specs.Sealed.{sealed_bucket, IsSealedAt}
use Rattle.uma_domain.specs.Identity.{Identity}

module _ {T : Type 0} {g : _} where
  -- how many items a bucket has
  abbrev pub plain_len : Bucket T g → ℕ
  plain_len bucket = length (items_of bucket)

  abbrev pub loose_len : Loose T g → ℕ
  loose_len loose = length (loose_items loose)

  -- The bucket isn't empty, and each of its items is at home there.
  pub record IsPlainOf (home : Home) (bucket : Bucket T g) : Type 0 where
    pub some : 0 < plain_len bucket
    pub at_home : AreHome home (tickets_of bucket)

  pub record IsLooseOf (home : Home) (loose : Loose T g) : Type 0 where
    pub some : 0 < loose_len loose
    pub at_home : AreHome home (loose_tickets loose)

module _ {T H P : Type 0} {g h : _} where
  abbrev pub sealed_len : Sealed T H P g h → ℕ
  sealed_len sealed = loose_len (sealed_bucket sealed)

  abbrev pub ripe_len : Ripe T H P g h → ℕ
  ripe_len ripe = loose_len (ripe_bucket ripe)

  -- The same of a sealed bucket, whose note is of this clock.
  pub record IsSealedOf (identity : Identity) (sealed : Sealed T H P g h) : Type 0 where
    pub bucket : IsLooseOf identity.home (sealed_bucket sealed)
    pub clock : IsSealedAt identity.clock sealed

  pub record IsRipeOf (identity : Identity) (ripe : Ripe T H P g h) : Type 0 where
    pub bucket : IsLooseOf identity.home (ripe_bucket ripe)
    pub clock : IsRipeAt identity.clock ripe

  -- how many items are listed
  abbrev pub listed : List (Bucket T g) → List (Loose T g) → List (Sealed T H P g h) → ℕ
  listed plain loose sealed = sum_by plain_len plain + sum_by loose_len loose + sum_by sealed_len sealed
