-- Own: what contracts see of the buckets that a domain gave back.
use Rattle.std.specs.Prelude.{◌≡◌, ◌≤◌, ℕ, List, []}
use Rattle.std.specs.VecDeque.{deque_len, deque_capacity}
use Rattle.uma_domain.specs.declared.trims.Taken.{Taken}
use Rattle.uma_domain.specs.declared.trims.TakenBucket.{TakenBucket}
use Rattle.uma_domain.specs.declared.trims.TakenBucket.TheVariants.{Plain as Plain', Ripe as Ripe'}
use Rattle.uma_domain.specs.Identity.{Identity}
use Rattle.uma_domain.specs.Listed.{IsPlainOf, IsRipeOf}

module _ {T H P : Type 0} {g h : _} where
  -- the buckets that are left, in the order in which they were taken
  abbrev pub taken_in : Taken T H P g h → List (TakenBucket T H P g h)
  taken_in taken = taken.buckets.items

  -- how many buckets it has room for
  abbrev pub taken_room : Taken T H P g h → ℕ
  taken_room taken = deque_capacity taken.buckets

  -- the bucket was listed by this domain, so it isn't empty, and its items and its note are of the domain's zone and clock
  abbrev pub IsTakenOf : Identity → TakenBucket T H P g h → Type 0
  IsTakenOf identity (Plain' bucket) = IsPlainOf identity.home bucket
  IsTakenOf identity (Ripe' bucket) = IsRipeOf identity bucket

  -- none is in it, and it has room for so many
  pub record IsEmptyFor (buckets : ℕ) (taken : Taken T H P g h) : Type 0 where
    pub empty : taken_in taken ≡ []
    pub none : deque_len taken.buckets ≡ 0
    pub room : buckets ≤ taken_room taken
