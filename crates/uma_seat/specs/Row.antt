-- Own: what contracts see of a row of buckets, one for each domain.
use Rattle.std.specs.Prelude.{◌≡◌, ◌≢◌, ◌<◌, ℕ, List, [], ◌∷◌, ◌++◌, length, map, slice_set, Option, IfSome, IsSome}
use Rattle.std.specs.List.{All}
use Rattle.uma_life.specs.declared.states.Cached.{Cached}
use Rattle.uma_life.specs.declared.states.Live.{Live}
use Rattle.uma_life.specs.Cached.{cached_ticket}
use Rattle.uma_bucket.specs.declared.bucket.Bucket.{Bucket}
use Rattle.uma_bucket.specs.declared.freed.Freed.{Freed}
use Rattle.uma_bucket.specs.declared.freed.Loose.{Loose}
use Rattle.uma_bucket.specs.Bucket.{tickets_of, size_of}
use Rattle.uma_bucket.specs.Freed.{freed_item, freed_ticket}
use Rattle.uma_bucket.specs.Home.{Home, IsHome, AreHome}
use Rattle.uma_bucket.specs.Loose.{loose_items, loose_tickets, loose_size}
use Rattle.uma_seat.specs.declared.rows.PlainRow.{PlainRow}
use Rattle.uma_seat.specs.declared.rows.FreedRow.{FreedRow}
use Rattle.uma_seat.specs.Stack.{Stack, stack_of, loose_stack, stack_at, with_item, empty_stack}

module _ {T : Type 0} {g : _} where
  -- its buckets, that of the domain with the number i at the place i
  abbrev pub stacks_of : PlainRow T g → List (Stack (Cached T g))
  stacks_of row = map stack_of row.buckets.items

  abbrev pub freed_stacks : FreedRow T g → List (Stack (Live T g))
  freed_stacks row = map loose_stack row.buckets.items

  -- how many domains it is for
  abbrev pub row_len : PlainRow T g → ℕ
  row_len row = length row.buckets.items

  abbrev pub freed_len : FreedRow T g → ℕ
  freed_len row = length row.buckets.items

  -- its items are at home there
  abbrev pub IsRowAt : Home → PlainRow T g → Type 0
  IsRowAt home row = All (λ bucket. AreHome home (tickets_of bucket)) row.buckets.items

  abbrev pub IsFreedRowAt : Home → FreedRow T g → Type 0
  IsFreedRowAt home row = All (λ loose. AreHome home (loose_tickets loose)) row.buckets.items

-- the item on top of the bucket of the domain was taken
pub record TakesAt {A : Type 0} (old : List (Stack A)) (domain : ℕ) (item : A) (new : List (Stack A)) : Type 0 where
  pub left : List A
  pub was : (stack_at old domain).items ≡ left ++ item ∷ []
  pub buckets : new ≡ slice_set old domain (record { items = left; room = (stack_at old domain).room })

module _ {T : Type 0} {g : _} where
  -- ---- a row of a plain zone

  -- so many buckets, which are empty and have room for so many items
  pub record IsNewRow (size count : ℕ) (row : PlainRow T g) : Type 0 where
    pub len : row_len row ≡ count
    pub empty : All (λ stack. stack ≡ empty_stack size) (stacks_of row)
    pub home : (home : Home) → IsRowAt home row

  -- the item is on top of the bucket of the domain
  pub record PutsAt (old : PlainRow T g) (domain : ℕ) (item : Cached T g) (new : PlainRow T g) : Type 0 where
    pub stacks : stacks_of new ≡ slice_set (stacks_of old) domain (with_item (stack_at (stacks_of old) domain) item)
    pub home : (home : Home) → IsRowAt home old → IsHome home (cached_ticket item) → IsRowAt home new
    pub len : row_len new ≡ row_len old

  -- the item is on top of the bucket of the domain, which is taken out, and the spare one stands in its place
  pub record FillsAt (old : PlainRow T g) (domain : ℕ) (item : Cached T g) (spare bucket : Bucket T g) (new : PlainRow T g) : Type 0 where
    pub stacks : stacks_of new ≡ slice_set (stacks_of old) domain (empty_stack (size_of spare))
    pub full : stack_of bucket ≡ with_item (stack_at (stacks_of old) domain) item
    pub home : (home : Home) → IsRowAt home old → IsHome home (cached_ticket item) → AreHome home (tickets_of bucket)
    pub row_home : (home : Home) → IsRowAt home old → IsRowAt home new
    pub len : row_len new ≡ row_len old

  -- the bucket of the domain is taken out, and the other one stands in its place
  pub record ExchangesAt (old : PlainRow T g) (domain : ℕ) (other bucket : Bucket T g) (new : PlainRow T g) : Type 0 where
    pub stacks : stacks_of new ≡ slice_set (stacks_of old) domain (empty_stack (size_of other))
    pub taken : stack_of bucket ≡ stack_at (stacks_of old) domain
    pub home : (home : Home) → IsRowAt home old → AreHome home (tickets_of bucket)
    pub row_home : (home : Home) → IsRowAt home old → IsRowAt home new
    pub len : row_len new ≡ row_len old

  -- another domain than the seat's own has an item in its bucket
  pub record HasOther (own : ℕ) (row : PlainRow T g) (domain : ℕ) : Type 0 where
    pub within : domain < row_len row
    pub other : domain ≢ own
    pub some : 0 < length (stack_at (stacks_of row) domain).items

  -- no other domain has one
  abbrev pub HasNoOther : ℕ → PlainRow T g → Type 0
  HasNoOther own row = (domain : ℕ) → domain < row_len row → domain ≢ own → (stack_at (stacks_of row) domain).items ≡ []

  -- there is an item on top of the bucket of the domain, and it is taken
  pub record PopsAt (old : PlainRow T g) (domain : ℕ) (result : Option (Cached T g)) (new : PlainRow T g) : Type 0 where
    pub some : IsSome result
    pub takes : IfSome result (λ item. TakesAt (stacks_of old) domain item (stacks_of new))
    pub home : (home : Home) → IsRowAt home old → IfSome result (λ item. IsHome home (cached_ticket item))
    pub row_home : (home : Home) → IsRowAt home old → IsRowAt home new
    pub len : row_len new ≡ row_len old

  -- ---- a row of an SMR zone, likewise

  pub record IsNewFreedRow (size count : ℕ) (row : FreedRow T g) : Type 0 where
    pub len : freed_len row ≡ count
    pub empty : All (λ stack. stack ≡ empty_stack size) (freed_stacks row)
    pub home : (home : Home) → IsFreedRowAt home row

  pub record PutsFreedAt (old : FreedRow T g) (domain : ℕ) (item : Freed T g) (new : FreedRow T g) : Type 0 where
    pub stacks : freed_stacks new ≡ slice_set (freed_stacks old) domain (with_item (stack_at (freed_stacks old) domain) (freed_item item))
    pub home : (home : Home) → IsFreedRowAt home old → IsHome home (freed_ticket item) → IsFreedRowAt home new
    pub len : freed_len new ≡ freed_len old

  pub record FillsFreedAt (old : FreedRow T g) (domain : ℕ) (item : Freed T g) (spare loose : Loose T g) (new : FreedRow T g) : Type 0 where
    pub stacks : freed_stacks new ≡ slice_set (freed_stacks old) domain (empty_stack (loose_size spare))
    pub full : loose_stack loose ≡ with_item (stack_at (freed_stacks old) domain) (freed_item item)
    pub some : 0 < length (loose_items loose)
    pub home : (home : Home) → IsFreedRowAt home old → IsHome home (freed_ticket item) → AreHome home (loose_tickets loose)
    pub row_home : (home : Home) → IsFreedRowAt home old → IsFreedRowAt home new
    pub len : freed_len new ≡ freed_len old
