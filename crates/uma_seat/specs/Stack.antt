-- Own: what contracts see of a bucket in a seat: its items, and how many it has room for.
use Rattle.std.specs.Prelude.{◌≡◌, ℕ, ◌<◌, ◌≤◌, ◌+◌, Bool, true, List, [], ◌∷◌, ◌++◌, length, map, nat_le, slice_index_or}
use Rattle.uma_life.specs.declared.states.Cached.{Cached}
use Rattle.uma_life.specs.declared.states.Live.{Live}
use Rattle.uma_bucket.specs.declared.bucket.Bucket.{Bucket}
use Rattle.uma_bucket.specs.declared.freed.Loose.{Loose}
use Rattle.uma_bucket.specs.Bucket.{items_of, size_of}
use Rattle.uma_bucket.specs.Freed.{freed_item}
use Rattle.uma_bucket.specs.Loose.{loose_items, loose_size}

-- items, the last put at the end, and the count that there is room for
pub record Stack (A : Type 0) : Type 0 where
  pub items : List A
  pub room : ℕ

abbrev pub stack_of : {T : Type 0} {g : _} → Bucket T g → Stack (Cached T g)
stack_of bucket = record { items = items_of bucket; room = size_of bucket }

-- freed items are as they were when they were freed: built still
abbrev pub loose_stack : {T : Type 0} {g : _} → Loose T g → Stack (Live T g)
loose_stack loose = record { items = map freed_item (loose_items loose); room = loose_size loose }

-- a bucket with room for so many, and no item
abbrev pub empty_stack : {A : Type 0} → ℕ → Stack A
empty_stack room = record { items = []; room = room }

-- one item more, on top
abbrev pub with_item : {A : Type 0} → Stack A → A → Stack A
with_item stack item = record { items = stack.items ++ item ∷ []; room = stack.room }

-- one item more fills it
abbrev pub is_filled_by_one : {A : Type 0} → Stack A → Bool
is_filled_by_one stack = nat_le stack.room (length stack.items + 1)

-- the bucket of a domain
abbrev pub stack_at : {A : Type 0} → List (Stack A) → ℕ → Stack A
stack_at stacks domain = slice_index_or stacks domain (empty_stack 0)

-- a bucket can have room for so many items
pub record IsSize (size : ℕ) : Type 0 where
  pub least : 4 ≤ size
  pub most : size ≤ 64

-- there is such a domain, and one item more fills its bucket, or doesn't
pub record CanPutAt {A : Type 0} (filled : Bool) (domains : ℕ) (stacks : List (Stack A)) (domain : ℕ) : Type 0 where
  pub within : domain < domains
  pub room : is_filled_by_one (stack_at stacks domain) ≡ filled

-- there is such a domain, one item more fills its bucket, and the bucket that then stands in its place has no item
pub record CanFillAt {A B : Type 0} (domains : ℕ) (stacks : List (Stack A)) (domain : ℕ) (spare : List B) : Type 0 where
  pub within : domain < domains
  pub room : is_filled_by_one (stack_at stacks domain) ≡ true
  pub empty : spare ≡ []

-- there is such a domain, and the bucket that is to stand in the place of its own has no item
pub record CanExchangeAt {B : Type 0} (domains domain : ℕ) (other : List B) : Type 0 where
  pub within : domain < domains
  pub empty : other ≡ []

-- there is such a domain, and its bucket has an item
pub record HasItemAt {A : Type 0} (domains : ℕ) (stacks : List (Stack A)) (domain : ℕ) : Type 0 where
  pub within : domain < domains
  pub some : 0 < length (stack_at stacks domain).items
