-- Own: what contracts see of a bucket.
use denote.RawPtr.{Ptr}
use Rattle.std.specs.Prelude.{◌≡◌, ◌<◌, ◌≤◌, ◌⊎◌, ℕ, List, [], ◌∷◌, ◌++◌, length, map, option_to_list, Option, IfSome, IfNone, Result, Err, IfOk, IfErr}
use Rattle.std.specs.List.{filter_map}
use Rattle.std.specs.Vec.{vec_ptr}
use Rattle.uma_life.specs.declared.states.Cached.{Cached}
use Rattle.uma_life.specs.declared.states.Ticket.{Ticket}
use Rattle.uma_life.specs.Cached.{cached_ticket}
use Rattle.uma_bucket.specs.declared.bucket.Bucket.{Bucket}
use Rattle.uma_bucket.specs.declared.bucket.BucketRefused.{BucketRefused}
use Rattle.uma_bucket.specs.declared.bucket.BucketRefused.TheVariants.{Size, Memory}
use Rattle.uma_bucket.specs.Room.{cached_in}
use Rattle.uma_bucket.specs.Home.{Home, IsHome, AreHome}

-- its items, the last put at the end
abbrev pub items_of : {T : Type 0} {g : _} → Bucket T g → List (Cached T g)
items_of bucket = filter_map cached_in bucket.room.items

-- the deeds and domains of its items, in their order
abbrev pub tickets_of : {T : Type 0} {g : _} → Bucket T g → List Ticket
tickets_of bucket = map cached_ticket (items_of bucket)

-- how many items it has room for
abbrev pub size_of : {T : Type 0} {g : _} → Bucket T g → ℕ
size_of bucket = bucket.size

-- where its room lies
abbrev pub place_of : {T : Type 0} {g : _} → Bucket T g → Ptr
place_of bucket = vec_ptr bucket.room

-- no bucket has this size (own)
abbrev pub IsOutOfRange : ℕ → Type 0
IsOutOfRange size = (size < 4) ⊎ (64 < size)

-- why a bucket of this size is refused: for the size, which is named, or else for memory
abbrev pub BucketIsRefused : ℕ → BucketRefused → Type 0
BucketIsRefused size (Size named) = (named ≡ size) × IsOutOfRange size
BucketIsRefused size Memory = (4 ≤ size) × (size ≤ 64)

-- ---- what calls answer

-- so many items, for which there is room
pub record IsCountOf (items room answer : ℕ) : Type 0 where
  pub len : answer ≡ items
  pub within : answer ≤ room
  pub most : answer ≤ 64

-- room for so many items, which is 4 to 64
pub record IsSizeOf (room answer : ℕ) : Type 0 where
  pub size : answer ≡ room
  pub least : 4 ≤ answer
  pub most : answer ≤ 64

module _ {T : Type 0} {g : _} where
  -- an empty bucket with room for so many items, or not: for the size, which is tested first, or for memory
  pub record MakesBucket (room : ℕ) (answer : Result (Bucket T g) BucketRefused) : Type 0 where
    pub size : IfOk answer (λ bucket. size_of bucket ≡ room)
    pub empty : IfOk answer (λ bucket. items_of bucket ≡ [])
    pub out_of_range : IsOutOfRange room → answer ≡ Err (Size room)
    pub err : IfErr answer (BucketIsRefused room)

  -- The item is on top, and the room is the same. All items are at home where those before and it are.
  pub record Pushes (was : Bucket T g) (item : Cached T g) (is : Bucket T g) : Type 0 where
    pub items : items_of is ≡ items_of was ++ item ∷ []
    pub home : (home : Home) → AreHome home (tickets_of was) → IsHome home (cached_ticket item) → AreHome home (tickets_of is)
    pub size : size_of is ≡ size_of was
    pub place : place_of is ≡ place_of was

  -- The item on top is taken, and None exactly where there is none. All items are at home where those before are.
  pub record Pops (was : Bucket T g) (answer : Option (Cached T g)) (is : Bucket T g) : Type 0 where
    pub items : items_of was ≡ items_of is ++ option_to_list answer
    pub last : IfSome answer (λ item. items_of was ≡ items_of is ++ item ∷ [])
    pub none : IfNone answer (items_of was ≡ [])
    pub unchanged : IfNone answer (items_of is ≡ [])
    pub home : (home : Home) → AreHome home (tickets_of was) → AreHome home (tickets_of is) × IfSome answer (λ item. IsHome home (cached_ticket item))
    pub room : IfSome answer (λ _. length (items_of is) < size_of is)
    pub size : size_of is ≡ size_of was
