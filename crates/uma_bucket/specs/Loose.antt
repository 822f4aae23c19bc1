-- Own: what contracts see of a loose bucket.
use denote.RawPtr.{Ptr}
use Rattle.std.specs.Prelude.{◌≡◌, ℕ, List, [], ◌∷◌, ◌++◌, map, Result, Err, IfOk, IfErr}
use Rattle.std.specs.List.{filter_map}
use Rattle.std.specs.Vec.{vec_ptr}
use Rattle.uma_life.specs.declared.states.Ticket.{Ticket}
use Rattle.uma_bucket.specs.declared.bucket.Bucket.{Bucket}
use Rattle.uma_bucket.specs.declared.freed.Freed.{Freed}
use Rattle.uma_bucket.specs.declared.freed.Loose.{Loose}
use Rattle.uma_bucket.specs.declared.bucket.BucketRefused.{BucketRefused}
use Rattle.uma_bucket.specs.declared.bucket.BucketRefused.TheVariants.{Size}
use Rattle.uma_bucket.specs.Bucket.{size_of, place_of, IsOutOfRange, BucketIsRefused}
use Rattle.uma_bucket.specs.Freed.{freed_ticket}
use Rattle.uma_bucket.specs.Room.{freed_in}
use Rattle.uma_bucket.specs.Home.{Home, IsHome, AreHome}

module _ {T : Type 0} {g : _} where
  -- its items, the last put at the end
  abbrev pub loose_items : Loose T g → List (Freed T g)
  loose_items loose = filter_map freed_in loose.room.items

  -- the deeds and domains of its items, in their order
  abbrev pub loose_tickets : Loose T g → List Ticket
  loose_tickets loose = map freed_ticket (loose_items loose)

  -- how many items it has room for
  abbrev pub loose_size : Loose T g → ℕ
  loose_size loose = loose.size

  -- where its room lies
  abbrev pub loose_place : Loose T g → Ptr
  loose_place loose = vec_ptr loose.room

  -- ---- what calls answer

  -- an empty bucket with room for so many items, or not: for the size, which is tested first, or for memory
  pub record MakesLoose (room : ℕ) (answer : Result (Loose T g) BucketRefused) : Type 0 where
    pub size : IfOk answer (λ loose. loose_size loose ≡ room)
    pub empty : IfOk answer (λ loose. loose_items loose ≡ [])
    pub out_of_range : IsOutOfRange room → answer ≡ Err (Size room)
    pub err : IfErr answer (BucketIsRefused room)

  -- an empty bucket in the room of another
  pub record Reuses (bucket : Bucket T g) (loose : Loose T g) : Type 0 where
    pub empty : loose_items loose ≡ []
    pub size : loose_size loose ≡ size_of bucket
    pub place : loose_place loose ≡ place_of bucket

  -- The item is on top, and the room is the same. All items are at home where those before and it are.
  pub record PushesFreed (was : Loose T g) (item : Freed T g) (is : Loose T g) : Type 0 where
    pub items : loose_items is ≡ loose_items was ++ item ∷ []
    pub home : (home : Home) → AreHome home (loose_tickets was) → IsHome home (freed_ticket item) → AreHome home (loose_tickets is)
    pub size : loose_size is ≡ loose_size was
    pub place : loose_place is ≡ loose_place was
