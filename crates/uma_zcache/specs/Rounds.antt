-- Own: what an import round makes of a seat and of what lies behind the lock, and what it leaves.
use Rattle.std.specs.Prelude.{◌≡◌, ◌≤◌, ◌<◌, ◌++◌, ℕ, List, [], All, length, map}
use Rattle.uma_zcache.specs.declared.cache.Held.{Held}
use Rattle.uma_zcache.specs.declared.cache.ZKey.{ZKey}
use Rattle.uma_zcache.specs.declared.locked.LockedCache.{LockedCache}
use Rattle.uma_zcache.specs.declared.refused.ZAllocRefused.{ZAllocRefused}
use Rattle.uma_zcache.specs.declared.cache.ZSeat.{ZSeat}
use Rattle.uma_zcache.specs.declared.locked.Stack.{Stack}
use Rattle.uma_zcache.specs.Held.{held_book}
use Rattle.uma_zcache.specs.Imports.{HasEntry, ImportsAll, StopsImporting, Fills, TurnsAway}
use Rattle.uma_zcache.specs.Locked.{book_in, fails_in, turned_in, counted, IsSound, IsSameCache, CountsNothing, MovesNothing}
use Rattle.uma_zcache.specs.Refused.{alloc_cause}
use Rattle.uma_zcache.specs.Rule.{Keeps}
use Rattle.uma_zcache.specs.Seat.{held_in, bucket_of, seat_fails, seat_causes, IsSameSeat}
use Rattle.uma_zcache.specs.Stack.{stack_items, stack_size}

module _ {I : Type 0} {g : _} where
  -- ---- the imports of a round

  -- the cache is sound, and the stack has no item
  pub record MayImport (locked : LockedCache I g) (stack : Stack) : Type 0 where
    pub sound : IsSound locked
    pub empty : stack_items stack ≡ []

  -- as many items were imported as there is room for
  pub record ImportsFull (room : ℕ) (old : LockedCache I g) (items : List Held) (new : LockedCache I g) : Type 0 where
    pub all : ImportsAll old items new
    pub full : length items ≡ room

  -- fewer were, since one was refused
  pub record StopsShort (room : ℕ) (old : LockedCache I g) (items : List Held) (why : ZAllocRefused) (new : LockedCache I g) : Type 0 where
    pub stops : StopsImporting old items why new
    pub fewer : length items < room

  -- The stack has items of this cache alone, each with its number's entry, and its size stays. It is the same cache, sound, and nothing is counted.
  pub record KeepsStack (old : LockedCache I g) (was : Stack) (new : LockedCache I g) (is : Stack) : Type 0 where
    pub entries : All (HasEntry new) (stack_items is)
    pub books : All (λ held. held_book held ≡ book_in old) (stack_items is)
    pub size : stack_size is ≡ stack_size was
    pub sound : IsSound new
    pub same : IsSameCache old new
    pub nothing : CountsNothing old new

  -- ---- the round of a seat

  -- the cache is sound, and the seat is one of it
  pub record MayCount (locked : LockedCache I g) (seat : ZSeat) : Type 0 where
    pub sound : IsSound locked
    pub mine : seat_fails seat ≡ fails_in locked

  -- and has no item
  pub record MayFill (locked : LockedCache I g) (seat : ZSeat) : Type 0 where
    pub sound : IsSound locked
    pub empty : held_in seat ≡ []
    pub mine : seat_fails seat ≡ fails_in locked

  -- the round gave the items that the seat has now, and the seat meets no refusal
  pub record FillsSeat (old : LockedCache I g) (was : ZSeat) (new : LockedCache I g) (is : ZSeat) : Type 0 where
    pub fills : Fills old (bucket_of was) (held_in is) new
    pub some : 1 ≤ length (held_in is)
    pub causes : seat_causes is ≡ seat_causes was

  -- the round gave none, and the seat has its cause, but for want of memory
  pub record TurnsSeatAway (old : LockedCache I g) (was : ZSeat) (why : ZAllocRefused) (new : LockedCache I g) (is : ZSeat) : Type 0 where
    pub turned : TurnsAway old why new
    pub none : held_in is ≡ []
    pub causes : seat_causes is ≡ seat_causes was ++ map alloc_cause (counted why)

  -- The seat has items of this cache alone, each with its number's entry. It is the same seat, and what the lock keeps it keeps still.
  pub record KeepsSeat (old : LockedCache I g) (was : ZSeat) (new : LockedCache I g) (is : ZSeat) : Type 0 where
    pub entries : All (HasEntry new) (held_in is)
    pub books : All (λ held. held_book held ≡ book_in old) (held_in is)
    pub seat : IsSameSeat was is
    pub keeps : (key : ZKey) → Keeps key old → Keeps key new

  -- The refusal is counted, in the cache and in the seat's share, but for want of memory. No item moves.
  pub record CountsRefusal (old : LockedCache I g) (was : ZSeat) (why : ZAllocRefused) (new : LockedCache I g) (is : ZSeat) : Type 0 where
    pub turned : turned_in new ≡ turned_in old ++ counted why
    pub causes : seat_causes is ≡ seat_causes was ++ map alloc_cause (counted why)
    pub moves : MovesNothing old new
    pub held : held_in is ≡ held_in was
    pub seat : IsSameSeat was is
    pub sound : IsSound new
    pub same : IsSameCache old new
