-- Own: what contracts see of a cache zone, and what each of its calls did under the lock.
use Rattle.std.specs.Prelude.{◌≡◌, ◌≤◌, ◌<◌, ◌⊎◌, ◌++◌, ℕ, List, [], ◌∷◌, All, length, map}
use Rattle.deed_book.specs.Deed.{BookId}
use Rattle.deed_book.specs.BookId.{numbers_of}
use Rattle.keyed_lock.specs.KeyedLock.{lock_key}
use Rattle.uma_zcache.specs.declared.cache.ZCache.{ZCache}
use Rattle.uma_zcache.specs.declared.cache.Held.{Held}
use Rattle.uma_zcache.specs.declared.cache.ZKey.{ZKey}
use Rattle.uma_zcache.specs.declared.locked.LockedCache.{LockedCache}
use Rattle.uma_zcache.specs.declared.refused.ZAllocRefused.{ZAllocRefused}
use Rattle.uma_zcache.specs.declared.cache.ZSeat.{ZSeat}
use Rattle.uma_zcache.specs.Entries.{out_of}
use Rattle.uma_zcache.specs.Held.{held_book}
use Rattle.uma_zcache.specs.Imports.{HasEntry, Fills, TurnsAway}
use Rattle.uma_zcache.specs.Locked.{entries_in, counted}
use Rattle.uma_zcache.specs.Refused.{alloc_cause}
use Rattle.uma_zcache.specs.Releases.{ReleasesAll}
use Rattle.uma_zcache.specs.Rule.{key_book, key_fails, Keeps}
use Rattle.uma_zcache.specs.Seat.{held_in, bucket_of, seat_fails, seat_causes, IsSameSeat}

module _ {I : Type 0} {g : _} where
  abbrev pub cache_key : ZCache I g → ZKey
  cache_key cache = lock_key cache.lock

  -- its book of numbers, which tells it from every other cache zone
  abbrev pub cache_book : ZCache I g → BookId
  cache_book cache = key_book (cache_key cache)

  -- how many numbers it has
  abbrev pub cache_numbers : ZCache I g → ℕ
  cache_numbers cache = numbers_of (cache_book cache)

  -- the item is of this cache zone
  abbrev pub IsHeldOf : ZCache I g → Held → Type 0
  IsHeldOf cache held = held_book held ≡ cache_book cache

  -- the seat is of this cache zone, and so are the items on its stack
  pub record IsSeatOf (cache : ZCache I g) (seat : ZSeat) : Type 0 where
    pub fails : seat_fails seat ≡ key_fails (cache_key cache)
    pub held : All (IsHeldOf cache) (held_in seat)

  -- and has no item
  pub record IsEmptySeatOf (cache : ZCache I g) (seat : ZSeat) : Type 0 where
    pub mine : IsSeatOf cache seat
    pub empty : held_in seat ≡ []

  -- the seat and the item are of this cache zone
  pub record MayFree (cache : ZCache I g) (seat : ZSeat) (item : Held) : Type 0 where
    pub mine : IsSeatOf cache seat
    pub held : IsHeldOf cache item

  -- the seat has an empty stack for so many items, and no cause
  pub record IsNewSeat (cache : ZCache I g) (size : ℕ) (seat : ZSeat) : Type 0 where
    pub mine : IsSeatOf cache seat
    pub bucket : bucket_of seat ≡ size
    pub empty : held_in seat ≡ []
    pub causes : seat_causes seat ≡ []

  -- One import round gave these items, as the cache zone stood under its lock: for a stack of this size. Each item has the base of its number's entry.
  pub record IsOneRound (cache : ZCache I g) (bucket : ℕ) (held : List Held) : Type 0 where
    pub was : LockedCache I g
    pub is : LockedCache I g
    pub kept : Keeps (cache_key cache) was
    pub keeps : Keeps (cache_key cache) is
    pub fills : Fills was bucket held is
    pub entries : All (HasEntry is) held

  -- One import round gave none, as the cache zone stood under its lock, and was counted there, but for want of memory.
  pub record IsTurnedAway (cache : ZCache I g) (why : ZAllocRefused) : Type 0 where
    pub was : LockedCache I g
    pub is : LockedCache I g
    pub kept : Keeps (cache_key cache) was
    pub keeps : Keeps (cache_key cache) is
    pub turns : TurnsAway was why is

  -- All these items were released, as the cache zone stood under its lock.
  pub record AreReleased (cache : ZCache I g) (held : List Held) : Type 0 where
    pub was : LockedCache I g
    pub is : LockedCache I g
    pub kept : Keeps (cache_key cache) was
    pub keeps : Keeps (cache_key cache) is
    pub releases : ReleasesAll was held is

  -- So many numbers were out, as the cache zone stood under its lock.
  pub record AreOut (cache : ZCache I g) (count : ℕ) : Type 0 where
    pub was : LockedCache I g
    pub kept : Keeps (cache_key cache) was
    pub counts : count ≡ out_of (entries_in was)

  -- One round gave the items that the seat has now, one or more. The seat meets no refusal.
  pub record GivesRound (cache : ZCache I g) (old new : ZSeat) : Type 0 where
    pub round : IsOneRound cache (bucket_of old) (held_in new)
    pub some : 1 ≤ length (held_in new)
    pub causes : seat_causes new ≡ seat_causes old
    pub same : IsSameSeat old new

  -- The item, which is of this cache zone, lay on top of the stack; or the stack was empty, and one round gave the item and those that lie there now. The seat meets no refusal.
  pub record Allocs (cache : ZCache I g) (old : ZSeat) (held : Held) (new : ZSeat) : Type 0 where
    pub mine : IsHeldOf cache held
    pub from : (held_in old ≡ held_in new ++ held ∷ []) ⊎ ((held_in old ≡ []) × IsOneRound cache (bucket_of old) (held_in new ++ held ∷ []))
    pub causes : seat_causes new ≡ seat_causes old
    pub same : IsSameSeat old new

  -- The stack was empty and is, and one round was refused so. The seat's share has the cause at its end, but for want of memory.
  pub record RefusesAlloc (cache : ZCache I g) (old : ZSeat) (why : ZAllocRefused) (new : ZSeat) : Type 0 where
    pub empty : held_in old ≡ []
    pub still : held_in new ≡ []
    pub turned : IsTurnedAway cache why
    pub causes : seat_causes new ≡ seat_causes old ++ map alloc_cause (counted why)
    pub same : IsSameSeat old new

  -- The item is on top of the stack. What lay there lies below it; or the stack was full, and all of it was released first.
  pub record Frees (cache : ZCache I g) (old : ZSeat) (held : Held) (new : ZSeat) : Type 0 where
    pub to : ((length (held_in old) < bucket_of old) × (held_in new ≡ held_in old ++ held ∷ [])) ⊎ ((length (held_in old) ≡ bucket_of old) × (held_in new ≡ held ∷ []) × AreReleased cache (held_in old))
    pub causes : seat_causes new ≡ seat_causes old
    pub same : IsSameSeat old new

  -- All of the stack was released, which is empty now.
  pub record Drains (cache : ZCache I g) (old : ZSeat) (count : ℕ) (new : ZSeat) : Type 0 where
    pub released : AreReleased cache (held_in old)
    pub counts : count ≡ length (held_in old)
    pub empty : held_in new ≡ []
    pub causes : seat_causes new ≡ seat_causes old
    pub same : IsSameSeat old new
