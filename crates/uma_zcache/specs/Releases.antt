-- Own: what a release does to what lies behind the lock.
use Rattle.std.specs.Prelude.{◌≡◌, ℕ, List, [], ◌∷◌, None, All, length, slice_set}
use Rattle.uma_zcache.specs.declared.cache.Held.{Held}
use Rattle.uma_zcache.specs.declared.cache.ZKey.{ZKey}
use Rattle.uma_zcache.specs.declared.locked.LockedCache.{LockedCache}
use Rattle.uma_zcache.specs.declared.locked.Stack.{Stack}
use Rattle.uma_zcache.specs.Bases.{Loses}
use Rattle.uma_zcache.specs.Entries.{IsOutWith}
use Rattle.uma_zcache.specs.Held.{held_no, held_book}
use Rattle.uma_zcache.specs.Locked.{entries_in, outside_in, book_in, IsSound, IsSameCache, CountsNothing}
use Rattle.uma_zcache.specs.Rule.{Keeps}
use Rattle.uma_zcache.specs.Stack.{stack_items, stack_size}

module _ {I : Type 0} {g : _} where
  -- the cache is sound, and the item is of its book
  pub record MayRelease (locked : LockedCache I g) (held : Held) : Type 0 where
    pub sound : IsSound locked
    pub mine : held_book held ≡ book_in locked

  -- or all of these items
  pub record MayReleaseAll (locked : LockedCache I g) (items : List Held) : Type 0 where
    pub sound : IsSound locked
    pub mine : All (λ held. held_book held ≡ book_in locked) items

  -- One release. The item's number was out with a base, which goes back to the importer, and is at home again. The entry of its own number alone changes.
  pub record Releases (old : LockedCache I g) (held : Held) (new : LockedCache I g) : Type 0 where
    pub base : ℕ
    pub was : IsOutWith (entries_in old) (held_no held) base
    pub entries : entries_in new ≡ slice_set (entries_in old) (held_no held) None
    pub loses : Loses (outside_in old) base (outside_in new)
    pub same : IsSameCache old new
    pub nothing : CountsNothing old new

  -- all the items of a list were released one after another, the last of the list first
  abbrev pub ReleasesAll : LockedCache I g → List Held → LockedCache I g → Type 0
  ReleasesAll old [] new = new ≡ old
  ReleasesAll old (held ∷ more) new = (left : LockedCache I g) × ReleasesAll old more left × Releases left held new

  -- So are those of a stack, of which the size stays, and what the lock keeps it keeps still.
  pub record EmptiesStack (old : LockedCache I g) (was : Stack) (answer : ℕ) (new : LockedCache I g) (is : Stack) : Type 0 where
    pub count : answer ≡ length (stack_items was)
    pub empty : stack_items is ≡ []
    pub releases : ReleasesAll old (stack_items was) new
    pub size : stack_size is ≡ stack_size was
    pub keeps : (key : ZKey) → Keeps key old → Keeps key new
