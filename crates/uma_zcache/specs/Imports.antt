-- Own: what an import and an import round do to what lies behind the lock.
use Rattle.std.specs.Prelude.{◌≡◌, ◌<◌, ◌⊎◌, ◌++◌, ℕ, List, [], ◌∷◌, Some, length, slice_set}
use Rattle.uma_zcache.specs.declared.cache.Held.{Held}
use Rattle.uma_zcache.specs.declared.locked.LockedCache.{LockedCache}
use Rattle.uma_zcache.specs.declared.refused.ZAllocRefused.{ZAllocRefused}
use Rattle.uma_zcache.specs.declared.refused.ZAllocRefused.TheVariants.{Out, NoFit, Memory}
use Rattle.uma_zcache.specs.Bases.{Gains}
use Rattle.uma_zcache.specs.Entries.{out_of, IsHome, IsOutWith}
use Rattle.uma_zcache.specs.Held.{held_base, held_no, held_book}
use Rattle.uma_zcache.specs.Locked.{entries_in, outside_in, lacks_in, book_in, turned_in, counted, IsSameCache, CountsNothing, MovesNothing}

module _ {I : Type 0} {g : _} where
  -- the item has the base of its number's entry
  abbrev pub HasEntry : LockedCache I g → Held → Type 0
  HasEntry locked held = IsOutWith (entries_in locked) (held_no held) (held_base held)

  -- One import. A number that was at home is out with a base that the importer gave, and the item is theirs. The entry of its own number alone changes.
  pub record Imports (old : LockedCache I g) (held : Held) (new : LockedCache I g) : Type 0 where
    pub home : IsHome (entries_in old) (held_no held)
    pub entries : entries_in new ≡ slice_set (entries_in old) (held_no held) (Some (held_base held))
    pub gains : Gains (outside_in old) (held_base held) (outside_in new)
    pub book : held_book held ≡ book_in old
    pub same : IsSameCache old new
    pub nothing : CountsNothing old new

  -- what an import found that was refused: all numbers out, or else a number at home, and an importer that gives no base
  abbrev pub FindsNone : LockedCache I g → ZAllocRefused → Type 0
  FindsNone old (Out out numbers) = (numbers ≡ length (entries_in old)) × (out ≡ numbers) × (out_of (entries_in old) ≡ numbers)
  FindsNone old (NoFit size greatest) = (out_of (entries_in old) < length (entries_in old)) × lacks_in old size greatest
  FindsNone old Memory = out_of (entries_in old) < length (entries_in old)

  -- an import that was refused moves and counts nothing
  pub record RefusesImport (old : LockedCache I g) (why : ZAllocRefused) (new : LockedCache I g) : Type 0 where
    pub finds : FindsNone old why
    pub moves : MovesNothing old new
    pub same : IsSameCache old new
    pub nothing : CountsNothing old new

  -- these items were imported one after another, the first of the list first
  abbrev pub ImportsAll : LockedCache I g → List Held → LockedCache I g → Type 0
  ImportsAll old [] new = new ≡ old
  ImportsAll old (held ∷ more) new = (left : LockedCache I g) × Imports old held left × ImportsAll left more new

  -- these items were imported, and the next import was refused
  pub record StopsImporting (old : LockedCache I g) (held : List Held) (why : ZAllocRefused) (new : LockedCache I g) : Type 0 where
    pub left : LockedCache I g
    pub imports : ImportsAll old held left
    pub refused : RefusesImport left why new

  -- A round that gave items: a whole bucket's worth, or as many as came before the first import that was refused.
  abbrev pub Fills : LockedCache I g → ℕ → List Held → LockedCache I g → Type 0
  Fills old bucket held new = ((length held ≡ bucket) × ImportsAll old held new) ⊎ ((length held < bucket) × (why : ZAllocRefused) × StopsImporting old held why new)

  -- A round that gave none: its first import was refused. That is counted, but for want of memory.
  pub record TurnsAway (old : LockedCache I g) (why : ZAllocRefused) (new : LockedCache I g) : Type 0 where
    pub finds : FindsNone old why
    pub moves : MovesNothing old new
    pub turned : turned_in new ≡ turned_in old ++ counted why
    pub same : IsSameCache old new
