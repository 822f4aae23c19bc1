-- Own: the law of a book of numbers. It holds between any two steps, of what all seats of the book's table know, those of dropped deeds too.
use Rattle.std.specs.Prelude.{◌≡◌, ◌≢◌, ℕ, List, [], Option, Some, None, slice_get}
use mathlib.Core.Option.{some}
use lib.ListN.{get_elem?}
use Rattle.atomic_table.specs.Table.{Me}
use Rattle.deed_book.specs.declared.book.View.{View}
use Rattle.deed_book.specs.Views.{putting_home}

-- the number is below the book's count of numbers, and at home
abbrev pub IsHome : List (Option ℕ) → ℕ → Type 0
IsHome zones number = slice_get zones number ≡ Some None

-- the number is outside, with this zone
abbrev pub IsOutside : List (Option ℕ) → ℕ × ℕ → Type 0
IsOutside zones deed = slice_get zones deed.0 ≡ Some (Some deed.1)

-- the seat has this deed
abbrev pub HasDeed : List View → ℕ → ℕ × ℕ → Type 0
HasDeed views seat deed = (v : View) × (get_elem? views seat ≡ some v) × (v.deed ≡ Some deed)

-- 1. The first seat is the book's, whose map has each number that is outside, with its zone.
-- 2. The number of every deed is in the map, with the deed's zone.
-- 3. No two deeds have one number.
-- 4. What was named and not yet split off is in the map, and no deed has its number.
pub record BookLaw (views : List View) : Type 0 where
  pub book : View
  pub first : get_elem? views 0 ≡ some book
  pub outside : (seat : ℕ) (deed : ℕ × ℕ) → HasDeed views seat deed → IsOutside book.zones deed
  pub apart : (seat other : ℕ) (d e : ℕ × ℕ) → HasDeed views seat d → HasDeed views other e → d.0 ≡ e.0 → seat ≡ other
  pub named_outside : (deed : ℕ × ℕ) → book.named ≡ Some deed → IsOutside book.zones deed
  pub named_apart : (deed : ℕ × ℕ) (seat : ℕ) (d : ℕ × ℕ) → book.named ≡ Some deed → HasDeed views seat d → d.0 ≢ deed.0

-- a deed that the book took in is in the map, and its number is put home
abbrev pub PutsHome : View → Me (Unit {0}) View → Type 0
PutsHome before after = (deed : ℕ × ℕ) → before.deed ≡ Some deed → IsOutside before.zones deed × (after ≡ (putting_home before deed, []))
