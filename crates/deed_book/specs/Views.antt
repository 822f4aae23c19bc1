-- Own: what the seats of a book's table know, and how each step changes it.
use Rattle.std.specs.Prelude.{ℕ, ◌/◌, ◌%◌, List, [], Option, Some, None, slice_set}
use Rattle.deed_book.specs.declared.book.View.{View}

-- the book's own seat, between its calls
abbrev pub book_view : List (Option ℕ) → View
book_view zones = record { zones = zones; named = None; deed = None }

-- the seat of a deed
abbrev pub deed_view : ℕ × ℕ → View
deed_view deed = record { zones = []; named = None; deed = Some deed }

-- the seat of a deed that was accepted
abbrev pub spent : View
spent = record { zones = []; named = None; deed = None }

-- a stored word spells a number and a zone below 8
abbrev pub spelled_by : ℕ → ℕ × ℕ
spelled_by word = (word / 8, word % 8)

-- naming: the number is out with this zone, and has no deed yet
abbrev pub naming : View → ℕ × ℕ → View
naming v deed = record { zones = slice_set v.zones deed.0 (Some deed.1); named = Some deed; deed = v.deed }

-- splitting: the book names nothing any more, and the deed is what was named
abbrev pub unnamed : View → View
unnamed v = record { zones = v.zones; named = None; deed = v.deed }

abbrev pub named_deed : View → View
named_deed v = record { zones = []; named = None; deed = v.named }

-- accepting: the book has the deed
abbrev pub accepting : View → View → View
accepting v w = record { zones = v.zones; named = v.named; deed = w.deed }

-- the number of the deed is at home again
abbrev pub putting_home : View → ℕ × ℕ → View
putting_home v deed = record { zones = slice_set v.zones deed.0 None; named = v.named; deed = None }
