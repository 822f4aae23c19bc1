-- Own: what the seats of a fail book's table know, and how each step changes it.
use Rattle.std.specs.Prelude.{ℕ, List, [], ◌∷◌, ◌++◌, Some, None, option_to_list}
use Rattle.deed_book.specs.declared.deed.Cause.{Cause}
use Rattle.deed_book.specs.declared.fail_book.FailView.{FailView}

abbrev pub cause : ℕ → ℕ → ℕ → Cause
cause kind first second = record { kind = kind; first = first; second = second }

-- a share of these causes, or a unit
abbrev pub share_view : List Cause → FailView
share_view causes = record { raised = []; pending = None; first = 0; second = 0; held = causes }

-- the book's own seat when the book is made
abbrev pub unraised : FailView
unraised = share_view []

abbrev pub storing_first : FailView → ℕ → FailView
storing_first v number = record v { first = number }

abbrev pub storing_second : FailView → ℕ → FailView
storing_second v number = record v { second = number }

-- raising: the cause that the words spell is the last of the list, and the next to be split off
abbrev pub raising : FailView → ℕ → FailView
raising v kind = let new = cause kind v.first v.second in record v { raised = v.raised ++ new ∷ []; pending = Some new }

-- splitting: nothing is pending any more, and the new seat has what was
abbrev pub settled : FailView → FailView
settled v = record v { pending = None }

abbrev pub split_off : FailView → FailView
split_off v = share_view (option_to_list v.pending)

-- joining: what the other seat has comes to the end of the list
abbrev pub joining_in : FailView → FailView → FailView
joining_in v w = record v { held = v.held ++ w.held }
