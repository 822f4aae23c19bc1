-- How rows and entries go from one seat to another.
use Rattle.std.specs.Prelude.{ℕ, ◌==◌, ◌++◌, List, [], ◌∷◌, cond, Option, Some, None, option_to_list}
use Rattle.name_rows.specs.declared.names.RowView.{RowView}
use Rattle.name_rows.specs.declared.entry.EntryState.{EntryState}
use Rattle.name_rows.specs.declared.entry.EntryState.TheVariants.{Unlinked}
use Rattle.name_rows.specs.declared.entry.Owned.{Owned}
use Rattle.name_rows.specs.declared.names.Part.{Part}

module _ {A : Type 0} (number : A → ℕ) where
  -- the first of this number
  abbrev pub found : ℕ → List A → Option A
  found n [] = None
  found n (x ∷ xs) = cond (number x == n) (Some x) (found n xs)

  -- those of other numbers
  abbrev pub without : ℕ → List A → List A
  without n [] = []
  without n (x ∷ xs) = cond (number x == n) (without n xs) (x ∷ without n xs)

abbrev pub entry_no : Owned → ℕ
entry_no o = o.entry

abbrev pub row_no : RowView → ℕ
row_no v = v.number

-- a seat takes in an entry's: it has what both had
abbrev pub taken : Part → Part → Part
taken p other = record p { rows = other.rows ++ p.rows; owned = other.owned ++ p.owned }

-- a part that owns these entries, and nothing else
abbrev pub owning : List Owned → Part
owning owned = record { rows = []; owned = owned; known = []; hold = None; next = None }

-- ---- an entry off the root: that of the number that the root has named

abbrev pub without_next : Option ℕ → List Owned → List Owned
without_next None owned = owned
without_next (Some n) owned = without entry_no n owned

abbrev pub at_next : Option ℕ → List Owned → List Owned
at_next None owned = []
at_next (Some n) owned = option_to_list (found entry_no n owned)

abbrev pub rest_of_entries : Part → Part
rest_of_entries p = record p { owned = without_next p.next p.owned; next = None }

abbrev pub next_entry : Part → Part
next_entry p = owning (at_next p.next p.owned)

-- ---- a row off the root: the first

abbrev pub without_first : List RowView → List RowView
without_first [] = []
without_first (v ∷ vs) = without row_no v.number vs

abbrev pub first_of : List RowView → List RowView
first_of [] = []
first_of (v ∷ vs) = v ∷ []

abbrev pub rest_of_rows : Part → Part
rest_of_rows p = record p { rows = without_first p.rows }

abbrev pub first_row : Part → Part
first_row p = record { rows = first_of p.rows; owned = []; known = []; hold = None; next = None }

-- ---- an unlinked entry off a row

abbrev pub if_unlinked : EntryState → List Owned → List Owned → List Owned
if_unlinked Unlinked one other = one
if_unlinked _ one other = other

abbrev pub but_unlinked : List Owned → List Owned
but_unlinked [] = []
but_unlinked (o ∷ os) = if_unlinked o.state (but_unlinked os) (o ∷ but_unlinked os)

abbrev pub unlinked_in : List Owned → List Owned
unlinked_in [] = []
unlinked_in (o ∷ os) = if_unlinked o.state (o ∷ unlinked_in os) (unlinked_in os)

abbrev pub linked_rest : Part → Part
linked_rest p = record p { owned = but_unlinked p.owned }

abbrev pub unlinked_entry : Part → Part
unlinked_entry p = owning (unlinked_in p.owned)
