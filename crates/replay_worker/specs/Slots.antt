-- The slots of a worker (own). A slot past the list's end is empty.
use Rattle.std.specs.Prelude.{ℕ, ◌+◌, ◌-◌, List, ◌++◌, length, replicate, Option, Some, None, slice_index_or, slice_set}

-- what a slot holds
abbrev pub slot_at : {A : Type 0} → List (Option A) → ℕ → Option A
slot_at slots slot = slice_index_or slots slot None

-- the slots with empty ones behind them until there are so many
unfoldable pub padded : {A : Type 0} → List (Option A) → ℕ → List (Option A)
padded slots count = slots ++ replicate (count - length slots) None

-- the slots with this in one of them
unfoldable pub with_held : {A : Type 0} → List (Option A) → ℕ → A → List (Option A)
with_held slots slot it = slice_set (padded slots (slot + 1)) slot (Some it)

-- the slots with one of them empty
unfoldable pub emptied : {A : Type 0} → List (Option A) → ℕ → List (Option A)
emptied slots slot = slice_set slots slot None

-- the slots after a request whose item, if it got one, goes into one of them
abbrev pub filled : {A : Type 0} → List (Option A) → ℕ → Option A → List (Option A)
filled slots slot None = slots
filled slots slot (Some it) = with_held slots slot it
