-- Own: which number of a cache zone has which base.
use Rattle.std.specs.Prelude.{◌≡◌, ◌==◌, ◌≤◌, ℕ, Bool, true, false, List, Option, Some, None, count_by, is_some, length, slice_get, slice_set}

-- whether an entry has this base
abbrev pub has_base : ℕ → Option ℕ → Bool
has_base base None = false
has_base base (Some b) = b == base

-- how many numbers have this base
abbrev pub numbers_with : ℕ → List (Option ℕ) → ℕ
numbers_with base entries = count_by (has_base base) entries

-- how many numbers are out, which have a base
abbrev pub out_of : List (Option ℕ) → ℕ
out_of entries = count_by is_some entries

-- so many numbers are out, of all that there are
pub record CountsOut (entries : List (Option ℕ)) (count : ℕ) : Type 0 where
  pub out : count ≡ out_of entries
  pub within : count ≤ length entries

-- whether an entry that is there has a base
abbrev pub is_out_at : Option (Option ℕ) → Bool
is_out_at (Some (Some base)) = true
is_out_at _ = false

-- whether a number is out
abbrev pub is_out : List (Option ℕ) → ℕ → Bool
is_out entries number = is_out_at (slice_get entries number)

-- the number is at home: it is one of the numbers, and has no base
abbrev pub IsHome : List (Option ℕ) → ℕ → Type 0
IsHome entries number = slice_get entries number ≡ Some None

-- the number is out with this base
abbrev pub IsOutWith : List (Option ℕ) → ℕ → ℕ → Type 0
IsOutWith entries number base = slice_get entries number ≡ Some (Some base)

-- the number was at home, and is out with this base; no other entry changes
pub record PutsOut (old : List (Option ℕ)) (number base : ℕ) (new : List (Option ℕ)) : Type 0 where
  pub home : IsHome old number
  pub entry : new ≡ slice_set old number (Some base)

-- the number was out with this base, and is at home; no other entry changes
pub record PutsHome (old : List (Option ℕ)) (number base : ℕ) (new : List (Option ℕ)) : Type 0 where
  pub was : IsOutWith old number base
  pub entry : new ≡ slice_set old number None
