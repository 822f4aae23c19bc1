-- A set of places as a list of truth values, which says of each place whether it is a member (own): 256 of them, or 1,024
-- in a wide set. No place past the list's end is one.
use Rattle.std.specs.Prelude.{◌≡◌, ℕ, ◌<◌, ◌≤◌, Bool, true, false, List, length, slice_index_or}

-- this place is a member, or it isn't one
abbrev pub IsMember : List Bool → ℕ → Type 0
IsMember members place = slice_index_or members place false ≡ true

abbrev pub IsNoMember : List Bool → ℕ → Type 0
IsNoMember members place = slice_index_or members place false ≡ false

-- no place at or above this one is a member
abbrev pub HasNoneFrom : List Bool → ℕ → Type 0
HasNoneFrom members from = (place : ℕ) → from ≤ place → IsNoMember members place

-- the place is the least member at or above `from`
pub record IsLeastFrom (members : List Bool) (from place : ℕ) : Type 0 where
  pub within : from ≤ place
  pub member : IsMember members place
  pub least : (lower : ℕ) → from ≤ lower → lower < place → IsNoMember members lower

-- the set with no member
pub record IsEmpty (members : List Bool) : Type 0 where
  pub places : length members ≡ 256
  pub none : (place : ℕ) → IsNoMember members place

-- the place is the greatest member
pub record IsGreatest (members : List Bool) (place : ℕ) : Type 0 where
  pub member : IsMember members place
  pub greatest : (higher : ℕ) → place < higher → IsNoMember members higher
