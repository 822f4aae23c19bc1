-- Own: the list of the numbers at home, beside the entries that it is told by.
use Rattle.std.specs.Prelude.{◌≡◌, ◌+◌, ◌≤◌, ℕ, List, Option, Some, None, length, slice_get, vec_capacity}
use Rattle.uma_zcache.specs.Bases.{times}
use Rattle.uma_zcache.specs.Entries.{out_of}
use Rattle.uma_zcache.specs.declared.locked.Entries.TheInside.{Inside}

-- 1 for a number at home, else 0
abbrev pub home_once : Option (Option ℕ) → ℕ
home_once (Some None) = 1
home_once _ = 0

-- 1. There is room to list all numbers, which are few.
-- 2. A number is listed once where it is at home, and else not.
-- 3. Those listed and those that are out are all.
pub record Lists (entries : List (Option ℕ)) (home : List ℕ) (room : ℕ) : Type 0 where
  pub all_fit : length entries ≤ room
  pub few : length entries ≤ 262144
  pub once : (number : ℕ) → times number home ≡ home_once (slice_get entries number)
  pub all : length home + out_of entries ≡ length entries

abbrev pub IsListed : Inside → Type 0
IsListed e = Lists e.bases.items e.home.items (vec_capacity e.home)
