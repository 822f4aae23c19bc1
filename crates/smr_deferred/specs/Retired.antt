-- Own: what a list keeps of a value.
use Rattle.std.specs.Prelude.{ℕ, List, [], ◌∷◌, Option, Some, None}
use Rattle.smr_deferred.specs.declared.retire_list.Retired.{Retired}

module _ {T : Type 0} where
  -- the value with its goal
  abbrev pub retired : T → ℕ → Retired T
  retired value goal = record { value = value; goal = goal }

  -- the goal of the oldest value, if there is one
  abbrev pub oldest_goal : List (Retired T) → Option ℕ
  oldest_goal [] = None
  oldest_goal (oldest ∷ rest) = Some oldest.goal
