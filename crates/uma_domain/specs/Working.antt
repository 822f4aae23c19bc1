-- Own: the working set of a domain, after FreeBSD's uma(9): how many of its items were in use for a while.
use Rattle.std.specs.Prelude.{◌≤◌, ◌<◌, ◌-◌, ◌^◌, ℕ, min, max}
use Rattle.uma_domain.specs.declared.lists.Working.{Working}

-- the counts after a put or a take that left so many items
abbrev pub after : Working → ℕ → Working
after working count = record { count = count; least = min working.least count; greatest = max working.greatest count }

-- the counts where an interval begins: least and greatest are the count
abbrev pub begun : ℕ → Working
begun count = record { count = count; least = count; greatest = count }

-- how many items were in use since the last trim: the greatest count less the least
abbrev pub working_set : Working → ℕ
working_set working = working.greatest - working.least

-- The count lies between the least and the greatest, which are below 2^32.
pub record IsBounded (working : Working) : Type 0 where
  pub above_least : working.least ≤ working.count
  pub below_greatest : working.count ≤ working.greatest
  pub few : working.greatest < 2 ^ 32
