-- Own: the numbers of a pool.
use Rattle.std.specs.Prelude.{ℕ, false}
use Rattle.uma_zone.specs.declared.zone.make.ZoneSet.{ZoneSet}
use Rattle.uma_zone.specs.Making.{AcceptsSet}
use Rattle.smr_core.specs.Making.{IsSeatCount}
use Rattle.uma.specs.declared.plan.Plan.{Plan}

-- the plan for so many workers and items of so many bytes, with all defaults
abbrev pub plan_of : ℕ → ℕ → Plan
plan_of workers size = record { workers = workers; size = size; slabs = 64; bucket = 16; limit = 0; reserve = 0; domains = 1; smr = false }

-- what a zone of the plan is made with
abbrev pub set_of : Plan → ZoneSet
set_of plan = record { slabs = plan.slabs; bucket = plan.bucket; limit = plan.limit; reserve = plan.reserve; domains = plan.domains; smr = plan.smr }

-- each number of the plan is in its range
abbrev pub IsGood : Plan → Type 0
IsGood plan = IsSeatCount plan.workers × AcceptsSet plan.size (set_of plan)
