-- Own: the numbers of a directory, and why none is made.
use Rattle.std.specs.Prelude.{◌≡◌, ◌<◌, ◌≤◌, ◌⊎◌, ℕ, true}
use Rattle.smr_core.specs.Making.{IsSeatCount}
use Rattle.uma_zone.specs.declared.zone.make.ZoneSet.{ZoneSet}
use Rattle.uma_zone.specs.Making.{IsBucketSize}
use Rattle.uma_slabs.specs.Refused.{IsSlabCount}
use Rattle.uma.specs.declared.plan.NamePlan.{NamePlan}
use Rattle.uma.specs.declared.refused.Refused.{Refused}
use Rattle.uma.specs.declared.refused.Refused.TheVariants.{Workers, Rows, Slabs, Bucket, Memory}

-- the plan for so many workers and rows, with all defaults
abbrev pub name_plan_of : ℕ → ℕ → NamePlan
name_plan_of workers rows = record { workers = workers; rows = rows; slabs = 64; bucket = 16 }

-- what the zone of its entries is made with
abbrev pub name_set_of : NamePlan → ZoneSet
name_set_of plan = record { slabs = plan.slabs; bucket = plan.bucket; limit = 0; reserve = 0; domains = 1; smr = true }

-- each number of the plan is in its range
pub record IsGoodNames (plan : NamePlan) : Type 0 where
  pub for_workers : IsSeatCount plan.workers
  pub one_row : 1 ≤ plan.rows
  pub most_rows : plan.rows ≤ 4096
  pub of_slabs : IsSlabCount plan.slabs
  pub of_bucket : IsBucketSize plan.bucket

-- The first number of the plan that is out of its range, in the order workers, rows, slabs, bucket; memory is wanted for good ones alone.
abbrev pub RefusesNamePlan : NamePlan → Refused → Type 0
RefusesNamePlan plan (Workers workers) = (workers ≡ plan.workers) × ((plan.workers < 1) ⊎ (64 < plan.workers))
RefusesNamePlan plan (Rows rows) = IsSeatCount plan.workers × (rows ≡ plan.rows) × ((plan.rows < 1) ⊎ (4096 < plan.rows))
RefusesNamePlan plan (Slabs slabs) = IsSeatCount plan.workers × (1 ≤ plan.rows) × (plan.rows ≤ 4096) × (slabs ≡ plan.slabs) × ((plan.slabs < 1) ⊎ (1024 < plan.slabs))
RefusesNamePlan plan (Bucket bucket) = IsSeatCount plan.workers × (1 ≤ plan.rows) × (plan.rows ≤ 4096) × IsSlabCount plan.slabs × (bucket ≡ plan.bucket) × ((plan.bucket < 4) ⊎ (64 < plan.bucket))
RefusesNamePlan plan Memory = IsGoodNames plan
RefusesNamePlan plan _ = ⊥
