-- Own: why no pool is made.
use Rattle.std.specs.Prelude.{◌≡◌, ◌<◌, ◌⊎◌}
use Rattle.smr_core.specs.Making.{IsSeatCount}
use Rattle.uma_zone.specs.Making.{RefusesPrimary}
use Rattle.uma_zone.specs.declared.zone.make.ZoneRefused.TheVariants as zone
use Rattle.uma.specs.declared.plan.Plan.{Plan}
use Rattle.uma.specs.declared.refused.Refused.{Refused}
use Rattle.uma.specs.declared.refused.Refused.TheVariants.{Workers, Size, Slabs, Bucket, Domains, Memory}
use Rattle.uma.specs.Plan.{IsGood, set_of}

-- The first number of the plan that is out of its range, in the order workers, size, slabs, bucket, domains; memory is wanted for good ones alone.
abbrev pub RefusesPlan : Plan → Refused → Type 0
RefusesPlan plan (Workers workers) = (workers ≡ plan.workers) × ((plan.workers < 1) ⊎ (64 < plan.workers))
RefusesPlan plan (Size size) = IsSeatCount plan.workers × RefusesPrimary plan.size (set_of plan) (zone.Size size)
RefusesPlan plan (Slabs slabs) = IsSeatCount plan.workers × RefusesPrimary plan.size (set_of plan) (zone.Slabs slabs)
RefusesPlan plan (Bucket bucket) = IsSeatCount plan.workers × RefusesPrimary plan.size (set_of plan) (zone.Bucket bucket)
RefusesPlan plan (Domains domains) = IsSeatCount plan.workers × RefusesPrimary plan.size (set_of plan) (zone.Domains domains)
RefusesPlan plan Memory = IsGood plan
RefusesPlan plan _ = ⊥
