-- Own: what contracts see of a pool.
use Rattle.std.specs.Prelude.{◌≡◌}
use Rattle.uma_bucket.specs.Home.{Home, IsHome}
use Rattle.uma_life.specs.declared.states.Live.{Live}
use Rattle.uma_life.specs.Live.{live_ticket}
use Rattle.uma_zone.specs.Zone.{zone_hooks, zone_home}
use Rattle.uma.specs.Plan.{IsGood}
use Rattle.uma.specs.declared.plan.Plan.{Plan}
use Rattle.uma.specs.declared.pool.Pool.{Pool}

module _ {T K : Type 0} {g k : _} where
  -- what it was made with
  abbrev pub pool_plan : Pool T K g k → Plan
  pool_plan pool = pool.plan

  -- the hooks that its items pass
  abbrev pub pool_hooks : Pool T K g k → K
  pool_hooks pool = zone_hooks pool.zone

  -- where its items are at home
  abbrev pub pool_home : Pool T K g k → Home
  pool_home pool = zone_home pool.zone

  -- the item is one of this pool
  abbrev pub IsItemOf : Pool T K g k → Live T g → Type 0
  IsItemOf pool held = IsHome (pool_home pool) (live_ticket held)

  -- a pool with this plan, whose numbers are in their ranges, by these hooks
  pub record IsMade (plan : Plan) (hooks : K) (pool : Pool T K g k) : Type 0 where
    pub planned : pool_plan pool ≡ plan
    pub hooked : pool_hooks pool ≡ hooks
    pub good : IsGood plan
