-- Own: why a pool gives no local and no reader.
use Rattle.std.specs.Prelude.{◌≡◌}
use Rattle.smr_clock.specs.contracts.host.BareHost.TheImpl.{ghosts as bare}
use Rattle.uma.specs.declared.pool.Pool.{Pool}
use Rattle.uma.specs.declared.refused.Refused.{Refused}
use Rattle.uma.specs.declared.refused.Refused.TheVariants.{Taken, Memory}
use Rattle.uma.specs.NoPass.{HasNoPass}

module _ {T K : Type 0} {g k : _} where
  -- Why a pool gives no reader: each of its workers has a local or a reader.
  abbrev pub RefusesReader : Pool T K g k → Refused → Type 0
  RefusesReader pool (Taken workers) = (workers ≡ pool.plan.workers) × HasNoPass bare pool.clock
  RefusesReader pool _ = ⊥

  -- Why a pool gives no local: each of its workers has one, or memory is wanting for its cache, and then its pass is there for another.
  abbrev pub RefusesLocal : Pool T K g k → Refused → Type 0
  RefusesLocal pool (Taken workers) = (workers ≡ pool.plan.workers) × HasNoPass bare pool.clock
  RefusesLocal pool Memory = Unit {0}
  RefusesLocal pool _ = ⊥
