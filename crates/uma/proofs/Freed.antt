-- What a free of a local comes to, once it has got ready.
use Rattle.std.proofs.Common.{◌≡◌, Bool, true, false, subst}
use Rattle.zone_stats.specs.declared.ledger.SeatLedger.{SeatLedger}
use Rattle.zone_stats.specs.LedgerSteps.{CountsFree}
use Rattle.uma_life.specs.declared.states.Live.{Live}
use Rattle.uma.specs.declared.local.Local.{Local}
use Rattle.uma.specs.Pool.{pool_plan}
use Rattle.uma.specs.Local.{pool_of, ledger_in, KeepsLocal, KeepsUsable, Puts, Defers, Frees}

module _ {T K : Type 0} {g k : _} where
  pub frees : (old ready new : Local T K g k) (held : Live T g) (crossed : Bool) → KeepsLocal old ready → KeepsUsable old ready → ((pool_plan (pool_of ready)).smr ≡ false → Puts ready held new)
      → ((pool_plan (pool_of ready)).smr ≡ true → Defers ready held new) → ((pool_plan (pool_of ready)).smr ≡ true → KeepsUsable ready new) → CountsFree (ledger_in ready) (ledger_in new) crossed → Frees old held new
  frees old ready new held crossed kept usable put deferred unseen counted =
      record {
        ready = ready;
        kept = kept;
        usable = usable;
        put = put;
        deferred = deferred;
        unseen = unseen;
        crossed = crossed;
        counted = subst (λ (l : SeatLedger). CountsFree l (ledger_in new) crossed) kept.ledger counted;
      }
