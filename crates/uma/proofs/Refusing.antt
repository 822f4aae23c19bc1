-- What a refused request comes to, by what the pool's zone tells.
use Rattle.std.proofs.Common.{◌≡◌, ℕ, subst}
use Rattle.zone_stats.specs.declared.ledger.SeatLedger.{SeatLedger}
use Rattle.zone_stats.specs.declared.refusal.Refusal.{Refusal}
use Rattle.zone_stats.specs.declared.refusal.Refusal.TheVariants.{AtLimit, Reserved, Full, Init, Ctor}
use Rattle.zone_stats.specs.LedgerSteps.{CountsCtor, CountsTurned}
use Rattle.uma_life.specs.Cached.{cached_body}
use Rattle.uma_seat.specs.declared.seat.SeatCache.{SeatCache}
use Rattle.uma_seat.specs.Seat.{ledger_of}
use Rattle.uma_zone.specs.declared.zone.alloc.AllocAsk.{AllocAsk}
use Rattle.uma_zone.specs.declared.zone.alloc.AllocRefused.{AllocRefused}
use Rattle.uma_zone.specs.declared.zone.alloc.AllocRefused.TheVariants.{Refused}
use Rattle.uma_zone.specs.declared.zone.Zone.{Zone}
use Rattle.uma_zone.specs.Alloc.{AllocIsRefused}
use Rattle.uma.specs.Refusing.{CountsFail, IsCause}

by_turn : (old new : SeatLedger) (refusal : Refusal) → CountsTurned old new refusal → CountsFail old new refusal
by_turn old new refusal c = record { requests = c.requests; allocs = c.allocs; fails = c.fails; frees = c.frees; last = c.last }

by_ctor : (old new : SeatLedger) (code : ℕ) → CountsCtor old new code → CountsFail old new (Ctor code)
by_ctor old new code c = record { requests = c.requests; allocs = c.allocs; fails = c.fails; frees = c.frees; last = c.last }

module _ {T K H P : Type 0} {g k h : _} (zone : Zone T K H P g k h) (ask : AllocAsk) (old new : SeatCache T H P g h) where
  counts_fail : (refusal : Refusal) → AllocIsRefused zone ask old new (Refused refusal) → CountsFail (ledger_of old) (ledger_of new) refusal
  counts_fail (AtLimit out limit) r = by_turn _ _ _ r.counted
  counts_fail (Reserved free reserve) r = by_turn _ _ _ r.counted
  counts_fail (Full slabs made) r = by_turn _ _ _ r.counted
  counts_fail (Init code) r = by_turn _ _ _ r.counted
  counts_fail (Ctor code) r = by_ctor _ _ code r.counted

  is_cause : (refusal : Refusal) → AllocIsRefused zone ask old new (Refused refusal) → IsCause zone ask.arg ask.reserve refusal
  is_cause (AtLimit out limit) r = r.names
  is_cause (Reserved free reserve) r = r.names
  is_cause (Full slabs made) r = r.names
  is_cause (Init code) r = r.names
  is_cause (Ctor code) r = (cached_body r.item, r.refused)

  turned : (why : AllocRefused) (refusal : Refusal) → why ≡ Refused refusal → AllocIsRefused zone ask old new why → AllocIsRefused zone ask old new (Refused refusal)
  turned why refusal is refuses = subst (λ (w : AllocRefused). AllocIsRefused zone ask old new w) is refuses

  pub fails : (why : AllocRefused) (refusal : Refusal) → why ≡ Refused refusal → AllocIsRefused zone ask old new why → CountsFail (ledger_of old) (ledger_of new) refusal
  fails why refusal is refuses = counts_fail refusal (turned why refusal is refuses)

  pub has_cause : (why : AllocRefused) (refusal : Refusal) → why ≡ Refused refusal → AllocIsRefused zone ask old new why → IsCause zone ask.arg ask.reserve refusal
  has_cause why refusal is refuses = is_cause refusal (turned why refusal is refuses)
