-- How a request that took an item ends.
use Rattle.std.proofs.Common.{◌≡◌, ℕ, Bool, List, [], ◌∷◌, ◌++◌, Result, Ok, Err, IfOk, IfErr, inl, inr, sym, ◌∙◌, subst}
use Rattle.zone_stats.specs.declared.ledger.SeatLedger.{SeatLedger}
use Rattle.zone_stats.specs.declared.refusal.Refusal.TheVariants.{Ctor}
use Rattle.zone_stats.specs.LedgerSteps.{CountsAlloc, CountsCtor}
use Rattle.deed_book.specs.declared.fail_book.FailShare.{FailShare}
use Rattle.uma_life.specs.declared.states.Cached.{Cached}
use Rattle.uma_life.specs.declared.states.Live.{Live}
use Rattle.uma_domain.specs.Lists.{IsRaised}
use Rattle.uma_seat.specs.declared.seat.SeatCache.{SeatCache}
use Rattle.uma_seat.specs.Seat.{top_of, usable_of, ledger_of, fetches_of, misses_of, IsSameSeat, KeepsMisses}
use Rattle.uma_zone.specs.declared.zone.alloc.AllocAsk.{AllocAsk}
use Rattle.uma_zone.specs.declared.zone.alloc.AllocRefused.{AllocRefused}
use Rattle.uma_zone.specs.declared.zone.alloc.AllocRefused.TheVariants.{Refused}
use Rattle.uma_zone.specs.declared.zone.Zone.{Zone}
use Rattle.uma_zone.specs.Alloc.{TakesUsable, PutsBack, AllocIsRefused}
use Rattle.uma_zone.specs.Allocating.{ServesAtHome, BuildsAtHome}
use Rattle.uma_zone.proofs.OneFetch.{one_still}

module _ {T K H P : Type 0} {g k h : _} where
  -- where an item came from stays so, while the seat fetches and looks no more
  takes_still : (zone : Zone T K H P g k h) (reserve : Bool) (old mid new : SeatCache T H P g h) (item : Cached T g) (left : List (Cached T g)) → fetches_of new ≡ fetches_of mid → KeepsMisses mid new → (top_of new).room ≡ (top_of mid).room → IsSameSeat mid new
      → TakesUsable zone reserve old item left mid → TakesUsable zone reserve old item left new
  takes_still zone reserve old mid new item left fetches misses room same takes = elim takes [
    | inl own ↦ inl record { last = own.last; fetches = fetches ∙ own.fetches; misses = misses ∙ own.misses }
    | inr (inl listed) ↦ inr (inl record { empty = listed.empty; fetches = fetches ∙ listed.fetches; misses = misses ∙ listed.misses; own = listed.own; reused = listed.reused })
    | inr (inr fetched) ↦ inr (inr record {
      empty = fetched.empty;
      looked = fetched.looked;
      missed = subst (λ (s : FailShare). IsRaised (misses_of old) s) (sym misses) fetched.missed;
      one = one_still zone reserve (left ++ item ∷ []) mid new room same fetched.one;
      fetches = fetches ∙ fetched.fetches;
    })
  ]

  -- the item that was taken passed `ctor`
  pub served_by : (zone : Zone T K H P g k h) (ask : AllocAsk) (old mid new : SeatCache T H P g h) (item : Cached T g) (result : Result (Live T g) AllocRefused) → TakesUsable zone ask.reserve old item (usable_of mid) mid → ledger_of mid ≡ ledger_of old
      → fetches_of new ≡ fetches_of mid → KeepsMisses mid new → (top_of new).room ≡ (top_of mid).room → IsSameSeat mid new → IfOk result (BuildsAtHome zone ask.arg item mid new)
      → IfOk result (ServesAtHome zone ask old new)
  served_by zone ask old mid new item (Ok live) takes ledger fetches misses room same built = record {
    home = built.home;
    serves = record {
      item = item;
      takes = subst (λ (l : List (Cached T g)). TakesUsable zone ask.reserve old item l new) (sym built.usable) (takes_still zone ask.reserve old mid new item (usable_of mid) fetches misses room same takes);
      built = built.built;
      counted = subst (λ (l : SeatLedger). CountsAlloc l (ledger_of new)) ledger built.counted;
    };
  }
  served_by zone ask old mid new item (Err e) takes ledger fetches misses room same built = built

  -- `ctor` refused the item that was taken
  ctor_refused : (zone : Zone T K H P g k h) (ask : AllocAsk) (old mid new : SeatCache T H P g h) (item : Cached T g) (why : AllocRefused) (code : ℕ) → TakesUsable zone ask.reserve old item (usable_of mid) mid → ledger_of mid ≡ ledger_of old
      → fetches_of new ≡ fetches_of mid → KeepsMisses mid new → (top_of new).room ≡ (top_of mid).room → IsSameSeat mid new → why ≡ Refused (Ctor code) → PutsBack zone ask.arg item code mid new → AllocIsRefused zone ask old new why
  ctor_refused zone ask old mid new item why code takes ledger fetches misses room same is puts = subst (AllocIsRefused zone ask old new) (sym is) record {
    item = item;
    left = usable_of mid;
    takes = takes_still zone ask.reserve old mid new item (usable_of mid) fetches misses room same takes;
    back = puts.back;
    refused = puts.refused;
    is_code = puts.is_code;
    counted = subst (λ (l : SeatLedger). CountsCtor l (ledger_of new) code) ledger puts.counted;
  }

  pub refused_by : (zone : Zone T K H P g k h) (ask : AllocAsk) (old mid new : SeatCache T H P g h) (item : Cached T g) (result : Result (Live T g) AllocRefused) → TakesUsable zone ask.reserve old item (usable_of mid) mid → ledger_of mid ≡ ledger_of old
      → fetches_of new ≡ fetches_of mid → KeepsMisses mid new → (top_of new).room ≡ (top_of mid).room → IsSameSeat mid new → IfErr result (λ why. (code : ℕ) × (why ≡ Refused (Ctor code)) × PutsBack zone ask.arg item code mid new)
      → IfErr result (AllocIsRefused zone ask old new)
  refused_by zone ask old mid new item (Ok live) takes ledger fetches misses room same why = why
  refused_by zone ask old mid new item (Err e) takes ledger fetches misses room same why = ctor_refused zone ask old mid new item e why.0 takes ledger fetches misses room same why.1 why.2
