-- Domains that are settled one after another.
use Rattle.std.proofs.Common.{◌≡◌, ◌<◌, ◌+◌, ℕ, suc, length, Result, Ok, Err, OnOk, OnErr, IfErr, inl, inr, refl, ap, subst, arith}
use Rattle.smr_clock.specs.declared.view.View.{View}
use Rattle.uma_zone.specs.declared.domains.ZoneDomains.{ZoneDomains}
use Rattle.zone_stats.specs.declared.refusal.Refusal.TheVariants.{Ctor}
use Rattle.uma_zone.specs.declared.zone.alloc.AllocRefused.{AllocRefused}
use Rattle.uma_zone.specs.declared.zone.alloc.AllocRefused.TheVariants.{Refused, Memory}
use Rattle.uma_seat.specs.declared.seat.SeatCache.{SeatCache}
use Rattle.uma_seat.specs.Seat.{seat_domain, shelf_of}
use Rattle.uma_zone.specs.OwnDomain.{Settles, IsSettled, SettlesFirst}
use Rattle.uma_zone.specs.Stopped.{SettlesInPart, StopsToLook}

-- the same Err of another value's type
pub as_err : {A B E : Type 0} (e m : E) → Path (Result A E) (Err e) (Err m) → Path (Result B E) (Err e) (Err m)
as_err e m same = let one : e ≡ m = cc in ap Err one

pub not_err : {A E : Type 0} (a : A) (m : E) → Path (Result A E) (Ok a) (Err m) → ⊥
not_err a m same = absurd (cc)

-- what holds anyhow holds at an Err
pub at_err : {A E F : Type 0} (result : Result A E) → F → OnErr result F
at_err (Ok a) x = tt
at_err (Err e) x = x

-- a refusal by `ctor` isn't want of memory
refused_not : (why : AllocRefused) (code : ℕ) → why ≡ Refused (Ctor code) → why ≡ Memory → ⊥
refused_not why code is other = absurd (cc)

pub not_memory : {A : Type 0} (F : AllocRefused → ℕ → Type 0) (result : Result A AllocRefused) → IfErr result (λ why. (code : ℕ) × (why ≡ Refused (Ctor code)) × F why code) → Path (Result A AllocRefused) result (Err Memory) → ⊥
not_memory F (Ok a) why same = absurd (cc)
not_memory F (Err e) why same = let is : e ≡ Memory = cc in refused_not e why.0 why.1 is

module _ {T H P : Type 0} {g h : _} where
  pub settled_none : (them : ZoneDomains T H P g h) (copied : P → P) (v : View P) → SettlesFirst them copied v 0 v
  unfolding SettlesFirst
  settled_none them copied v = refl

  pub settled_more : (them : ZoneDomains T H P g h) (copied : P → P) (v mid v' : View P) (number : ℕ) → SettlesFirst them copied v number mid → Settles them number copied mid v' → SettlesFirst them copied v (number + 1) v'
  unfolding SettlesFirst
  settled_more them copied v mid v' number before one =
      let e : suc number ≡ number + 1 = omega arith in
      let more : SettlesFirst them copied v (suc number) v' = (mid, before, one) in
      subst (λ (n : ℕ). SettlesFirst them copied v n v') e more

  -- the domain that a seat is of
  pub settled_own : {E : Type 0} (them : ZoneDomains T H P g h) (copied : P → P) (number own : ℕ) (v v' : View P) (result : Result (Unit {0}) E) → number ≡ own → OnOk result (Settles them number copied v v') → OnOk result (IsSettled them own copied)
  settled_own them copied number own v v' (Err e) same done = tt
  settled_own them copied number own v v' (Ok x) same done = record { before = v; after = v'; settles = subst (λ (n : ℕ). Settles them n copied v v') same done }

  pub settled_of : (them : ZoneDomains T H P g h) (copied : P → P) (number own : ℕ) → number ≡ own → IsSettled them number copied → IsSettled them own copied
  settled_of them copied number own same settled = subst (λ (n : ℕ). IsSettled them n copied) same settled

  -- where memory was wanting for the flush
  pub stays_of : (them : ZoneDomains T H P g h) (old new : SeatCache T H P g h) → 0 < length (shelf_of new) → StopsToLook them old new
  stays_of them old new some = record { how = inl some }

  -- where memory was wanting for the settle of the domain that a seat is of
  pub stopped_own : {E : Type 0} (them : ZoneDomains T H P g h) (number : ℕ) (old new : SeatCache T H P g h) (result : Result (Unit {0}) E) → number ≡ seat_domain old → OnErr result (SettlesInPart them number) → OnErr result (StopsToLook them old new)
  stopped_own them number old new (Ok x) same part = tt
  stopped_own them number old new (Err e) same part = record { how = inr (subst (λ (n : ℕ). SettlesInPart them n) same part) }
