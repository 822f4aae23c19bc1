-- Own: what a look at the lists of a seat's own domain comes to, and each of its steps.
use Rattle.std.specs.Prelude.{◌≡◌, ◌≤◌, ◌<◌, ℕ, Bool, true, false, length, Option, IfSome, IfNone}
use Rattle.smr_clock.specs.declared.clock.Clock.{Clock}
use Rattle.smr_clock.specs.declared.pass.Pass.{Pass}
use Rattle.smr_clock.specs.Belongs.{view}
use Rattle.uma_bucket.specs.declared.bucket.Bucket.{Bucket}
use Rattle.uma_bucket.specs.declared.freed.Ripe.{Ripe}
use Rattle.uma_bucket.specs.Ripe.{ripe_bucket, IsRipeAt}
use Rattle.uma_domain.specs.Listed.{IsPlainOf, IsLooseOf}
use Rattle.uma_domain.specs.Lists.{IsRaised}
use Rattle.uma_seat.specs.declared.seat.SeatCache.{SeatCache}
use Rattle.uma_seat.specs.Seat.{seat_domain, top_bucket, top_of, spares_of, misses_of, KeepsTop, KeepsRack, KeepsMisses}
use Rattle.uma_zone.specs.declared.domains.ZoneDomains.{ZoneDomains}
use Rattle.uma_zone.specs.Domains.{domains_home, domains_clock, domains_smr, IsSeatOf}
use Rattle.uma_zone.specs.Frames.{GoesOn, KeepsButTop, KeepsButMisses}
use Rattle.uma_zone.specs.Looked.{IsOfRipe}
use Rattle.uma_zone.specs.OwnDomain.{ArePlainOf, AreFoundIn, FindsNothing, TakesPlainAt, TakesRipeAt}

module _ {T H P : Type 0} {g h : _} where
  -- A look by a seat, which stays one of its zone. Where it found a bucket, the seat allocates from that, and the pass took in what the bucket's note knows. Where it found none, that is one more miss, and the pass is as it was. Nothing else of the seat changed, but that a spare bucket may have come.
  pub record Looks (them : ZoneDomains T H P g h) (merged : P → P → P) (leaves : T → ℕ → T → Type 0) (by : Clock H P) (p : Pass H P h) (s : SeatCache T H P g h) (answer : Bool) (p' : Pass H P h) (s' : SeatCache T H P g h) : Type 0 where
    pub pass : GoesOn by p p'
    pub seat : IsSeatOf them s'
    pub found : answer ≡ true → 0 < length (top_of s').items
    pub ripe : domains_smr them ≡ true → answer ≡ true → IsOfRipe them merged leaves (view p) (top_bucket s') (view p')
    pub hit : answer ≡ true → KeepsMisses s s'
    pub missed : answer ≡ false → IsRaised (misses_of s) (misses_of s')
    pub no_top : answer ≡ false → KeepsTop s s'
    pub no_rack : answer ≡ false → KeepsRack s s'
    pub unseen : answer ≡ false → view p' ≡ view p
    pub unseen_plain : domains_smr them ≡ false → view p' ≡ view p
    pub spares : length (spares_of s) ≤ length (spares_of s')
    pub kept : KeepsButTop s s'
    pub own : answer ≡ true → AreFoundIn them (seat_domain s) leaves (top_of s').items
    pub looked : answer ≡ false → FindsNothing them (seat_domain s)

  -- the same in a zone whose frees aren't deferred, without a pass
  pub record LooksForPlain (them : ZoneDomains T H P g h) (s : SeatCache T H P g h) (answer : Bool) (s' : SeatCache T H P g h) : Type 0 where
    pub seat : IsSeatOf them s'
    pub found : answer ≡ true → 0 < length (top_of s').items
    pub hit : answer ≡ true → KeepsMisses s s'
    pub missed : answer ≡ false → IsRaised (misses_of s) (misses_of s')
    pub no_top : answer ≡ false → KeepsTop s s'
    pub no_rack : answer ≡ false → KeepsRack s s'
    pub spares : length (spares_of s) ≤ length (spares_of s')
    pub kept : KeepsButTop s s'
    pub own : answer ≡ true → ArePlainOf them (seat_domain s) (top_of s').items
    pub looked : answer ≡ false → FindsNothing them (seat_domain s)

  -- The newest plain bucket of the seat's own domain is taken, or one more miss is counted in the seat's share.
  pub record TakesOwnPlain (them : ZoneDomains T H P g h) (s : SeatCache T H P g h) (result : Option (Bucket T g)) (s' : SeatCache T H P g h) : Type 0 where
    pub of_zone : IfSome result (IsPlainOf (domains_home them))
    pub hit : IfSome result (λ _. KeepsMisses s s')
    pub missed : IfNone result (IsRaised (misses_of s) (misses_of s'))
    pub seat : IsSeatOf them s'
    pub kept : KeepsButMisses s s'
    pub own : IfSome result (TakesPlainAt them (seat_domain s))
    pub looked : IfNone result (FindsNothing them (seat_domain s))

  -- The oldest sealed bucket of the seat's own domain whose poll says yes is taken, or one more miss is counted in the seat's share.
  pub record TakesOwnRipe (them : ZoneDomains T H P g h) (s : SeatCache T H P g h) (result : Option (Ripe T H P g h)) (s' : SeatCache T H P g h) : Type 0 where
    pub filled : IfSome result (λ one. IsLooseOf (domains_home them) (ripe_bucket one))
    pub of_clock : IfSome result (IsRipeAt (domains_clock them))
    pub hit : IfSome result (λ _. KeepsMisses s s')
    pub missed : IfNone result (IsRaised (misses_of s) (misses_of s'))
    pub seat : IsSeatOf them s'
    pub kept : KeepsButMisses s s'
    pub own : IfSome result (TakesRipeAt them (seat_domain s))
    pub looked : IfNone result (FindsNothing them (seat_domain s))
