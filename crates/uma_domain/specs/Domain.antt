-- Own: what contracts see of a domain.
use Rattle.std.specs.Prelude.{◌≡◌, Bool}
use Rattle.keyed_lock.specs.KeyedLock.{lock_key}
use Rattle.smr_clock.specs.declared.clock.Setup.{Setup}
use Rattle.smr_clock.specs.Belongs.{TableId}
use Rattle.uma_bucket.specs.Home.{Home}
use Rattle.uma_domain.specs.declared.domain.Domain.{Domain}
use Rattle.uma_domain.specs.Identity.{Identity, key_identity}

module _ {T H P : Type 0} {g h : _} where
  -- which domain it is
  abbrev pub domain_identity : Domain T H P g h → Identity
  domain_identity domain = key_identity (lock_key domain.lists)

  -- It is of this clock, and its items are at home there. Whether readers of its zone hold no lock is said too.
  pub record IsMadeFor (of_clock : TableId × Setup) (at_home : Home) (deferred : Bool) (domain : Domain T H P g h) : Type 0 where
    pub clock : (domain_identity domain).clock ≡ of_clock
    pub home : (domain_identity domain).home ≡ at_home
    pub smr : (domain_identity domain).smr ≡ deferred
