-- Own: what contracts see of one domain of a zone.
use Rattle.std.specs.Prelude.{◌≡◌, Bool}
use Rattle.smr_clock.specs.declared.clock.Setup.{Setup}
use Rattle.smr_clock.specs.Belongs.{TableId}
use Rattle.uma_bucket.specs.Home.{Home}
use Rattle.uma_bucket.specs.Inboxes.{InboxOrigin}
use Rattle.uma_domain.specs.declared.domain.Domain.{Domain}
use Rattle.uma_domain.specs.Domain.{domain_identity}
use Rattle.uma_domain.specs.Identity.{origin_of}

module _ {T H P : Type 0} {g h : _} where
  -- the table of a domain's book of misses
  abbrev pub domain_misses : Domain T H P g h → TableId
  domain_misses domain = (domain_identity domain).misses

  -- of what the ports of a domain's inbox are
  abbrev pub domain_origin : Domain T H P g h → InboxOrigin
  domain_origin domain = origin_of (domain_identity domain)

  -- The domain is one of a zone over this clock, whose items are at home there. `smr` says whether the zone's readers hold no lock.
  pub record IsDomainOf (clock : TableId × Setup) (home : Home) (smr : Bool) (domain : Domain T H P g h) : Type 0 where
    pub same_clock : (domain_identity domain).clock ≡ clock
    pub same_home : (domain_identity domain).home ≡ home
    pub same_smr : (domain_identity domain).smr ≡ smr
