use Rattle.std.proofs.Common.{◌*◌, ◌^◌}
use Rattle.uma_bucket.specs.Sums.{AreOfAtMost, Balance}
use Rattle.uma_zone.specs.Domains.{domains_home}
use Rattle.uma_zone.proofs.domains.ZoneDomains.sums.Given as goal

abbrev pub invariant-loop-domain : goal.invariant-loop-domain
invariant-loop-domain g l = record {
  few : AreOfAtMost (l.domain-index * 2 ^ 32) l.sums;
  balance : Balance (domains_home l.self).zone l.sums;
}
