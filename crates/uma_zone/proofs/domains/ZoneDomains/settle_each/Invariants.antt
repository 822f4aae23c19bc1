use Rattle.uma_zone.specs.Frames.{KeepsPass}
use Rattle.smr_clock.specs.Belongs.{view}
use Rattle.uma_zone.specs.OwnDomain.{SettlesFirst}
use Rattle.uma_zone.proofs.domains.ZoneDomains.settle_each.Given as goal

abbrev pub invariant-loop-domain : goal.invariant-loop-domain
invariant-loop-domain g l = record {
  pass : KeepsPass l.clock l.fn.pass l.pass;
  settled : SettlesFirst l.self g.H.Host.copied (view l.fn.pass) l.domain (view l.pass);
}
