use Rattle.uma_bucket.specs.Inboxes.{port_origin}
use Rattle.uma_domain.specs.Domain.{domain_identity}
use Rattle.uma_domain.proofs.Came.{sealed_fits}
use Rattle.uma_domain.proofs.domain.Domain.put_sealed.Goals as goal

pub push-requires-clause-fits : goal.push-requires-clause-fits
push-requires-clause-fits g c = sealed_fits (port_origin c.args.port.now) (domain_identity c.args.self.now) c.args.bucket c.requires.port c.requires.bucket
