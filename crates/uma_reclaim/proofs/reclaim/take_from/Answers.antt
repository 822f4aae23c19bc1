use Rattle.uma_domain.specs.Domain.{domain_identity}
use Rattle.uma_reclaim.proofs.Taken.{takes_at}
use Rattle.uma_reclaim.proofs.Turns.{unused_at, all_at, keeps_at}
use Rattle.uma_reclaim.proofs.reclaim.take_from.Goals as goal

pub returns-in-Unused-clause-takes : goal.returns-in-Unused-clause-takes
returns-in-Unused-clause-takes g c =
    let of = c.domain.ensures.of_zone in
    takes_at c.args.zone.now (domain_identity c.domain.result.now) of.same_clock of.same_home c.args.extent c.args.domain c.take_trim.result c.take_trim.ensures.of_domain
    (unused_at c.args.zone.now c.args.extent c.args.domain c.domain.result.now c.take_trim.result c.in-Unused.is c.domain.ensures.named c.take_trim.ensures.taken)

pub returns-in-All-clause-takes : goal.returns-in-All-clause-takes
returns-in-All-clause-takes g c =
    let of = c.domain-in-All.ensures.of_zone in
    takes_at c.args.zone.now (domain_identity c.domain-in-All.result.now) of.same_clock of.same_home c.args.extent c.args.domain c.take_all.result c.take_all.ensures.of_domain
    (all_at c.args.zone.now c.args.extent c.args.domain c.domain-in-All.result.now c.take_all.result c.in-All.is c.domain-in-All.ensures.named c.take_all.ensures.taken)

pub returns-in-Unused-clause-keeps : goal.returns-in-Unused-clause-keeps
returns-in-Unused-clause-keeps g c = keeps_at c.args.zone.now c.args.extent c.args.domain c.domain.result.now c.take_trim.result c.domain.ensures.named c.take_trim.ensures.unchanged

pub returns-in-All-clause-keeps : goal.returns-in-All-clause-keeps
returns-in-All-clause-keeps g c = keeps_at c.args.zone.now c.args.extent c.args.domain c.domain-in-All.result.now c.take_all.result c.domain-in-All.ensures.named c.take_all.ensures.unchanged
