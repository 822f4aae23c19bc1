-- A holder in Vacant has a seat, which is below 64.
use Rattle.std.proofs.Common.{◌≡◌, rules}
use Rattle.smr_core.specs.declared.holder.Phase.TheVariants as phase
use Rattle.smr_core.specs.Works.{state_of}
use Rattle.smr_core.proofs.WorksLemmas.{comer_below}
use Rattle.smr_core.proofs.steps.Works.come.Goals as goal

pub with_seat-requires : goal.with_seat-requires
with_seat-requires c =
    let there : c.in_ok-actor.actor.holder.phase ≡ phase.Vacant = search rules in
    comer_below (state_of c.args.self.now) c.args.seat c.in_ok-actor.actor c.requires c.in_ok-actor.ensures.there there
