-- A holder in Outside has a seat, which is below 64.
use Rattle.std.proofs.Common.{◌≡◌, rules}
use Rattle.smr_core.specs.declared.holder.Phase.TheVariants as phase
use Rattle.smr_core.specs.Works.{state_of}
use Rattle.smr_core.proofs.WorksLemmas.{leaver_below}
use Rattle.smr_core.proofs.steps.Works.leave.Goals as goal

pub without-requires : goal.without-requires
without-requires c =
    let there : c.in_ok-actor.actor.holder.phase ≡ phase.Outside = search rules in
    leaver_below (state_of c.args.self.now) c.args.seat c.in_ok-actor.actor c.requires c.in_ok-actor.ensures.there there
