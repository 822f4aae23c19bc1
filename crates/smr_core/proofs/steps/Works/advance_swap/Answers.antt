-- The law gives the advance room for its goal, and bounds how often a holder has advanced.
use Rattle.std.proofs.Common.{◌≡◌, ◌+◌, ◌^◌, ◌<◌, arith, rules}
use Rattle.smr_core.specs.declared.holder.Task.TheVariants as task
use Rattle.smr_core.specs.Works.{state_of}
use Rattle.smr_core.proofs.WorksLemmas.{goal_fits, advances_fit}
use Rattle.smr_core.proofs.steps.Works.advance_swap.Goals as goal

pub overflow_add-goal : goal.overflow_add-goal
overflow_add-goal c =
    let loaded : c.in_ok-actor.actor.holder.task ≡ task.AdvLoaded = search rules in
    let room : c.in_ok-actor.actor.holder.write + 2 < 2 ^ 63 = goal_fits (state_of c.args.self.now) c.args.seat c.in_ok-actor.actor c.requires c.in_ok-actor.ensures.there loaded in
    omega arith

pub advance_swapped-requires : goal.advance_swapped-requires
advance_swapped-requires c =
    let loaded : c.in_ok-actor.actor.holder.task ≡ task.AdvLoaded = search rules in
    let room : c.in_ok-actor.actor.holder.write + 2 < 2 ^ 63 = goal_fits (state_of c.args.self.now) c.args.seat c.in_ok-actor.actor c.requires c.in_ok-actor.ensures.there loaded in
    record {
      write = omega arith;
      advances = advances_fit (state_of c.args.self.now) c.args.seat c.in_ok-actor.actor c.requires c.in_ok-actor.ensures.there;
    }
