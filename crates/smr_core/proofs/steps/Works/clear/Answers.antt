-- A holder in Inside or Late is a worker, and the word of its seat is among the words.
use Rattle.std.proofs.Common.{◌≡◌, ◌⊎◌, ◌<◌, rules, length}
use Rattle.smr_core.specs.declared.holder.Phase.TheVariants as phase
use Rattle.smr_core.specs.ClockState.{seat_place}
use Rattle.smr_core.specs.Works.{state_of}
use Rattle.smr_core.proofs.WorksLemmas.{entered_place}
use Rattle.smr_core.proofs.steps.Works.clear.Goals as goal

pub index_mut-requires : goal.index_mut-requires
index_mut-requires c =
    let entered : (c.in_ok-actor.actor.holder.phase ≡ phase.Inside) ⊎ (c.in_ok-actor.actor.holder.phase ≡ phase.Late) = search rules in
    let place : seat_place c.args.seat < length c.args.self.now.words.items = entered_place (state_of c.args.self.now) c.args.seat c.in_ok-actor.actor c.requires c.in_ok-actor.ensures.there entered in
    search (rules, place)
