-- A holder in Loaded is a worker, and the word of its seat is among the words.
use Rattle.std.proofs.Common.{◌≡◌, ◌<◌, rules, length}
use Rattle.smr_core.specs.declared.holder.Phase.TheVariants as phase
use Rattle.smr_core.specs.ClockState.{seat_place}
use Rattle.smr_core.specs.Works.{state_of}
use Rattle.smr_core.proofs.WorksLemmas.{loaded_place}
use Rattle.smr_core.proofs.steps.Works.enter_store.Goals as goal

pub index_mut-requires : goal.index_mut-requires
index_mut-requires c =
    let loaded : c.in_ok-actor.actor.holder.phase ≡ phase.Loaded = search rules in
    let place : seat_place c.args.seat < length c.args.self.now.words.items = loaded_place (state_of c.args.self.now) c.args.seat c.in_ok-actor.actor c.requires c.in_ok-actor.ensures.there loaded in
    search (rules, place)
