use Rattle.std.proofs.Common.{length, refl, sym, subst}
use Rattle.std.specs.Prelude.{OnOk}
use Rattle.trace_text.specs.declared.trace.Between.{Between}
use Rattle.replay_rounds.specs.Betweens.{DoesBetween}
use Rattle.replay_rounds.specs.Parts.{IsAmong}
use Rattle.replay_rounds.specs.Rounds.{IsMoved}
use Rattle.replay_rounds.proofs.BetweenLines.{give_moved, limit_moved}
use Rattle.replay_rounds.proofs.playing.do_between.Goals as goal

pub move_slot-requires-clause-giver : goal.move_slot-requires-clause-giver
move_slot-requires-clause-giver g c κs within = (subst (IsAmong (length c.args.workers.now) (length c.args.zones.now)) c.in-Give.is c.requires).0

pub move_slot-requires-clause-taker : goal.move_slot-requires-clause-taker
move_slot-requires-clause-taker g c κs within = (subst (IsAmong (length c.args.workers.now) (length c.args.zones.now)) c.in-Give.is c.requires).1

pub move_slot-requires-clause-within : goal.move_slot-requires-clause-within
move_slot-requires-clause-within g c κs within = (subst (IsAmong (length c.args.workers.now) (length c.args.zones.now)) c.in-Give.is c.requires).2

pub returns-in-Give-clause-rest : goal.returns-in-Give-clause-rest
returns-in-Give-clause-rest g c = c.move_slot.ensures.rest

pub returns-in-Give-clause-moved : goal.returns-in-Give-clause-moved
returns-in-Give-clause-moved g c =
    let P : Between → Type 0 = λ b. OnOk c.move_slot.result (IsMoved b c.args.workers.now c.move_slot.new.workers) in
    subst P (sym c.in-Give.is) (give_moved c.move_slot.result c.in-Give.giver c.in-Give.slot c.in-Give.taker c.in-Give.slot2 c.args.workers.now c.move_slot.new.workers c.move_slot.ensures.moves)

pub returns-in-Give-clause-does : goal.returns-in-Give-clause-does
returns-in-Give-clause-does g c =
    let P : Between → Type 0 = λ b. OnOk c.move_slot.result (DoesBetween c.args.zones.now b c.args.workers.now c.move_slot.new.workers) in
    subst P (sym c.in-Give.is) c.move_slot.ensures.gives

pub set_limit-requires-clause-place : goal.set_limit-requires-clause-place
set_limit-requires-clause-place g c = (subst (IsAmong (length c.args.workers.now) (length c.args.zones.now)) c.in-SetMax.is c.requires).0

pub set_limit-requires-clause-limit : goal.set_limit-requires-clause-limit
set_limit-requires-clause-limit g c = (subst (IsAmong (length c.args.workers.now) (length c.args.zones.now)) c.in-SetMax.is c.requires).1

pub returns-in-SetMax-clause-rest : goal.returns-in-SetMax-clause-rest
returns-in-SetMax-clause-rest g c = refl

pub returns-in-SetMax-clause-moved : goal.returns-in-SetMax-clause-moved
returns-in-SetMax-clause-moved g c =
    let P : Between → Type 0 = λ b. IsMoved b c.args.workers.now c.args.workers.now in
    subst P (sym c.in-SetMax.is) (limit_moved c.in-SetMax.zone c.in-SetMax.limit c.args.workers.now)

pub returns-in-SetMax-clause-does : goal.returns-in-SetMax-clause-does
returns-in-SetMax-clause-does g c =
    let P : Between → Type 0 = λ b. DoesBetween c.args.zones.now b c.args.workers.now c.args.workers.now in
    subst P (sym c.in-SetMax.is) (c.set_limit.ensures, refl)
