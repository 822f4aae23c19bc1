use Rattle.replay_worker.proofs.Moving.{gives_of, rest_of, moves_of}
use Rattle.replay_worker.proofs.giving.move_slot.Goals as goal

pub returns-clause-gives : goal.returns-clause-gives
returns-clause-gives g c =
    gives_of c.put_into.result c.args.giver c.args.slot c.args.taker c.args.slot2 c.args.workers.now c.take_from-held.new.workers c.put_into.new.workers c.take_from-held.result c.take_from-held.ensures c.put_into.ensures

pub returns-clause-rest : goal.returns-clause-rest
returns-clause-rest g c =
    rest_of c.put_into.result c.args.giver c.args.slot c.args.taker c.args.slot2 c.args.workers.now c.put_into.new.workers (returns-clause-gives g c)

pub returns-clause-moves : goal.returns-clause-moves
returns-clause-moves g c =
    moves_of c.put_into.result c.args.giver c.args.slot c.args.taker c.args.slot2 c.args.workers.now c.put_into.new.workers c.requires.giver c.requires.taker c.requires.within (returns-clause-gives g c)
