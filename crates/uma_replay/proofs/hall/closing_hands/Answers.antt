use Rattle.uma_replay.proofs.HallOf.{done_learn}
use Rattle.uma_replay.proofs.Staying.{learn_stay}
use Rattle.uma_replay.proofs.hall.closing_hands.Goals as goal

pub returns : goal.returns
returns g c = record {
  done = done_learn c.args.trace.now c.args.zones.now c.args.clock.now c.args.workers.now c.read_hands.new.workers c.read_hands.ensures.learn c.requires.done;
  stay = learn_stay c.args.clock.now c.args.workers.now c.read_hands.new.workers c.read_hands.ensures.learn;
  hands = c.read_hands.ensures.reads;
}
