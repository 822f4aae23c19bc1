use Rattle.std.proofs.Common.{rules}
use Rattle.replay_rounds.proofs.Gathering.{all_learned, here_after, reads_hands}
use Rattle.replay_rounds.proofs.totals.read_hands.Goals as goal

pub hands_by_first-requires : goal.hands_by_first-requires
hands_by_first-requires g c = record {
  at = search rules;
  here = here_after c.args.clock.now c.args.workers.now c.gather.new.workers c.gather.ensures.learn;
  window = search rules;
}

pub returns-clause-reads : goal.returns-clause-reads
returns-clause-reads g c = reads_hands c.args.clock.now c.args.workers.now c.gather.new.workers c.hands_by_first.new.workers c.hands_by_first.result.0 c.hands_by_first.result.1 c.requires.some c.gather.ensures c.hands_by_first.ensures

pub returns-clause-learn : goal.returns-clause-learn
returns-clause-learn g c = all_learned c.args.clock.now c.args.workers.now c.gather.new.workers c.hands_by_first.new.workers c.hands_by_first.result.0 c.hands_by_first.result.1 c.requires.some c.gather.ensures c.hands_by_first.ensures
