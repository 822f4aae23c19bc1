use Rattle.smr_clock.specs.Belongs.{view}
use Rattle.replay_worker.proofs.worker.give_back.Goals as goal

pub returns-clause-gives_back : goal.returns-clause-gives_back
returns-clause-gives_back g c = record {
  gives = record { ready = c.make_ready.new.seat; made = c.in_ok-make_ready.ensures.ready; released = c.release.ensures.released };
  freed = record { between = view c.make_ready.new.pass; readies = c.in_ok-make_ready.ensures.readies; releases = c.release.ensures.by };
}
