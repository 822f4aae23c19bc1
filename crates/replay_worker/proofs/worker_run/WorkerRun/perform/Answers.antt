use Rattle.std.proofs.Common.{◌≡◌, ◌≢◌, rules}
use Rattle.trace_text.specs.declared.trace.Op.TheVariants as ops
use Rattle.replay_worker.specs.declared.gate.Attendance.TheVariants.{There}
use Rattle.replay_worker.specs.Attendance.{worker_at, worker_in}
use Rattle.replay_worker.proofs.Attending.{keeps_fits}
use Rattle.replay_worker.proofs.DoneLines.{acts_there}
use Rattle.replay_worker.proofs.worker_run.WorkerRun.perform.Goals as goal

pub returns-in-Away-clause-stays : goal.returns-in-Away-clause-stays
returns-in-Away-clause-stays g c = record {
  fits = keeps_fits c.args.shared.now.zones.now c.args.shared.now.clock.now (worker_in c.args.self.now) (worker_at c.leave.new.self) c.requires.able.fits c.leave.ensures.stays.pass c.leave.ensures.stays.keeps;
  seat = c.requires.able.seat;
}

pub returns-in-Back-clause-stays : goal.returns-in-Back-clause-stays
returns-in-Back-clause-stays g c = record {
  fits = keeps_fits c.args.shared.now.zones.now c.args.shared.now.clock.now (worker_in c.args.self.now) (worker_at c.come.new.self) c.requires.able.fits c.come.ensures.stays.pass c.come.ensures.stays.keeps;
  seat = c.requires.able.seat;
}

pub returns-in_ok-act-in_default-clause-does : goal.returns-in_ok-act-in_default-clause-does
returns-in_ok-act-in_default-clause-does g c =
    let here : c.args.op ≢ ops.Away = search rules in
    let stays : c.args.op ≢ ops.Back = search rules in
    let is : c.args.self.now.attendance ≡ There c.in-There.worker = search rules in
    acts_there g.N.NameCalls c.args.shared.now.cache.now c.args.shared.now.zones.now c.args.self.now c.args.op c.in-There.worker c.act.new.worker c.act.new.self here stays is c.requires.turn.there c.in_ok-act-in_default.ensures.acts
