use Rattle.std.proofs.Common.{◌∙◌, ◌+◌, ◌≤◌, [], length, refl, rules}
use Rattle.replay_worker.specs.declared.worker_run.WorkerRun.{WorkerRun}
use Rattle.replay_worker.specs.Asking.{heard_by}
use Rattle.replay_worker.specs.OwnLines.{own_ops}
use Rattle.replay_worker.proofs.Asked.{hears-all, hears-begun, hears-more, told_so}
use Rattle.replay_worker.proofs.Midway.{Midway-new, Midway-turn, Midway-waits, Midway-step, Midway-asks}
use Rattle.replay_worker.proofs.Numbers.{few_as, some_as}
use Rattle.replay_worker.proofs.worker_run.WorkerRun.turn.Goals as goal

pub loop-place-init : goal.loop-place-init
loop-place-init g c = record {
  midway = Midway-new g.N.NameCalls c.args.shared.now.cache.now c.args.shared.now.trace.now c.args.shared.now.zones.now c.args.shared.now.clock.now c.args.round c.args.number c.own_list-ops.result.now c.args.self.now c.requires.ready;
  of_gate = c.open-visit.ensures.of_gate;
  hears = hears-begun c.args.number (g.G.Gate.heard c.open-visit.result) c.args.self.now c.open-visit.ensures.nothing;
  free = λ _. refl;
}

pub await_gate-requires-clause-room : goal.await_gate-requires-clause-room
await_gate-requires-clause-room g c κs within =
    Midway-asks g.N.NameCalls c.args.shared.now.cache.now c.args.shared.now.trace.now c.args.shared.now.zones.now c.args.shared.now.clock.now c.args.round c.args.number c.loop-place.place c.own_list-ops.result.now c.args.self.now c.loop-place.self
    c.requires.ready c.own_list-ops.ensures c.loop-place-test.true c.loop-place.invariant.midway

pub perform-requires-clause-turn : goal.perform-requires-clause-turn
perform-requires-clause-turn g c κs within =
    Midway-turn g.N.NameCalls c.args.shared.now.cache.now c.args.shared.now.trace.now c.args.shared.now.zones.now c.args.shared.now.clock.now c.args.round c.args.number c.loop-place.place c.own_list-ops.result.now _ c.args.self.now c.loop-place.self c.await_gate.new.self
    c.requires.ready c.own_list-ops.ensures c.loop-place-test.true c.loop-place.invariant.midway c.await_gate.ensures.keeps.attendance

pub perform-requires-clause-able : goal.perform-requires-clause-able
perform-requires-clause-able g c κs within =
    Midway-waits g.N.NameCalls c.args.shared.now.cache.now c.args.shared.now.trace.now c.args.shared.now.zones.now c.args.shared.now.clock.now c.args.round c.args.number c.loop-place.place c.own_list-ops.result.now c.args.self.now c.loop-place.self c.await_gate.new.self
    c.requires.ready c.own_list-ops.ensures c.loop-place-test.true c.loop-place.invariant.midway c.await_gate.ensures.keeps

pub loop-place-preserved : goal.loop-place-preserved
loop-place-preserved g c =
    let waited : WorkerRun _ _ _ _ _ _ = c.await_gate.new.self in
    let next : WorkerRun _ _ _ _ _ _ = c.perform.new.self in
    record {
      midway = Midway-step g.N.NameCalls c.args.shared.now.cache.now c.args.shared.now.trace.now c.args.shared.now.zones.now c.args.shared.now.clock.now c.args.round c.args.number c.loop-place.place c.own_list-ops.result.now _ c.args.self.now c.loop-place.self waited next
          c.requires.ready c.own_list-ops.ensures c.loop-place-test.true c.loop-place.invariant.midway c.await_gate.ensures.keeps.attendance c.await_gate.ensures.keeps.name_work c.in_ok-perform.ensures.does c.in_ok-perform.ensures.stays.fits c.in_ok-perform.ensures.stays.seat
          (some_as c.perform.ensures.gate.asked c.await_gate.ensures.counts.asked_some) (few_as c.perform.ensures.gate.asked c.await_gate.ensures.counts.asked_few) (few_as c.perform.ensures.gate.gave_up c.await_gate.ensures.counts.gave_up);
      of_gate = c.done.ensures.of_gate;
      hears = hears-more c.args.number c.loop-place.place (heard_by [] c.args.self.now) (heard_by (g.G.Gate.heard c.loop-place.visit) c.loop-place.self) (heard_by (g.G.Gate.heard c.await_gate.new.visit) waited) (heard_by (g.G.Gate.heard c.done.new.visit) next)
          c.loop-place.invariant.hears c.await_gate.ensures.waits
          (told_so c.args.number (c.loop-place.place + 1) (g.G.Gate.heard c.await_gate.new.visit) (g.G.Gate.heard c.done.new.visit) waited next c.done.ensures.heard c.perform.ensures.gate.asked c.perform.ensures.gate.gave_up);
      free = λ is. c.perform.ensures.gate.gave_up ∙ (c.await_gate.ensures.free is ∙ c.loop-place.invariant.free is);
    }

pub returns-clause-asks : goal.returns-clause-asks
returns-clause-asks g c =
    let past : length c.own_list-ops.result.now ≤ c.loop-place.place = search rules in
    record {
      visit = c.loop-place.visit;
      of_gate = c.loop-place.invariant.of_gate;
      hears = hears-all c.args.number c.loop-place.place c.own_list-ops.result.now (own_ops c.args.shared.now.trace.now.rounds c.args.round c.args.number) (heard_by [] c.args.self.now) (heard_by (g.G.Gate.heard c.loop-place.visit) c.loop-place.self)
          past c.loop-place.invariant.midway.within c.own_list-ops.ensures c.loop-place.invariant.hears;
    }
