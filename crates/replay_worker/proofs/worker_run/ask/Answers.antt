use Rattle.std.proofs.Common.{ap, ◌∙◌, [], ◌∷◌, ◌++◌, refl}
use Rattle.replay_worker.specs.declared.gate.Call.TheVariants.{Asked}
use Rattle.replay_worker.specs.declared.gate.Go.{Go}
use Rattle.replay_worker.proofs.Asked.{held-none, held-more, never-both}
use Rattle.replay_worker.proofs.worker_run.ask.Goals as goal

pub loop-asked-init : goal.loop-asked-init
loop-asked-init g c = record {
  free = λ _. refl;
  of_gate = c.requires;
  heard = held-none c.args.worker c.args.op (g.G.Gate.heard c.args.visit.now);
}

pub loop-asked-preserved : goal.loop-asked-preserved
loop-asked-preserved g c =
    let calls = g.G.Gate.heard c.loop-asked.visit in
    record {
      free = λ free. absurd (never-both c.at.result (c.at.ensures.free free) c.in-Hold.is);
      of_gate = c.at.ensures.of_gate;
      heard = held-more c.args.worker c.args.op c.loop-asked.asked (g.G.Gate.heard c.args.visit.now) calls (g.G.Gate.heard c.at.new.visit) c.loop-asked.invariant.heard
          (c.at.ensures.heard ∙ ap (λ (go : Go). calls ++ Asked c.args.worker c.args.op go ∷ []) c.in-Hold.is);
    }
