use Rattle.std.proofs.Common.{◌∙◌, subst}
use Rattle.example_server.specs.Serving.{AllWorked}
use Rattle.example_server.proofs.Rounds.{serve_more}
use Rattle.example_server.proofs.serving.serve.Goals as goal

pub loop-round-preserved : goal.loop-round-preserved
loop-round-preserved g c =
    let old = c.args.workers.now in
    let mid = c.loop-round.workers in
    let new = c.serve_round.new.workers in
    let before = c.loop-round.invariant in
    let done = c.serve_round.ensures in
    record {
      count = done.count ∙ before.count;
      served =
          serve_more c.args.rounds.now c.loop-round.round-index c.round-item.result old mid new c.loop-round-test.true before.count before.served
          (subst (λ round. AllWorked round mid new) c.round-item.is done.served);
    }
