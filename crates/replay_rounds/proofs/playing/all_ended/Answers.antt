use Rattle.std.proofs.Common.{rules, subst}
use Rattle.std.proofs.lemmas.List.{take_all}
use Rattle.std.proofs.lemmas.List.Elements.{All-more}
use Rattle.std.proofs.Common.{All}
use Rattle.replay_rounds.specs.Rounds.{HasEnded}
use Rattle.replay_rounds.proofs.playing.all_ended.Goals as goal

pub loop-run-preserved : goal.loop-run-preserved
loop-run-preserved g c =
    let run = c.run-item.result in
    let ended : HasEnded run = search rules in
    All-more HasEnded c.args.workers.now c.loop-run.run-index run c.loop-run-test.true c.loop-run.invariant (subst HasEnded c.run-item.is ended)

pub returns : goal.returns
returns g c = subst (All HasEnded) (take_all c.loop-run.run-index c.args.workers.now c.loop-run-test.false) c.loop-run.invariant
