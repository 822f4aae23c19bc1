use Rattle.std.proofs.Common.{◌<◌, ◌≤◌, ◌∙◌, length, refl, rules}
use Rattle.replay_rounds.proofs.BetweenLines.{moved_none, moved_more}
use Rattle.replay_rounds.proofs.Done.{done_all, done_more, done_none}
use Rattle.replay_rounds.proofs.playing.do_betweens.Goals as goal

pub loop-between-init : goal.loop-between-init
loop-between-init g c = record {
  rest = refl;
  moved = moved_none c.args.betweens.now c.args.workers.now;
  does = done_none c.args.zones.now c.args.betweens.now c.args.workers.now;
}

pub loop-between-preserved : goal.loop-between-preserved
loop-between-preserved g c =
    let below : c.loop-between.between-index < length c.args.betweens.now = search rules in
    let before = c.loop-between.invariant in
    let now = c.in_ok-do_between.ensures in
    record {
      rest = now.rest ∙ before.rest;
      moved = moved_more c.args.betweens.now c.loop-between.between-index _ c.args.workers.now c.loop-between.workers c.do_between.new.workers below before.moved now.moved;
      does = done_more c.args.zones.now c.args.betweens.now c.loop-between.between-index _ c.args.workers.now c.loop-between.workers c.do_between.new.workers below before.does now.does;
    }

pub returns-clause-does : goal.returns-clause-does
returns-clause-does g c =
    let past : length c.args.betweens.now ≤ c.loop-between.between-index = search rules in
    done_all c.args.zones.now c.args.betweens.now c.loop-between.between-index c.args.workers.now c.loop-between.workers past c.loop-between.invariant.does
