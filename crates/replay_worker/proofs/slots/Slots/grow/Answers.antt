use Rattle.std.proofs.Common.{sym, ap, ◌∙◌, ◌≤◌, ◌<◌, ◌+◌, length, map, arith}
use Rattle.std.proofs.lemmas.List.{length-map, length_push}
use Rattle.replay_worker.specs.Boxed.{unboxed}
use Rattle.replay_worker.proofs.Boxes.{grown, padded-all}
use Rattle.replay_worker.proofs.slots.Slots.grow.Goals as goal

pub loop-preserved : goal.loop-preserved
loop-preserved c =
    let items = c.loop.self-inside.held.items in
    let more = c.in_ok-push.ensures.items in
    let below : length items < c.args.count = omega (arith, c.loop.invariant.long, c.loop-test.true) in
    record {
      long = ap length more ∙ (length_push items _ ∙ ap (λ n. n + 1) c.loop.invariant.long);
      same = grown items c.push.new.self.items c.args.self.now c.args.count more below c.loop.invariant.same;
    }

pub returns : goal.returns
returns c =
    let items = c.loop.self-inside.held.items in
    let past : c.args.count ≤ length (map unboxed items) = omega (arith, length-map items unboxed, c.loop.invariant.long, c.loop-test.false) in
    sym (padded-all (map unboxed items) c.args.count past) ∙ c.loop.invariant.same
