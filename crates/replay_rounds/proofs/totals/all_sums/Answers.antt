use Rattle.std.proofs.Common.{refl}
use Rattle.std.proofs.Math.Nat.{le_antisymm}
use Rattle.std.proofs.lemmas.Option.{slice_get_read}
use Rattle.replay_rounds.proofs.Collected.{sums_none, sums_more, sums_all}
use Rattle.replay_rounds.proofs.totals.all_sums.Goals as goal

pub loop-place-init : goal.loop-place-init
loop-place-init g c = sums_none c.args.zones.now c.args.workers.now c.new-all.result.items c.new-all.ensures.items

pub zone_sums-requires-clause-seats : goal.zone_sums-requires-clause-seats
zone_sums-requires-clause-seats g c =
    let zone = c.index-zones-place.result in
    let at = slice_get_read c.args.zones.now _ c.loop-place.place zone refl c.loop-place-test.true c.index-zones-place.is in
    λ n w. c.requires.seats c.loop-place.place n zone w at

pub loop-place-preserved : goal.loop-place-preserved
loop-place-preserved g c =
    let zone = c.index-zones-place.result in
    let at = slice_get_read c.args.zones.now _ c.loop-place.place zone refl c.loop-place-test.true c.index-zones-place.is in
    sums_more c.args.zones.now c.args.workers.now c.loop-place.place c.loop-place.all.items c.push.new.self.items zone c.in_ok-sums.sums c.loop-place.invariant at c.in_ok-sums.ensures c.in_ok-push.ensures.items

pub returns : goal.returns
returns g c = sums_all c.args.zones.now c.args.workers.now c.loop-place.place c.loop-place.all.items (le_antisymm c.loop-place.auto.place-end c.loop-place-test.false) c.loop-place.invariant
