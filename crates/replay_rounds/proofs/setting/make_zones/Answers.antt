use Rattle.replay_rounds.proofs.Lists.{not_below}
use Rattle.replay_rounds.proofs.MoreZones.{all_lines}
use Rattle.replay_rounds.proofs.setting.make_zones.Goals as goal

pub returns : goal.returns
returns g c =
    all_lines c.args.head.now c.args.clock.now c.loop-place.place c.loop-place.zones.items (not_below c.loop-place.place _ _ c.loop-place-test.false c.len-count.ensures) c.loop-place.invariant
