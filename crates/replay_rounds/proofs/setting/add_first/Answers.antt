use Rattle.replay_rounds.proofs.MoreZones.{first_more}
use Rattle.replay_rounds.proofs.setting.add_first.Goals as goal

pub returns : goal.returns
returns g c =
    first_more c.args.head.now c.args.clock.now c.args.place c.args.line.now c.args.zones.now.items c.push.new.self.items c.in_ok-zone.zone c.requires.next.fits c.requires.next.line c.requires.primary
    c.requires.next.so_far c.in_ok-zone.ensures c.in_ok-push.ensures.items
