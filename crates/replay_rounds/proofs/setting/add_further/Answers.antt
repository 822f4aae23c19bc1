use Rattle.std.proofs.Common.{rules}
use Rattle.replay_rounds.proofs.MoreZones.{parent_index, parent_right, further_more}
use Rattle.replay_rounds.proofs.setting.add_further.Goals as goal

pub make_further-requires : goal.make_further-requires
make_further-requires g c = record {
  index =
      parent_index c.args.head.now c.args.clock.now c.args.place c.args.parent c.args.line.now c.args.zones.now.items c.index_mut.result.now c.requires.next.fits c.requires.next.line c.requires.parent
      c.requires.next.so_far c.index_mut.ensures.value;
  right =
      parent_right c.args.head.now c.args.clock.now c.args.place c.args.parent c.args.line.now c.args.zones.now.items c.index_mut.result.now c.requires.next.fits c.requires.next.line c.requires.parent
      c.requires.next.so_far c.index_mut.ensures.value;
  bucket = search rules;
}

pub returns : goal.returns
returns g c =
    further_more c.args.head.now c.args.clock.now c.args.place c.args.parent c.args.line.now c.args.zones.now.items c.push.new.self.items c.index_mut.result.now c.make_further.new.primary c.in_ok-zone.zone
    c.requires.next.fits c.requires.next.line c.requires.parent c.requires.next.so_far c.index_mut.ensures.value c.in_ok-zone.ensures c.in_ok-push.ensures.items
