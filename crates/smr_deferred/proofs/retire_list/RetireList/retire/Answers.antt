use Rattle.std.proofs.Common.{rules}
use Rattle.smr_clock.specs.Belongs.{view}
use Rattle.smr_deferred.proofs.Covered.{covers_open, loads_write, seen_same}
use Rattle.smr_deferred.proofs.Oldest.{put_behind}
use Rattle.smr_deferred.proofs.retire_list.RetireList.retire.Goals as goal

pub returns-clause-retired : goal.returns-clause-retired
returns-clause-retired g c =
    let paces = c.retire.ensures.paces in
    record {
      write = c.hands-write.result.1;
      begun = paces.begun;
      load = loads_write _ _ _ c.hands-write.result.0 c.hands-write.result.1 c.hands-write.ensures.write c.hands-write.ensures.seen paces.more;
      once = λ used. seen_same _ _ _ c.hands-write.ensures.seen (paces.once used);
      room = search rules;
      newest = put_behind c.args.self.now.queue.items c.reserve.new.self.items c.push_back_reserved.new.self.items _ c.reserve.ensures.items c.push_back_reserved.ensures.items;
      covers = covers_open _ (view c.args.pass.now).setup c.hands-write.result.1;
      paces = paces.paces;
    }
