use Rattle.std.proofs.Common.{refl}
use Rattle.smr_deferred.proofs.Covered.{loads_write, seen_same}
use Rattle.smr_deferred.proofs.retire_list.RetireList.push.Goals as goal

pub returns-clause-pushed : goal.returns-clause-pushed
returns-clause-pushed g c =
    let advances = c.push.ensures.advances in
    record {
      write = c.hands-write.result.1;
      begun = advances.begun;
      load = loads_write _ _ _ c.hands-write.result.0 c.hands-write.result.1 c.hands-write.ensures.write c.hands-write.ensures.seen advances.more;
      once = λ used. seen_same _ _ _ c.hands-write.ensures.seen (advances.once used);
      stay = refl;
      advance = advances.advances;
    }
