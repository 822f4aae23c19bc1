use Rattle.smr_clock.specs.Belongs.{view}
use Rattle.smr_deferred.specs.Numbers.{one_pushed}
use Rattle.smr_deferred.proofs.Pacing.{rests_twice, advances_since}
use Rattle.smr_deferred.proofs.pace.Pace.push.Goals as goal

pub advance-requires-clause-used : goal.advance-requires-clause-used
advance-requires-clause-used g c = record { here = c.settle.ensures.here; mine = c.count_push.ensures.mine _ c.settle.ensures.mine }

pub returns-clause-advances : goal.returns-clause-advances
returns-clause-advances g c =
    record {
      begun = view c.settle.new.pass;
      more = c.settle.ensures.more;
      once = c.settle.ensures.once;
      advances =
          advances_since _ _ _ c.args.self.now c.count_push.new.self _ _ _
          (rests_twice one_pushed c.args.self.now c.settle.new.self c.count_push.new.self c.settle.ensures.rests c.count_push.ensures.rests)
          c.advance.ensures.advances;
    }
