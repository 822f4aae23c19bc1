use Rattle.std.proofs.Common.{◌≡◌, true, false, refl, rules}
use Rattle.smr_clock.specs.Belongs.{view}
use Rattle.smr_deferred.specs.Numbers.{one_retired}
use Rattle.smr_deferred.proofs.Pacing.{rests_twice, paces_due, paces_not_due}
use Rattle.smr_deferred.proofs.pace.Pace.retire.Goals as goal

pub advance-requires-clause-used : goal.advance-requires-clause-used
advance-requires-clause-used g c = record { here = c.settle.ensures.here; mine = c.count_value.ensures.mine _ c.settle.ensures.mine }

pub returns-else-is_due-clause-goes_on : goal.returns-else-is_due-clause-goes_on
returns-else-is_due-clause-goes_on g c =
    record {
      here = c.settle.ensures.here;
      mine = c.count_value.ensures.mine _ c.settle.ensures.mine;
      stays = search rules;
      few = search rules;
    }

pub returns-then-is_due-clause-paces : goal.returns-then-is_due-clause-paces
returns-then-is_due-clause-paces g c =
    record {
      begun = view c.settle.new.pass;
      more = c.settle.ensures.more;
      once = c.settle.ensures.once;
      paces =
          paces_due g.H.Host.copied (view c.settle.new.pass) c.args.goal c.args.self.now c.count_value.new.self _ (view c.advance.new.pass)
          (rests_twice one_retired c.args.self.now c.settle.new.self c.count_value.new.self c.settle.ensures.rests c.count_value.ensures.rests)
          (c.if-is_due.ensures.0 refl)
          c.advance.ensures.advances;
    }

pub returns-else-is_due-clause-paces : goal.returns-else-is_due-clause-paces
returns-else-is_due-clause-paces g c =
    record {
      begun = view c.settle.new.pass;
      more = c.settle.ensures.more;
      once = c.settle.ensures.once;
      paces =
          paces_not_due _ _ _ c.args.self.now c.count_value.new.self
          (rests_twice one_retired c.args.self.now c.settle.new.self c.count_value.new.self c.settle.ensures.rests c.count_value.ensures.rests)
          (λ due. let wrong : false ≡ true = c.if-is_due.ensures.1 due in cc);
    }
