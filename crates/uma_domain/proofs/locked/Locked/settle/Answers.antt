use Rattle.std.proofs.Common.{◌+◌, refl, rules, ◌∙◌}
use Rattle.uma_domain.proofs.Came.{none_listed, all_kept, none_settled, more_settled, any_err}
use Rattle.uma_domain.proofs.locked.Locked.settle.Goals as goal

pub loop-count-init : goal.loop-count-init
loop-count-init g c =
    let lists = c.args.self.now.lists in
    record { settled = none_settled c.args.self.now c.args.self.now refl (none_listed lists lists (all_kept lists)); identity = refl }

pub returns-in_err-settle_one : goal.returns-in_err-settle_one
returns-in_err-settle_one g c = record {
  settled = search rules;
  most = search rules;
  all = search rules;
  stays = any_err c.from_residual.result (record {
    count = c.loop-count.count + 0;
    settles = more_settled c.args.self.now c.loop-count.self c.settle_one.new.self c.loop-count.count 0 c.loop-count.invariant.settled c.in_err-settle_one.ensures.stays;
  });
  identity = c.in_err-settle_one.ensures.identity ∙ c.loop-count.invariant.identity;
}

pub loop-count-preserved : goal.loop-count-preserved
loop-count-preserved g c = record {
  settled = more_settled c.args.self.now c.loop-count.self c.settle_one.new.self c.loop-count.count 1 c.loop-count.invariant.settled (c.in_ok-settle_one.ensures.one (search rules));
  identity = c.in_ok-settle_one.ensures.identity ∙ c.loop-count.invariant.identity;
}
