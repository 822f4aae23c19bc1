use Rattle.std.proofs.Common.{◌≤◌}
use Rattle.smr_deferred.specs.declared.retire_list.Retired.{Retired}
use Rattle.smr_deferred.proofs.Oldest.{all_behind}
use Rattle.smr_deferred.proofs.retire_list.RetireList.reap.Goals as goal

pub invariant_of-self-2-clause-some : goal.invariant_of-self-2-clause-some
invariant_of-self-2-clause-some g c = rw c.pop_front.ensures.rest (all_behind (λ (r : Retired _). 1 ≤ r.goal) _ c.args.self.now.some)
