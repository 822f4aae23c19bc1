use Rattle.std.proofs.Common.{◌≡◌}
use Rattle.uma_domain.specs.Lists.{lists_identity}
use Rattle.uma_domain.specs.Settled.{Settles}
use Rattle.uma_domain.proofs.locked.Locked.settle.Given as goal

abbrev pub invariant-loop-count : goal.invariant-loop-count
invariant-loop-count g l = record {
  settled : Settles l.fn.self l.count l.self;
  identity : lists_identity l.self.lists ≡ lists_identity l.fn.self.lists;
}
