use Rattle.std.proofs.Common.{rules}
use Rattle.uma_zone.specs.Right.{right_no}
use Rattle.uma_zone.proofs.Rights.{next_goes}
use Rattle.uma_zone.proofs.zone.Zone.secondary.Goals as goal

pub returns-clause-made : goal.returns-clause-made
returns-clause-made g c = record {
  numbers = search rules;
  right = next_goes right_no c.deref.result.now c.args.self.now.rights.items c.pop.new.self.items c.in-Some.next.now c.in-Some-pop.next c.no-index.result c.in-Some-pop.ensures.items c.deref.ensures.value c.in-Some.ensures.value c.no-index.ensures.no;
}
