use Rattle.trace_text.proofs.NamedZones.{joins_by_name, joins_values}
use Rattle.trace_text.proofs.trace_reading.head.Zones.push.Goals as goal

pub invariant_of-self-2 : goal.invariant_of-self-2
invariant_of-self-2 c =
    joins_by_name c.self.inside.heads.entries c.args.self.now c.self.invariant c.self.view_is c.insert.new.self.entries c.args.zone c.copied.result c.requires.new c.copied.ensures.value
    c.in_ok-insert.ensures.entries c.requires.few c.insert.ensures.unique

pub returns-clause-pushed : goal.returns-clause-pushed
returns-clause-pushed c =
    joins_values c.self.inside.heads.entries c.args.self.now c.self.invariant c.self.view_is c.insert.new.self.entries c.args.zone c.copied.result c.requires.new c.copied.ensures.value
    c.in_ok-insert.ensures.entries
