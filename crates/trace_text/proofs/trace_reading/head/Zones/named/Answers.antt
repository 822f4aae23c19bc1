use Rattle.std.proofs.Common.{◌∙◌}
use Rattle.trace_text.proofs.NamedZones.{named_in}
use Rattle.trace_text.proofs.trace_reading.head.Zones.named.Goals as goal

pub returns-in_err-place : goal.returns-in_err-place
returns-in_err-place c = c.from_residual.ensures ∙ (c.in_err-place.ensures.index ∙ named_in c.self.inside.heads.entries c.args.self.now c.self.invariant c.self.view_is c.args.name.now)

pub returns : goal.returns
returns c = c.in_ok-place.ensures.index ∙ named_in c.self.inside.heads.entries c.args.self.now c.self.invariant c.self.view_is c.args.name.now
