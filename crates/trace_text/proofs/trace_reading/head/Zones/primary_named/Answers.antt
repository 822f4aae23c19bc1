use Rattle.std.proofs.Common.{sym, ◌∙◌}
use Rattle.trace_text.proofs.NamedZones.{absent_in, primary_in, secondary_in}
use Rattle.trace_text.proofs.trace_reading.head.Zones.primary_named.Goals as goal

pub returns-in_err-place : goal.returns-in_err-place
returns-in_err-place c = c.from_residual.ensures ∙ sym (absent_in c.self.inside.heads.entries c.args.self.now c.self.invariant c.self.view_is c.args.name.now (sym c.in_err-place.ensures.index))

pub returns-in-None : goal.returns-in-None
returns-in-None c =
    sym (primary_in c.self.inside.heads.entries c.args.self.now c.self.invariant c.self.view_is c.args.name.now c.in_ok-place.place c.in_ok-place._name.now c.in_ok-place.zone.now
    (cc c.in_ok-place.ensures.index) (cc c.in_ok-place.ensures.entry) c.in-None.is)

pub returns-in-Some : goal.returns-in-Some
returns-in-Some c =
    sym (secondary_in c.self.inside.heads.entries c.args.self.now c.self.invariant c.self.view_is c.args.name.now c.in_ok-place.place c.in_ok-place._name.now c.in_ok-place.zone.now c.in-Some.field-0
    (cc c.in_ok-place.ensures.index) (cc c.in_ok-place.ensures.entry) c.in-Some.is)
