use Rattle.std.proofs.Common.{◌++◌, sym, ap, ◌∙◌}
use Rattle.std.proofs.lemmas.Result.{on_ok_weaker}
use Rattle.trace_text.proofs.NamedZones.{second_in}
use Rattle.trace_text.proofs.trace_reading.head.Zones.push_second.Goals as goal

pub returns-clause-pushed : goal.returns-clause-pushed
returns-clause-pushed c =
    on_ok_weaker c.push.result
    (λ pushed. pushed ∙ ap (λ zones. c.args.self.now ++ zones) (sym (second_in c.self.inside.heads.entries c.args.self.now c.self.invariant c.self.view_is c.args.second c.in-Some.place c.in-Some-get_index._name.now c.in-Some-get_index.primary.now
    (sym c.primary_named.ensures ∙ c.in-Some.is) (cc c.in-Some-get_index.ensures.entry))))
    c.push.ensures.pushed
