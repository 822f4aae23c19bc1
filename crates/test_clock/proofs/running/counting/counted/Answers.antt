use Rattle.std.proofs.Common.{rules, ◌++◌, Option, ap, ◌∙◌}
use Rattle.std.specs.Prelude.{option_to_list}
use Rattle.smr_clock.specs.declared.view.View.{View}
use Rattle.smr_clock.proofs.CountingLemmas.{counting_opens}
use Rattle.smr_clock.proofs.MakingLemmas.{last_there}
use Rattle.test_clock.proofs.running.counting.counted.Goals as goal

pub hosted-requires : goal.hosted-requires
hosted-requires c = record { opens = counting_opens _ _ _ (search rules) }

pub returns-clause-here : goal.returns-clause-here
returns-clause-here c =
    let last = c.pop.ensures.items ∙ ap (λ (o : Option _). c.pop.new.self.items ++ option_to_list o) c.in-Some.is in
    (c.in_ok-clock.ensures.workers.here _ _ (last_there _ _ _ last), c.in_ok-clock.ensures.seat_here)

pub returns-clause-outside : goal.returns-clause-outside
returns-clause-outside c =
    let last = c.pop.ensures.items ∙ ap (λ (o : Option _). c.pop.new.self.items ++ option_to_list o) c.in-Some.is in
    ap (λ (v : View _). v.holder.phase) (c.in_ok-clock.ensures.workers.fresh _ _ (last_there _ _ _ last))
