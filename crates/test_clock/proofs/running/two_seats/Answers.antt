use Rattle.std.proofs.Common.{◌++◌, Option, ap, ◌∙◌}
use Rattle.std.specs.Prelude.{option_to_list}
use Rattle.smr_clock.specs.declared.view.View.{View}
use Rattle.smr_clock.proofs.MakingLemmas.{last_there, before_last_there}
use Rattle.test_clock.proofs.running.two_seats.Goals as goal

pub returns-clause-here : goal.returns-clause-here
returns-clause-here c =
    let last = c.pop-second.ensures.items ∙ ap (λ (o : Option _). c.pop-second.new.self.items ++ option_to_list o) c.in-Some-Some.is-1 in
    let before = c.pop-first.ensures.items ∙ ap (λ (o : Option _). c.pop-first.new.self.items ++ option_to_list o) c.in-Some-Some.is-0 in
    let workers = c.in_ok-clock.ensures.workers in
    (workers.here _ _ (before_last_there _ _ _ _ _ last before), workers.here _ _ (last_there _ _ _ last))

pub returns-clause-outside : goal.returns-clause-outside
returns-clause-outside c =
    let last = c.pop-second.ensures.items ∙ ap (λ (o : Option _). c.pop-second.new.self.items ++ option_to_list o) c.in-Some-Some.is-1 in
    let before = c.pop-first.ensures.items ∙ ap (λ (o : Option _). c.pop-first.new.self.items ++ option_to_list o) c.in-Some-Some.is-0 in
    let workers = c.in_ok-clock.ensures.workers in (
      ap (λ (v : View _). v.holder.phase) (workers.fresh _ _ (before_last_there _ _ _ _ _ last before)),
      ap (λ (v : View _). v.holder.phase) (workers.fresh _ _ (last_there _ _ _ last)),
    )
