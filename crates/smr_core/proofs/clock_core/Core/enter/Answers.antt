-- Each step but the first is sure, and together they are the turn.
use Rattle.std.proofs.Common.{rules, ◌≡◌, true, false, ap, ◌∙◌, ◌++◌, ◌∷◌, [], List}
use Rattle.smr_core.specs.declared.turns.Seen.{Seen}
use Rattle.smr_core.specs.Turns.{is_late}
use Rattle.smr_core.proofs.TurnLemmas.{store-sure, check-sure, clear-sure, enter-inside, enter-late}
use Rattle.smr_core.proofs.clock_core.Core.enter.Goals as goal

pub take-stored-requires : goal.take-stored-requires
take-stored-requires c = store-sure c.args.self.now c.args.seat c.in_ok-loaded.loaded c.apply.new.self c.in_ok-loaded.ensures.step.stepped

pub take-checked-requires : goal.take-checked-requires
take-checked-requires c = check-sure c.apply.new.self c.args.seat c.take-stored.result c.take-stored.new.self c.take-stored.ensures.stepped

pub take-cleared-requires : goal.take-cleared-requires
take-cleared-requires c = clear-sure c.take-stored.new.self c.args.seat c.take-checked.result c.take-checked.new.self c.take-checked.ensures.stepped

after : List Seen → Seen → List Seen
after sees saw = sees ++ saw ∷ []

pub returns-then-not-is_late : goal.returns-then-not-is_late
unfolding after
returns-then-not-is_late c =
    let in_time : is_late c.take-checked.result ≡ false = search rules in
    let one = c.push_reserved.ensures.items ∙ ap (λ (l : List Seen). after l c.in_ok-loaded.loaded) c.in_ok-sees.ensures.room.empty in
    let two = c.push_reserved-2.ensures.items ∙ ap (λ (l : List Seen). after l c.take-stored.result) one in
    let three = c.push_reserved-3.ensures.items ∙ ap (λ (l : List Seen). after l c.take-checked.result) two in
    record {
      taken =
          enter-inside c.args.self.now c.apply.new.self c.take-stored.new.self c.take-checked.new.self c.args.seat c.in_ok-loaded.loaded c.take-stored.result c.take-checked.result
          c.from_vec.result (c.from_vec.ensures ∙ three) c.in_ok-loaded.ensures.step.stepped c.take-stored.ensures.stepped c.take-checked.ensures.stepped in_time;
      refused = search rules;
      unchanged = search rules;
      law = search rules;
    }

pub returns : goal.returns
unfolding after
returns c =
    let late : is_late c.take-checked.result ≡ true = search rules in
    let one = c.push_reserved.ensures.items ∙ ap (λ (l : List Seen). after l c.in_ok-loaded.loaded) c.in_ok-sees.ensures.room.empty in
    let two = c.push_reserved-2.ensures.items ∙ ap (λ (l : List Seen). after l c.take-stored.result) one in
    let three = c.push_reserved-3.ensures.items ∙ ap (λ (l : List Seen). after l c.take-checked.result) two in
    let four = c.push_reserved-4.ensures.items ∙ ap (λ (l : List Seen). after l c.take-cleared.result) three in
    record {
      taken =
          enter-late c.args.self.now c.apply.new.self c.take-stored.new.self c.take-checked.new.self c.take-cleared.new.self c.args.seat
          c.in_ok-loaded.loaded c.take-stored.result c.take-checked.result c.take-cleared.result c.from_vec-2.result (c.from_vec-2.ensures ∙ four)
          c.in_ok-loaded.ensures.step.stepped c.take-stored.ensures.stepped c.take-checked.ensures.stepped late c.take-cleared.ensures.stepped;
      refused = search rules;
      unchanged = search rules;
      law = search rules;
    }
