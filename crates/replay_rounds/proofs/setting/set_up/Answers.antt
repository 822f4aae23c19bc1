use Rattle.std.proofs.Common.{rules, ◌≡◌}
use Rattle.std.proofs.lemmas.Result.{IfOk-weaker}
use Rattle.smr_clock.specs.Belongs.{setup_of}
use Rattle.replay_rounds.specs.declared.setting.Setting.{Setting}
use Rattle.replay_rounds.proofs.SetUp.{clock_of, plan_of}
use Rattle.replay_rounds.proofs.setting.set_up.Goals as goal

pub set_up_with-requires : goal.set_up_with-requires
set_up_with-requires g c = record {
  valid = search rules;
  clock = clock_of (0, 0) c.args.trace.now.head c.in_ok-clock.clock c.in_ok-clock.ensures.clock;
  passes = search rules;
}

pub returns-clause-plan : goal.returns-clause-plan
returns-clause-plan g c =
    let made = c.in_ok-clock.clock in
    IfOk-weaker c.set_up_with.result (λ (s : Setting _ _ _). s.clock ≡ made) (λ (s : Setting _ _ _). (setup_of s.clock).plan ≡ (0, 0))
    (λ s same. plan_of (0, 0) c.args.trace.now.head made s.clock same c.in_ok-clock.ensures.clock) c.set_up_with.ensures.clock
