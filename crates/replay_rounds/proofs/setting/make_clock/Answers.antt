use Rattle.std.proofs.Common.{ap}
use Rattle.smr_clock.specs.declared.clock.Setup.{Setup}
use Rattle.replay_rounds.proofs.Passes.{passes_of}
use Rattle.replay_rounds.proofs.setting.make_clock.Goals as goal

pub returns-in-Ok-clause-passes : goal.returns-in-Ok-clause-passes
returns-in-Ok-clause-passes c =
    passes_of c.args.head.now.workers c.in-Ok.made.0 c.in-Ok.made.1.items (ap (λ (s : Setup). s.config.seats) c.in-Ok.ensures.clock) c.in-Ok.ensures.workers
