use Rattle.smr_core.proofs.RunLaws.{yes-is-expired, goal-is-expired, poll-keeps-its-tag}
use Rattle.smr_core.proofs.laws.yes_over_runs.Goals as goal

pub returns : goal.returns
returns c =
    record {
      expired = yes-is-expired;
      goals = goal-is-expired;
      tag = poll-keeps-its-tag;
    }
