use Rattle.smr_core.proofs.RunLaws.{hands-never-fall, window-is-kept, marks-are-kept, entry-is-the-third-step}
use Rattle.smr_core.proofs.laws.hands_and_marks_over_runs.Goals as goal

pub returns : goal.returns
returns c =
    record {
      hands = hands-never-fall;
      window = window-is-kept;
      marks = marks-are-kept;
      entry = entry-is-the-third-step;
    }
