use Rattle.replay_worker.proofs.SeatCalls.{not_err, not_memory}
use Rattle.replay_worker.proofs.worker.request.Goals as goal

pub returns-in-Ok-clause-reaches : goal.returns-in-Ok-clause-reaches
returns-in-Ok-clause-reaches g c =
    let kept = c.in-Ok.ensures.kept in
    let told = c.in-Ok.ensures.flushes in
    record { host = kept.host; shelf = kept.shelf; flushed = told.flushed; settled = λ empty. told.settled empty (λ same. not_err _ _ same); unpushed = told.unpushed; unseen = told.unseen }

pub returns-in-Err-Refused-clause-reaches : goal.returns-in-Err-Refused-clause-reaches
returns-in-Err-Refused-clause-reaches g c =
    let kept = c.in-Err-Refused.ensures.kept in
    let told = c.in-Err-Refused.ensures.flushes in
    record { host = kept.host; shelf = kept.shelf; flushed = told.flushed; settled = λ empty. told.settled empty (λ same. not_memory c.in-Err-Refused.field-0 c.in-Err-Refused.field-0-0 c.in-Err-Refused.field-0-is same); unpushed = told.unpushed; unseen = told.unseen }
