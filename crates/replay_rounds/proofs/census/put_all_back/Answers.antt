use Rattle.std.proofs.Common.{List, length, get_or, reverse, set, ap, sym, subst, ◌∙◌, ◌≤◌, ℕ, Option}
use Rattle.replay_worker.specs.declared.worker.Worker.{Worker}
use Rattle.replay_rounds.specs.Slots.{over, refilled_worker}
use Rattle.replay_rounds.proofs.Loops.{remains-next, threaded-entry, threaded-next}
use Rattle.replay_rounds.proofs.Seen.{few_at, marks_at, worker_within}
use Rattle.replay_rounds.proofs.census.put_all_back.Goals as goal

pub put_back_by-requires : goal.put_back_by-requires
put_back_by-requires g c =
    let i = c.loop-number.number in
    let marks : List (List (Option ℕ)) = c.args.marks.now in
    let w : Worker _ _ _ = c.index-workers-number.result in
    let read = c.as_slice.ensures ∙ c.index-marks-number.is in
    let P : ℕ → Type 0 = λ n. n ≤ 65536 in
    record {
      same = ap length read ∙ marks_at marks c.args.workers.now i _ w c.requires c.loop-number-test.true
          ∙ ap (λ (w : Worker _ _ _). length w.slots) (sym (threaded-entry refilled_worker over marks (reverse c.args.lives.now.items) c.args.workers.now c.loop-number.workers i w c.loop-number-test.true c.loop-number.invariant.workers));
      few = subst P (sym (ap length read)) (few_at marks c.args.workers.now i _ c.requires c.loop-number-test.true);
    }

pub loop-number-preserved : goal.loop-number-preserved
loop-number-preserved g c =
    let i = c.loop-number.number in
    let marks : List (List (Option ℕ)) = c.args.marks.now in
    let old : List (Worker _ _ _) = c.args.workers.now in
    let now : List (Worker _ _ _) = c.loop-number.workers in
    let w : Worker _ _ _ = c.index-workers-number.result in
    let kept = c.loop-number.invariant in
    let back = c.in_ok-put_back_by.ensures in
    let read = c.as_slice.ensures ∙ c.index-marks-number.is in
    let start = reverse c.args.lives.now.items in
    let left = reverse c.loop-number.lives.items in
    let within = worker_within marks old i c.requires c.loop-number-test.true in
    record {
      workers = ap (set now i) (back.worker ∙ ap (λ m. refilled_worker m left (get_or now i w)) read) ∙ threaded-next refilled_worker over marks start left old now i _ w c.loop-number-test.true within kept.lives kept.workers;
      lives = back.lives ∙ ap (λ m. over m left) read ∙ remains-next over marks start left i _ c.loop-number-test.true kept.lives;
    }
