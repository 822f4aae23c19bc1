use Rattle.std.proofs.Common.{List, Option, ap}
use Rattle.std.proofs.lemmas.Result.{IfOk-weaker}
use Rattle.replay_worker.specs.declared.worker.Held.{Held}
use Rattle.replay_worker.specs.declared.worker.Worker.{Worker}
use Rattle.replay_rounds.specs.Slots.{LendSlots, LendsItems, in_keg}
use Rattle.replay_rounds.proofs.census.lend_by.Goals as goal

pub returns : goal.returns
returns g c =
    let of = in_keg c.args.head.now.zones c.args.place in
    let w : Worker _ _ _ = c.args.worker.now in
    let left : Worker _ _ _ = record w { slots = c.lend.new.slots } in
    IfOk-weaker c.lend.result (λ given. LendSlots of w.slots c.args.lives.now.items c.lend.new.slots c.lend.new.lives.items given) (λ given. LendsItems of w c.args.lives.now.items left c.lend.new.lives.items given)
    (λ given lent. record { marks = lent.marks; lives = lent.lives; left = ap (λ (s : List (Option Held)). record w { slots = s }) lent.left }) c.lend.ensures
