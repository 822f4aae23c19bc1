use Rattle.std.proofs.Common.{Option, length, ap, ◌∙◌}
use Rattle.std.specs.Option.{option_map_or}
use Rattle.replay_worker.specs.declared.worker.Worker.{Worker}
use Rattle.uma_replay.proofs.report.seat_count.Goals as goal

pub returns-in-Some : goal.returns-in-Some
returns-in-Some g c =
    c.len.ensures ∙ (c.in-Some.worker.now.seats.ok.0 ∙ ap (λ (found : Option (Worker _ _ _)). option_map_or (λ (w : Worker _ _ _). length w.seats.items) found 0) c.in-Some.ensures.value)

pub returns-in-None : goal.returns-in-None
returns-in-None g c = ap (λ (found : Option (Worker _ _ _)). option_map_or (λ (w : Worker _ _ _). length w.seats.items) found 0) c.in-None.ensures.value
