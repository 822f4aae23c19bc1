use Rattle.std.proofs.Common.{ap, ◌∙◌, ◌∷◌, [], List, subst}
use Rattle.trace_text.specs.declared.trace.ZoneHead.{ZoneHead}
use Rattle.zone_stats.specs.declared.ledger.SeatLedger.{SeatLedger}
use Rattle.uma_replay.specs.Limits.{KeepSomeOf}
use Rattle.uma_replay.specs.Reporting.{hook_line, keg_line, line_by}
use Rattle.uma_replay.proofs.hall.names_part.Goals as goal

pub returns : goal.returns
returns g c =
    let totals = c.args.totals.now in
    let is = c.entry_zone-zone.ensures in
    let P : List SeatLedger → Type 0 = λ list. KeepSomeOf (c.entry_zone-zone.result.limit ∷ []) list in
    record {
      of_seats = c.in_ok-ledgers.ensures;
      limits = subst (λ (z : ZoneHead). KeepSomeOf (z.limit ∷ []) c.in_ok-ledgers.ledgers) is (subst P c.as_slice.ensures c.in_ok-check_ledgers.ensures);
      of_zone = c.zone_line.ensures ∙ ap (λ (z : ZoneHead). line_by z z.limit 0 c.in_ok-ledgers.ledgers totals.census) is;
      of_hooks = c.hook_line.ensures ∙ ap (λ (z : ZoneHead). hook_line z.name 0 totals.tally totals.deferred) is;
      of_keg = c.keg_line.ensures ∙ ap (λ (z : ZoneHead). keg_line z.name totals.census totals.tally) is;
      of_counts = c.names_line.ensures;
    }
