use Rattle.std.proofs.Common.{◌≡◌}
use Rattle.std.proofs.lemmas.Result.{IfOk-weaker}
use Rattle.zone_stats.specs.declared.report.Report.{Report}
use Rattle.uma_replay.specs.Names.{HasNames, with_names}
use Rattle.uma_replay.proofs.hall.named_report.Goals as goal

pub returns : goal.returns
returns g c =
    let first = c.args.first in
    let totals = c.in_ok-totals.totals in
    let part = c.in_ok-part.part in
    IfOk-weaker c.with_names.result (λ (report : Report). report ≡ with_names first part) (HasNames g.N.NameCalls c.args.cache.now c.args.line.now c.args.name_works.now first)
    (λ report is. record {
      census = totals.census;
      tally = totals.tally;
      deferred = totals.deferred;
      closes = c.in_ok-totals.ensures;
      part = part;
      is_part = c.in_ok-part.ensures;
      whole = is;
    }) c.with_names.ensures
