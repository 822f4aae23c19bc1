use Rattle.std.proofs.Common.{rules}
use Rattle.uma_zone.specs.declared.zone.alloc.AllocAsk.{AllocAsk}
use Rattle.uma.proofs.Refusing.{fails, has_cause}
use Rattle.uma.proofs.local.Local.ask.Goals as goal

pub returns-in-Err-Refused : goal.returns-in-Err-Refused
returns-in-Err-Refused g c =
    let was = c.args.self.now in
    let zone = was.pool.now.zone in
    let ask : AllocAsk = record { arg = c.args.arg; reserve = c.args.reserve } in
    let why = c.in-Err-Refused in
    let counted = fails zone ask was.seat c.alloc.new.seat why.field-0 why.refusal why.field-0-is why.ensures.refused in
    let cause = has_cause zone ask was.seat c.alloc.new.seat why.field-0 why.refusal why.field-0-is why.ensures.refused in
    record {
      pool = search rules;
      home = search rules;
      served = search rules;
      counted = search rules;
      refused = search rules;
      told = (counted, cause);
      out = (counted.allocs, counted.frees);
    }
