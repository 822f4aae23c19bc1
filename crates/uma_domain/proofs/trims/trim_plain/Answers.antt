use Rattle.std.proofs.Common.{◌≡◌, ◌<◌, ◌≤◌, ◌∙◌, length, arith}
use Rattle.uma_domain.specs.Listed.{plain_len}
use Rattle.uma_domain.proofs.Trimmed.{plain_takes, first_is, first_fits}
use Rattle.uma_domain.proofs.trims.trim_plain.Goals as goal

pub loop-preserved : goal.loop-preserved
loop-preserved g c =
    let at = c.loop.invariant in
    let some : 0 < length c.loop.plain.items = omega (arith, at.as_many, c.loop-test.true, c.len-end.ensures, c.loop.plain.ok.0) in
    let size : c.from-len.result ≡ plain_len c.index.result.now = c.from-len.ensures ∙ c.len.ensures.len in
    let fits : plain_len c.index.result.now ≤ c.loop.remain = first_fits c.args.floor c.args.remain c.args.plain.now.items c.args.taken.now.items c.loop.remain c.loop.plain.items c.loop.taken.items c.index.result.now some c.index.ensures at.trimming in
    let same : c.from-len.result ≡ plain_len c.in-Some.bucket = size ∙ first_is c.loop.plain.items c.index.result.now c.in-Some.bucket c.pop_front.new.self.items c.in-Some.ensures.items c.index.ensures in
    record {
      as_many = omega (arith, at.as_many, c.in-Some.ensures.cases);
      room = omega (arith, at.room, c.in-Some.ensures.cases, c.push_back_reserved.ensures.len);
      capacity = c.push_back_reserved.ensures.capacity ∙ at.capacity;
      trimming = plain_takes c.args.floor c.args.remain c.args.plain.now.items c.args.taken.now.items c.loop.remain c.loop.plain.items c.loop.taken.items c.in-Some.bucket c.pop_front.new.self.items c.from-len.result c.push_back_reserved.new.self.items
          c.in-Some.ensures.items same (omega (arith, c.if-remain-len.false, fits, size)) c.push_back_reserved.ensures.items at.trimming;
    }
