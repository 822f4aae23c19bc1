use Rattle.std.proofs.Common.{◌<◌, ◌∙◌, length, arith}
use Rattle.uma_domain.proofs.Polled.{scan_more, scan_takes}
use Rattle.uma_domain.proofs.scans.take_first_ripe.Goals as goal

pub returns-in-Some : goal.returns-in-Some
returns-in-Some g c =
    let at = c.loop-at.invariant in
    let within : c.loop-at.at < length c.args.sealed.now.items = omega (arith, c.loop-at-test.true, c.len-at-end.ensures, c.args.sealed.now.ok.0) in
    record {
      some = scan_takes c.args.sealed.now.items c.loop-at.at c.loop-at.sealed.items c.take_if_ripe.new.sealed.items c.in-Some.ripe within (omega (arith, within, at.as_many, c.args.sealed.now.ok.0, c.loop-at.sealed.ok.0)) at.scanned c.in-Some.ensures.tried;
      none = tt;
      fewer = omega (arith, c.in-Some.ensures.leaves.some, at.as_many);
      capacity = c.in-Some.ensures.leaves.capacity ∙ at.capacity;
    }

pub loop-at-preserved : goal.loop-at-preserved
loop-at-preserved g c =
    let at = c.loop-at.invariant in
    let within : c.loop-at.at < length c.args.sealed.now.items = omega (arith, c.loop-at-test.true, c.len-at-end.ensures, c.args.sealed.now.ok.0) in
    record {
      here = c.in_default.ensures.leaves.here;
      as_many = c.in_default.ensures.leaves.none ∙ at.as_many;
      capacity = c.in_default.ensures.leaves.capacity ∙ at.capacity;
      scanned = scan_more c.args.sealed.now.items c.loop-at.at c.loop-at.sealed.items c.take_if_ripe.new.sealed.items within (omega (arith, within, at.as_many, c.args.sealed.now.ok.0, c.loop-at.sealed.ok.0)) at.scanned c.in_default.ensures.tried;
    }
