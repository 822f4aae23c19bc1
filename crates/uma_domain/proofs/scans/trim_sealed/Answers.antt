use Rattle.std.proofs.Common.{◌≡◌, ◌<◌, ◌≤◌, ◌∙◌, length, arith, rules}
use Rattle.uma_domain.specs.Listed.{sealed_len}
use Rattle.uma_domain.proofs.Trimmed.{trim_begins, next_fits, trim_stops, trim_ends, trim_keeps, trim_takes}
use Rattle.uma_domain.proofs.scans.trim_sealed.Goals as goal

pub loop-at-init : goal.loop-at-init
loop-at-init g c = record {
  here = c.requires.here;
  within = omega arith;
  fewer = omega arith;
  capacity = search rules;
  room = omega (arith, c.requires.fits.room);
  trimming = trim_begins c.args.floor c.args.remain c.args.sealed.now.items c.args.taken.now.items c.requires.fits.enough;
}

pub returns-then-remain-len-clause-trimmed : goal.returns-then-remain-len-clause-trimmed
returns-then-remain-len-clause-trimmed g c =
    let within : c.loop-at.at < length c.loop-at.sealed.items = omega (arith, c.loop-at-test.true, c.len.ensures, c.loop-at.sealed.ok.0) in
    let size : c.from-len.result ≡ sealed_len c.index.result.now = c.from-len.ensures ∙ c.len-in-loop-at.ensures.len in
    trim_stops c.args.floor c.args.remain c.args.sealed.now.items c.args.taken.now.items c.loop-at.at c.loop-at.remain c.loop-at.sealed.items c.loop-at.taken.items c.index.result.now
    within c.index.ensures (omega (arith, c.if-remain-len.true, size)) c.loop-at.invariant.trimming

pub overflow_sub-remain-in-Some : goal.overflow_sub-remain-in-Some
overflow_sub-remain-in-Some g c =
    let within : c.loop-at.at < length c.loop-at.sealed.items = omega (arith, c.loop-at-test.true, c.len.ensures, c.loop-at.sealed.ok.0) in
    let size : c.from-len.result ≡ sealed_len c.index.result.now = c.from-len.ensures ∙ c.len-in-loop-at.ensures.len in
    let fits : sealed_len c.index.result.now ≤ c.loop-at.remain = next_fits c.args.floor c.args.remain c.args.sealed.now.items c.args.taken.now.items c.loop-at.at c.loop-at.remain c.loop-at.sealed.items c.loop-at.taken.items c.index.result.now within c.index.ensures c.loop-at.invariant.trimming in
    omega (arith, fits, size)

pub loop-at-preserved-in-Some : goal.loop-at-preserved-in-Some
loop-at-preserved-in-Some g c =
    let within : c.loop-at.at < length c.loop-at.sealed.items = omega (arith, c.loop-at-test.true, c.len.ensures, c.loop-at.sealed.ok.0) in
    let size : c.from-len.result ≡ sealed_len c.index.result.now = c.from-len.ensures ∙ c.len-in-loop-at.ensures.len in
    let fits : sealed_len c.index.result.now ≤ c.loop-at.remain = next_fits c.args.floor c.args.remain c.args.sealed.now.items c.args.taken.now.items c.loop-at.at c.loop-at.remain c.loop-at.sealed.items c.loop-at.taken.items c.index.result.now within c.index.ensures c.loop-at.invariant.trimming in
    let at = c.loop-at.invariant in
    record {
      here = c.in-Some.ensures.leaves.here;
      within = omega (arith, within, c.loop-at.sealed.ok.0, c.in-Some.ensures.leaves.some);
      fewer = omega (arith, at.fewer, c.in-Some.ensures.leaves.some);
      capacity = c.in-Some.ensures.leaves.capacity ∙ at.capacity;
      room = omega (arith, at.room, c.in-Some.ensures.leaves.some, c.push_back_reserved.ensures.len, c.push_back_reserved.ensures.capacity);
      trimming = trim_takes c.args.floor c.args.remain c.args.sealed.now.items c.args.taken.now.items c.loop-at.at c.loop-at.remain c.loop-at.sealed.items c.loop-at.taken.items c.take_if_ripe.new.sealed.items c.from-len.result c.in-Some.bucket c.push_back_reserved.new.self.items
          within c.index.result.now c.index.ensures size (omega (arith, c.if-remain-len.false, fits, size)) at.trimming c.in-Some.ensures.tried c.push_back_reserved.ensures.items;
    }

pub loop-at-preserved : goal.loop-at-preserved
loop-at-preserved g c =
    let within : c.loop-at.at < length c.loop-at.sealed.items = omega (arith, c.loop-at-test.true, c.len.ensures, c.loop-at.sealed.ok.0) in
    let size : c.from-len.result ≡ sealed_len c.index.result.now = c.from-len.ensures ∙ c.len-in-loop-at.ensures.len in
    let fits : sealed_len c.index.result.now ≤ c.loop-at.remain = next_fits c.args.floor c.args.remain c.args.sealed.now.items c.args.taken.now.items c.loop-at.at c.loop-at.remain c.loop-at.sealed.items c.loop-at.taken.items c.index.result.now within c.index.ensures c.loop-at.invariant.trimming in
    let at = c.loop-at.invariant in
    record {
      here = c.in-None.ensures.leaves.here;
      within = omega (arith, within, c.loop-at.sealed.ok.0, c.in-None.ensures.leaves.none);
      fewer = omega (arith, at.fewer, c.in-None.ensures.leaves.none);
      capacity = c.in-None.ensures.leaves.capacity ∙ at.capacity;
      room = omega (arith, at.room, c.in-None.ensures.leaves.none);
      trimming = trim_keeps c.args.floor c.args.remain c.args.sealed.now.items c.args.taken.now.items c.loop-at.at c.loop-at.remain c.loop-at.sealed.items c.loop-at.taken.items c.take_if_ripe.new.sealed.items c.from-len.result
          within c.index.result.now c.index.ensures size (omega (arith, c.if-remain-len.false, fits, size)) at.trimming c.in-None.ensures.tried;
    }

pub returns-clause-trimmed : goal.returns-clause-trimmed
returns-clause-trimmed g c =
    let past : length c.loop-at.sealed.items ≤ c.loop-at.at = omega (arith, c.loop-at-test.false, c.len.ensures, c.loop-at.sealed.ok.0) in
    trim_ends c.args.floor c.args.remain c.args.sealed.now.items c.args.taken.now.items c.loop-at.at c.loop-at.remain c.loop-at.sealed.items c.loop-at.taken.items past c.loop-at.invariant.trimming
