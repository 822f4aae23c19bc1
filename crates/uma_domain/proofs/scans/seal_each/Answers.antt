use Rattle.std.proofs.Common.{◌<◌, ◌≤◌, ◌∙◌, ◌∷◌, ◌++◌, [], length, ap, sym, refl, arith}
use Rattle.smr_clock.specs.Belongs.{clock_id, view}
use Rattle.uma_domain.proofs.Tried.{tries_begin, tries_end, try_seals, try_refused}
use Rattle.uma_domain.proofs.scans.seal_each.Goals as goal
use Rattle.uma_domain.proofs.scans.seal_each.Goals.{in-Ok, in-Err}

pub loop-init : goal.loop-init
loop-init g c = record {
  here = c.requires.here;
  phase = refl;
  seen = omega arith;
  host = refl;
  few = omega arith;
  as_many = omega arith;
  sealed = omega arith;
  capacity = refl;
  capacity_loose = refl;
  trying = tries_begin g.H.Host.copied (clock_id c.args.clock.now) (view c.args.pass.now) c.args.loose.now.items c.args.sealed.now.items;
}

pub loop-preserved : goal.loop-preserved
loop-preserved g c =
    let at = c.loop.invariant in
    let within : c.loop.counter < length c.args.loose.now.items = omega (arith, c.loop-test.true, c.len-end.ensures, c.args.loose.now.ok.0) in
    elim c.match-seal.branch [
      | in-Ok w ↦ record {
        here = c.seal.ensures.here;
        phase = c.seal.ensures.phase ∙ at.phase;
        seen = omega (arith, c.seal.ensures.seen, at.seen);
        host = c.seal.ensures.host ∙ at.host;
        few = omega (arith, at.few, w.count-is);
        as_many = omega (arith, at.as_many, c.in-Some.ensures.cases, w.count-is, ap (λ q. q.len) w.loose-is);
        sealed = omega (arith, at.sealed, w.push_back_reserved.ensures.len, w.count-is, ap (λ q. q.len) w.sealed-is);
        capacity = ap (λ q. q.cap) w.sealed-is ∙ w.push_back_reserved.ensures.capacity ∙ at.capacity;
        capacity_loose = ap (λ q. q.cap) w.loose-is ∙ c.in-Some.ensures.capacity ∙ at.capacity_loose;
        trying = try_seals g.H.Host.copied (clock_id c.args.clock.now) (view c.args.pass.now) c.args.loose.now.items c.args.sealed.now.items c.loop.counter c.loop.count c.loop.loose.items c.loop.sealed.items (view c.loop.pass)
            c.in-Some.bucket c.match-seal.loose.items w.in-Ok.bucket (view c.seal.new.pass) c.match-seal.sealed.items c.match-seal.count
            within (c.in-Some.ensures.items ∙ ap (λ xs. c.in-Some.bucket ∷ xs) (sym (ap (λ q. q.items) w.loose-is))) w.in-Ok.ensures.seals w.in-Ok.ensures.of_clock (ap (λ q. q.items) w.sealed-is ∙ w.push_back_reserved.ensures.items) w.count-is at.trying;
      }
      | in-Err w ↦ record {
        here = c.seal.ensures.here;
        phase = c.seal.ensures.phase ∙ at.phase;
        seen = omega (arith, c.seal.ensures.seen, at.seen);
        host = c.seal.ensures.host ∙ at.host;
        few = omega (arith, at.few, w.count-is);
        as_many = omega (arith, at.as_many, c.in-Some.ensures.cases, w.push_back_reserved-in-Err.ensures.len, w.count-is, ap (λ q. q.len) w.loose-is);
        sealed = omega (arith, at.sealed, w.count-is, ap (λ q. q.len) w.sealed-is);
        capacity = ap (λ q. q.cap) w.sealed-is ∙ at.capacity;
        capacity_loose = ap (λ q. q.cap) w.loose-is ∙ w.push_back_reserved-in-Err.ensures.capacity ∙ c.in-Some.ensures.capacity ∙ at.capacity_loose;
        trying = try_refused g.H.Host.copied (clock_id c.args.clock.now) (view c.args.pass.now) c.args.loose.now.items c.args.sealed.now.items c.loop.counter c.loop.count c.loop.loose.items c.loop.sealed.items (view c.loop.pass)
            c.in-Some.bucket c.pop_front.new.self.items w.in-Err.field-0-1 (view c.seal.new.pass) c.match-seal.loose.items c.match-seal.sealed.items c.match-seal.count
            within c.in-Some.ensures.items w.in-Err.ensures.refused
            (ap (λ q. q.items) w.loose-is ∙ w.push_back_reserved-in-Err.ensures.items ∙ ap (λ x. c.pop_front.new.self.items ++ x ∷ []) w.in-Err.ensures.back)
            (ap (λ q. q.items) w.sealed-is) w.count-is at.trying;
      }
    ]

pub returns-clause-tried : goal.returns-clause-tried
returns-clause-tried g c =
    let past : length c.args.loose.now.items ≤ c.loop.counter = omega (arith, c.loop-test.false, c.len-end.ensures, c.args.loose.now.ok.0) in
    tries_end g.H.Host.copied (clock_id c.args.clock.now) (view c.args.pass.now) c.args.loose.now.items c.args.sealed.now.items c.loop.counter c.loop.count c.loop.loose.items c.loop.sealed.items (view c.loop.pass) past c.loop.invariant.trying
