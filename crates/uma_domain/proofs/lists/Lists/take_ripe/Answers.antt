use Rattle.std.proofs.Common.{◌≡◌, ◌∙◌, refl, ap, arith, rules}
use Rattle.uma_domain.specs.Identity.{key_identity}
use Rattle.uma_domain.specs.Listed.{ripe_len}
use Rattle.uma_domain.proofs.Kept.{takes_ripe_of, takes_ripe_sum, all_stay_of, all_stay_sum}
use Rattle.uma_domain.proofs.lists.Lists.take_ripe.Goals as goal

pub invariant_of-self-clause-sealed_here : goal.invariant_of-self-clause-sealed_here
invariant_of-self-clause-sealed_here g c = all_stay_of (key_identity c.args.self.now.key.value) c.args.self.now.sealed.items c.take_first_ripe.new.sealed.items c.in_default.ensures.none c.args.self.now.sealed_here

pub invariant_of-self-clause-counted : goal.invariant_of-self-clause-counted
invariant_of-self-clause-counted g c =
    let same = all_stay_sum c.args.self.now.sealed.items c.take_first_ripe.new.sealed.items c.in_default.ensures.none in
    omega (arith, c.args.self.now.counted, same)

pub invariant_of-self-2-clause-sealed_here : goal.invariant_of-self-2-clause-sealed_here
invariant_of-self-2-clause-sealed_here g c = (takes_ripe_of (key_identity c.args.self.now.key.value) c.args.self.now.sealed.items c.in-Some.ripe c.take_first_ripe.new.sealed.items c.in-Some.ensures.some c.args.self.now.sealed_here).1

pub invariant_of-self-2-clause-counted : goal.invariant_of-self-2-clause-counted
invariant_of-self-2-clause-counted g c =
    let fewer = takes_ripe_sum c.args.self.now.sealed.items c.in-Some.ripe c.take_first_ripe.new.sealed.items c.in-Some.ensures.some in
    let size : c.from.result ≡ ripe_len c.in-Some.ripe = c.from.ensures ∙ c.len.ensures.len in
    omega (arith, c.args.self.now.counted, fewer, size, ap (λ w. w.count) c.moved_to-self.ensures)

pub returns : goal.returns
returns g c =
    let own = takes_ripe_of (key_identity c.args.self.now.key.value) c.args.self.now.sealed.items c.in-Some.ripe c.take_first_ripe.new.sealed.items c.in-Some.ensures.some c.args.self.now.sealed_here in
    record {
      oldest = c.in-Some.ensures.some;
      none = tt;
      counts = record {
        of_domain = own.0;
        working = search rules;
        hit = search rules;
        still = tt;
        miss = tt;
        raised = tt;
        loose = refl;
        identity = refl;
      };
      plain = refl;
    }
